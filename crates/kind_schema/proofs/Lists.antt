-- What the makers of lists and of codes answer, by the tests of parameters.
use Rattle.std.proofs.Common.{◌≡◌, ◌≢◌, ◌⊎◌, inl, inr, ℕ, suc, ◌+◌, ◌-◌, ◌*◌, ◌^◌, ◌<◌, ◌≤◌, ℤ, pos, ◌≤ℤ◌, ◌<ℤ◌, int_le, int_lt, Bool, true, false, ◌&&◌, List, [], ◌∷◌, length, take, drop, get_or, All, Option, Some, None, Result, Ok, Err, T, Decides, arith, refl, ap, sym, ◌∙◌, subst, add-one, drop-cons}
use Rattle.std.specs.Prelude.{nat_le, nat_lt, is_ok, is_some, not}
use Rattle.std.specs.List.{list_all, AllPairs}
use Rattle.std.specs.Ordering.{int_eq}
use Rattle.std.specs.Int.Signed.{lt_z_yes}
use Rattle.std.proofs.lemmas.Bool.{cases_lt}
use Rattle.std.proofs.lemmas.Bool.Decides.{Decides-and, Decides-by_and, Decides-like, Decides-not, Decides-ltb, Decides-int_eq}
use Rattle.std.proofs.lemmas.List.{take_all, length-take-le}
use Rattle.std.proofs.lemmas.List.Kept.{AllPairs-cons}
use Rattle.std.proofs.Math.Nat.{pow-suc, pow-le-pow_right}
use Rattle.stream_model.specs.declared.vocabulary.ItemType.{ItemType}
use Rattle.stream_model.specs.Meaning.{Meaning}
use Rattle.block_parameters.specs.declared.fault.Parameter.{Parameter}
use Rattle.block_parameters.specs.declared.fault.Parameter.TheVariants.{Values, Period, Offset, To, Code, Threshold}
use Rattle.block_parameters.specs.declared.fault.ParamFault.{ParamFault}
use Rattle.block_parameters.specs.declared.fault.ParamFault.TheVariants.{BadParameter, Memory}
use Rattle.kind_model.specs.Math.{table}
use Rattle.kind_model.specs.Rates.{insert, IsInsert, pattern}
use Rattle.kind_model.specs.BitStreams.{correlate_access_code}
use Rattle.math_blocks.specs.Kinds.{AreValues}
use Rattle.rate_blocks.specs.Inserts.{AreValues as AreInserted, IsPeriod, IsFirstBad, IsRefusal}
use Rattle.rate_blocks.specs.Orders.{ArePlaces}
use Rattle.kind_schema.specs.Tables.{type_or_byte, code_from}
use Rattle.kind_schema.specs.Ranges.{is_within, are_items, are_distinct, are_places, is_code}
use Rattle.kind_schema.specs.Kinds.{needs}
use Rattle.kind_schema.specs.Reading.{IsBad}
use Rattle.kind_schema.proofs.Tests.{passed, le-decides, int-decides, within-decides, items-decides}
use Rattle.kind_schema.proofs.Makers.{goes, stops}

-- a kind that takes a list which its test says is one of at most 256 numbers
module _ (test : List ℤ → Bool) (P : List ℤ → Type 0) (decides : (zs : List ℤ) → Decides (test zs) (P zs)) (few : (zs : List ℤ) → P zs → length zs ≤ 256) where
  too_long : (p : Parameter) (rest : Result Meaning Parameter) (zs : List ℤ) → 256 < length zs → needs (test zs) p rest ≡ Err p
  too_long p rest zs long = stops (test zs) p rest (decides zs) (λ h. let most = few zs h in absurd (omega arith))

  -- it makes the same of the first 257 numbers
  pub cut_list : (p : Parameter) (rest : List ℤ → Result Meaning Parameter) (zs : List ℤ) → needs (test (take 257 zs)) p (rest (take 257 zs)) ≡ needs (test zs) p (rest zs)
  cut_list p rest zs =
      elim (cases_lt 256 (length zs)) [
        | inl long ↦ let n = length-take-le 257 zs (omega arith) in too_long p (rest (take 257 zs)) (take 257 zs) (omega arith) ∙ sym (too_long p (rest zs) zs long)
        | inr short ↦ ap (λ ts. needs (test ts) p (rest ts)) (take_all 257 zs (omega arith))
      ]

  -- and where its maker tells just whether the list is bad
  pub list_bad :
      (zs : List ℤ) (p : Parameter) (m : Meaning) (fault : ParamFault) → (fault ≡ BadParameter p → P zs → ⊥) → (fault ≡ Memory → P zs) → (fault ≡ BadParameter p) ⊎ (fault ≡ Memory)
      → IsBad true (needs (test zs) p (Ok m)) fault
  list_bad zs p m fault bad good (inl e) = subst (IsBad true (needs (test zs) p (Ok m))) (sym e) (stops (test zs) p (Ok m) (decides zs) (bad e))
  list_bad zs p m fault bad good (inr e) = subst (IsBad true (needs (test zs) p (Ok m))) (sym e) (ap is_ok (goes (test zs) p (Ok m) (decides zs) (good e)))

module _ (t : ItemType) where
  pub cut_items : (p : Parameter) (rest : List ℤ → Result Meaning Parameter) (zs : List ℤ) → needs (are_items t (take 257 zs)) p (rest (take 257 zs)) ≡ needs (are_items t zs) p (rest zs)
  cut_items = cut_list (are_items t) (AreValues t) (items-decides t) (λ zs h. h.1)

  items_bad :
      (zs : List ℤ) (p : Parameter) (m : Meaning) (fault : ParamFault) → (fault ≡ BadParameter p → AreValues t zs → ⊥) → (fault ≡ Memory → AreValues t zs)
      → (fault ≡ BadParameter p) ⊎ (fault ≡ Memory) → IsBad true (needs (are_items t zs) p (Ok m)) fault
  items_bad = list_bad (are_items t) (AreValues t) (items-decides t) (λ zs h. h.1)

-- what a table means, by the type that it gives
abbrev pub tabled : Option ItemType → List ℤ → Result Meaning Parameter
tabled to zs = needs (is_some to) To (needs (are_items (type_or_byte to) zs) Values (Ok (table (type_or_byte to) zs)))

pub cut_tabled : (to : Option ItemType) (zs : List ℤ) → tabled to (take 257 zs) ≡ tabled to zs
cut_tabled to zs = ap (needs (is_some to) To) (cut_items (type_or_byte to) Values (λ ts. Ok (table (type_or_byte to) ts)) zs)

pub tabled_unnamed : (named : Option ItemType) (zs : List ℤ) (fault : ParamFault) → fault ≡ BadParameter To → named ≡ None → IsBad true (tabled named zs) fault
tabled_unnamed named zs fault is none = subst (IsBad true (tabled named zs)) (sym is) (ap (λ o. tabled o zs) none)

module _ (named : Option ItemType) (to : ItemType) (zs : List ℤ) (is : named ≡ Some to) where
  pub tabled_good : AreValues to zs → tabled named zs ≡ Ok (table to zs)
  tabled_good h = ap (λ o. tabled o zs) is ∙ goes (are_items to zs) Values (Ok (table to zs)) (items-decides to zs) h

  pub tabled_bad :
      (fault : ParamFault) → (fault ≡ BadParameter Values → AreValues to zs → ⊥) → (fault ≡ Memory → AreValues to zs)
      → (fault ≡ BadParameter Values) ⊎ (fault ≡ Memory) → IsBad true (tabled named zs) fault
  tabled_bad fault bad good either = subst (λ o. IsBad true (tabled o zs) fault) (sym is) (items_bad to zs Values (table to zs) fault bad good either)

-- what `insert` means, or the first of its parameters that is bad
abbrev pub inserted : ItemType → List ℤ → ℕ → ℕ → Result Meaning Parameter
inserted t zs period offset =
    needs (are_items t zs) Values (needs (nat_lt (length zs) period && nat_le period 1024) Period (needs (nat_le offset (period - length zs)) Offset (Ok (insert t zs period offset))))

inserted-decides : (t : ItemType) (zs : List ℤ) → Decides (are_items t zs) (AreInserted t zs)
inserted-decides t zs = Decides-like (are_items t zs) (λ (p : AreValues t zs). record { some = p.0; few = p.1; items = p.2 }) (λ (p : AreInserted t zs). (p.some, p.few, p.items)) (items-decides t zs)

period-decides : (zs : List ℤ) (period : ℕ) → Decides (nat_lt (length zs) period && nat_le period 1024) (IsPeriod zs period)
period-decides zs period = Decides-and (nat_lt (length zs) period) (nat_le period 1024) (Decides-ltb (length zs) period) (le-decides period 1024)

module _ (t : ItemType) (zs : List ℤ) (period offset : ℕ) where
  abbrev period_test : Bool
  period_test = nat_lt (length zs) period && nat_le period 1024

  pub insert_good : IsInsert t zs period offset → inserted t zs period offset ≡ Ok (insert t zs period offset)
  insert_good h =
      goes (are_items t zs) Values _ (items-decides t zs) (h.some, h.few, h.items) ∙ goes period_test Period _ (period-decides zs period) (h.above, h.most)
      ∙ goes (nat_le offset (period - length zs)) Offset _ (le-decides offset (period - length zs)) h.whole

  first_bad : (bad : Parameter) → IsFirstBad t zs period offset bad → inserted t zs period offset ≡ Err bad
  first_bad bad (inl h) = stops (are_items t zs) Values _ (inserted-decides t zs) h.1 ∙ ap Err (sym h.0)
  first_bad bad (inr (inl h)) = goes (are_items t zs) Values _ (inserted-decides t zs) h.1 ∙ stops period_test Period _ (period-decides zs period) h.2 ∙ ap Err (sym h.0)
  first_bad bad (inr (inr h)) =
      goes (are_items t zs) Values _ (inserted-decides t zs) h.1 ∙ goes period_test Period _ (period-decides zs period) h.2
      ∙ stops (nat_le offset (period - length zs)) Offset _ (le-decides offset (period - length zs)) h.3 ∙ ap Err (sym h.0)

  pub insert_bad : (fault : ParamFault) → IsRefusal t zs period offset fault → IsBad true (inserted t zs period offset) fault
  insert_bad (BadParameter bad) h = first_bad bad h
  insert_bad Memory h = ap is_ok (insert_good h)

pub cut_insert : (t : ItemType) (zs : List ℤ) (period offset : ℕ) → inserted t (take 257 zs) period offset ≡ inserted t zs period offset
cut_insert t zs period offset =
    cut_items t Values (λ ts. needs (nat_lt (length ts) period && nat_le period 1024) Period (needs (nat_le offset (period - length ts)) Offset (Ok (insert t ts period offset)))) zs

-- what `pattern` means, or that its values are bad
abbrev pub patterned : ItemType → List ℤ → Result Meaning Parameter
patterned t zs = needs (are_items t zs) Values (Ok (pattern t zs))

module _ (t : ItemType) (zs : List ℤ) where
  pub pattern_good : AreInserted t zs → patterned t zs ≡ Ok (pattern t zs)
  pattern_good h = goes (are_items t zs) Values _ (inserted-decides t zs) h

  pub pattern_bad :
      (fault : ParamFault) → (fault ≡ BadParameter Values → AreInserted t zs → ⊥) → (fault ≡ Memory → AreInserted t zs)
      → (fault ≡ BadParameter Values) ⊎ (fault ≡ Memory) → IsBad true (patterned t zs) fault
  pattern_bad fault bad good either =
      items_bad t zs Values (pattern t zs) fault (λ e are. bad e (record { some = are.0; few = are.1; items = are.2 })) (λ e. let are = good e in (are.some, are.few, are.items)) either

pub cut_pattern : (t : ItemType) (zs : List ℤ) → patterned t (take 257 zs) ≡ patterned t zs
cut_pattern t zs = cut_items t Values (λ ts. Ok (pattern t ts)) zs

-- the tests of an order decide that it is one of the places of a frame
below-decides : (y z : ℤ) → Decides (int_lt y z) (y <ℤ z)
below-decides y z = (λ e. lt_z_yes (subst T (sym e) tt), λ h. passed (int_lt y z) h.lt)

pub all_places-decides : (n : ℕ) (zs : List ℤ) → Decides (list_all (λ z. int_le (pos 0) z && int_lt z (pos n)) zs) (All (λ z. (pos 0 ≤ℤ z) × (z <ℤ pos n)) zs)
all_places-decides n zs =
    Decides-by_and (λ z. int_le (pos 0) z && int_lt z (pos n)) (λ z. (pos 0 ≤ℤ z) × (z <ℤ pos n)) (list_all (λ z. int_le (pos 0) z && int_lt z (pos n)))
    (λ z. Decides-and (int_le (pos 0) z) (int_lt z (pos n)) (int-decides (pos 0) z) (below-decides z (pos n))) refl (λ _ _. refl) zs

others-decides : (z : ℤ) (zs : List ℤ) → Decides (list_all (λ y. not (int_eq z y)) zs) (All (λ y. z ≢ y) zs)
others-decides z zs = Decides-by_and (λ y. not (int_eq z y)) (λ y. z ≢ y) (list_all (λ y. not (int_eq z y))) (λ y. Decides-not (int_eq z y) (Decides-int_eq z y)) refl (λ _ _. refl) zs

distinct-decides : (zs : List ℤ) → Decides (are_distinct zs) (AllPairs (λ y z. y ≢ z) zs)
distinct-decides [] = (λ _ i j d lt within. absurd (omega arith), λ _. refl)
distinct-decides (z ∷ zs) =
    Decides-like (are_distinct (z ∷ zs)) (λ (p : All (λ y. z ≢ y) zs × AllPairs (λ y z. y ≢ z) zs). AllPairs-cons (λ y z. y ≢ z) z zs p.0 p.1)
    (λ (h : AllPairs (λ y z. y ≢ z) (z ∷ zs)). (λ k d within. h 0 (suc k) d (omega arith) (omega arith), λ i j d lt within. h (suc i) (suc j) d (omega arith) (omega arith)))
    (Decides-and (list_all (λ y. not (int_eq z y)) zs) (are_distinct zs) (others-decides z zs) (distinct-decides zs))

pub places-decides : (zs : List ℤ) → Decides (are_places zs) (ArePlaces zs)
places-decides zs =
    Decides-like (are_places zs)
    (λ (p : ((1 ≤ length zs) × (length zs ≤ 256)) × (All (λ z. (pos 0 ≤ℤ z) × (z <ℤ pos (length zs))) zs × AllPairs (λ y z. y ≢ z) zs)). record { some = p.0.0; few = p.0.1; places = p.1.0; once = p.1.1 })
    (λ (p : ArePlaces zs). ((p.some, p.few), (p.places, p.once)))
    (Decides-and (is_within 1 256 (length zs)) _ (within-decides 1 256 (length zs)) (Decides-and _ (are_distinct zs) (all_places-decides (length zs) zs) (distinct-decides zs)))

pub cut_places : (p : Parameter) (rest : List ℤ → Result Meaning Parameter) (zs : List ℤ) → needs (are_places (take 257 zs)) p (rest (take 257 zs)) ≡ needs (are_places zs) p (rest zs)
cut_places = cut_list are_places ArePlaces places-decides (λ zs h. h.few)

pub places_bad :
    (zs : List ℤ) (p : Parameter) (m : Meaning) (fault : ParamFault) → (fault ≡ BadParameter p → ArePlaces zs → ⊥) → (fault ≡ Memory → ArePlaces zs) → (fault ≡ BadParameter p) ⊎ (fault ≡ Memory)
    → IsBad true (needs (are_places zs) p (Ok m)) fault
places_bad = list_bad are_places ArePlaces places-decides (λ zs h. h.few)

-- an access code has 1 to 64 digits, each 0 or 1
pub code-decides : (text : List ℕ) → Decides (is_code text) (((1 ≤ length text) × (length text ≤ 64)) × All (λ c. (48 ≤ c) × (c ≤ 49)) text)
code-decides text =
    Decides-and (is_within 1 64 (length text)) (list_all (is_within 48 49) text) (within-decides 1 64 (length text))
    (Decides-by_and (is_within 48 49) (λ c. (48 ≤ c) × (c ≤ 49)) (list_all (is_within 48 49)) (within-decides 48 49) refl (λ _ _. refl) text)

-- a digit more
pub code_from-more : (n i : ℕ) (text : List ℕ) (d : ℕ) → i < length text → code_from n (drop i text) ≡ code_from (2 * n + (get_or text i d - 48)) (drop (i + 1) text)
code_from-more n i text d lt = rw add-one (ap (code_from n) (drop-cons text i d lt))

pub below-more : (n i bit : ℕ) → n < 2 ^ i → bit ≤ 1 → 2 * n + bit < 2 ^ (i + 1)
below-more n i bit below few = let next : 2 ^ (i + 1) ≡ 2 ^ i * 2 = rw add-one (pow-suc 2 i) in omega arith

-- fewer than 64 digits leave room for one more
pub below-room : (n i : ℕ) → i < 64 → n < 2 ^ i → n < 9223372036854775808
below-room n i few below = let short : i ≤ 63 = omega arith in let most : 2 ^ i ≤ 2 ^ 63 = pow-le-pow_right (omega arith) short in omega arith

-- the block of an access code that is a text
abbrev pub correlated : List ℕ → ℕ → Result Meaning Parameter
correlated text most = needs (is_code text) Code (needs (nat_le most (length text)) Threshold (Ok (correlate_access_code (code_from 0 text) (length text) most)))

module _ (text : List ℕ) (most : ℕ) where
  pub code_bad : is_code text ≡ false → correlated text most ≡ Err Code
  code_bad bad = ap (λ b. needs b Code (needs (nat_le most (length text)) Threshold (Ok (correlate_access_code (code_from 0 text) (length text) most)))) bad

  of_code : is_code text ≡ true → correlated text most ≡ needs (nat_le most (length text)) Threshold (Ok (correlate_access_code (code_from 0 text) (length text) most))
  of_code good = ap (λ b. needs b Code (needs (nat_le most (length text)) Threshold (Ok (correlate_access_code (code_from 0 text) (length text) most)))) good

  pub code_good : is_code text ≡ true → most ≤ length text → correlated text most ≡ Ok (correlate_access_code (code_from 0 text) (length text) most)
  code_good good h = of_code good ∙ goes (nat_le most (length text)) Threshold _ (le-decides most (length text)) h

  -- a threshold that was refused is above the number of digits
  pub threshold_bad : (fault : ParamFault) → is_code text ≡ true → (most ≤ length text → ⊥) → (length text < most → fault ≡ BadParameter Threshold) → IsBad false (correlated text most) fault
  threshold_bad fault good refused is =
      elim (cases_lt (length text) most) [
        | inl over ↦ subst (IsBad false (correlated text most)) (sym (is over)) (of_code good ∙ stops (nat_le most (length text)) Threshold _ (le-decides most (length text)) refused)
        | inr within ↦ absurd (refused (omega arith))
      ]
