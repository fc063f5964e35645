-- Where two rows lead to each state, the path found with one step more is the cheaper of two.
use Rattle.std.proofs.Common.{◌≡◌, ◌≢◌, inl, inr, ℕ, suc, ◌+◌, ◌*◌, ◌/◌, ◌<◌, ◌≤◌, ◌==◌, ℤ, pos, List, [], ◌∷◌, ◌++◌, Bool, true, false, length, map, filter, flat_map, set, replicate, int_lt, refl, ap, sym, subst, ◌∙◌, arith}
use Rattle.std.specs.Prelude.{slice_index_or, if◌then◌else◌}
use Rattle.std.proofs.lemmas.Bool.{cases_lt}
use Rattle.std.proofs.lemmas.Bool.Decides.{Decides-eqb}
use Rattle.std.proofs.lemmas.List.{append-nil, map-id, get_or-set_other, get_or-replicate}
use Rattle.std.proofs.lemmas.List.FromFn.{filter_of_map_range_with_len_more}
use Rattle.std.proofs.lemmas.Nat.{div_below, mul-add-lt}
use Rattle.std.proofs.lemmas.Grind.{get_or-set_at}
use Rattle.stream_model.specs.Lists.{below}
use Rattle.kind_model.specs.Trellis.{Trellis, IsTrellis, states_of, rows_to, paths_to, cost, cheapest}
use Rattle.viterbi_decoder.specs.Found.{found, behind, row_of_two, IsSum, AreSums, IsLastRow, AreLastRows, IsListed, AreListed, ArePairs, AreTaken, AreWays}
use Rattle.viterbi_decoder.proofs.Cheapest.{joined, cheapest-append}
use Rattle.viterbi_decoder.proofs.Compared.{joined-by}
use Rattle.viterbi_decoder.proofs.Rows.{cheapest-ways, last-behind}

filter-more : (test : ℕ → Bool) (i : ℕ) → filter test (below (i + 1)) ≡ filter test (below i)
    ++ (if test i then i ∷ [] else [])
filter-more test i =
    ap (filter test) (sym (map-id (below (i + 1)))) ∙ filter_of_map_range_with_len_more test (λ n. n) 0 i i
    (omega arith)
    ∙ ap (λ ns. filter test ns ++ (if test i then i ∷ [] else [])) (map-id (below i))

-- a list with one row more
listed-plus : (rows : List ℕ) (c e l i : ℕ) → IsListed rows c e l → IsListed (rows ++ (i ∷ [])) (c + 1) l i
listed-plus rows c e l i is =
    record {
      none = λ h. absurd (omega (arith, h));
      one = λ h. ap (λ rs. rs ++ (i ∷ [])) (is.none (omega (arith, h)));
      two = λ h. ap (λ rs. rs ++ (i ∷ [])) (is.one (omega (arith, h)));
    }

listed-same :
    (rs ss : List ℕ) (c d e f l k : ℕ) → rs ≡ ss → c ≡ d → e ≡ f → l ≡ k → IsListed ss d f k → IsListed rs c e l
listed-same rs ss c d e f l k a b g h is =
    subst (λ r. IsListed r c e l) (sym a) (subst (λ n. IsListed ss n e l) (sym b)
    (subst (λ n. IsListed ss d n l) (sym g) (subst (λ n. IsListed ss d f n) (sym h) is)))

module _ (m : Trellis) (i to : ℕ) (counts early late : List ℕ) (to_is : slice_index_or m.next i 0 ≡ to) (listed : AreListed m i counts early late) (counts_long : to < length counts) (early_long : to < length early) (late_long : to < length late) where
  here : (s : ℕ) → (slice_index_or m.next i 0 == s) ≡ true → s ≡ to
  here s d = sym ((Decides-eqb (slice_index_or m.next i 0) s).0 d) ∙ to_is

  elsewhere : (s : ℕ) → (slice_index_or m.next i 0 == s) ≡ false → s ≢ to
  elsewhere s d h = both d ((Decides-eqb (slice_index_or m.next i 0) s).1 (to_is ∙ sym h))
    where
      both : {b : Bool} → b ≡ false → b ≡ true → ⊥
      both e d = cc

  few_more :
      (s : ℕ) → s < states_of m → (t : Bool) → (slice_index_or m.next i 0 == s) ≡ t
      → slice_index_or (set counts to (slice_index_or counts to 0 + 1)) s 0 ≤ i + 1
  few_more s h false d =
      let few = listed.few s h in
      subst (λ n. n ≤ i + 1) (sym (get_or-set_other counts to s (slice_index_or counts to 0 + 1) 0 (elsewhere s d)))
      (omega (arith, few))
  few_more s h true d =
      let few : slice_index_or counts to 0 ≤ i = subst (λ n. slice_index_or counts n 0 ≤ i) (here s d) (listed.few s h)
      in
      subst (λ n. n ≤ i + 1) (sym (get_or-set_at counts to s (slice_index_or counts to 0 + 1) 0 (here s d) counts_long))
      (omega (arith, few))

  each_more :
      (s : ℕ) → s < states_of m → (t : Bool) → (slice_index_or m.next i 0 == s) ≡ t →
      IsListed (filter (λ r. slice_index_or m.next r 0 == s) (below (i + 1)))
      (slice_index_or (set counts to (slice_index_or counts to 0 + 1)) s 0)
      (slice_index_or (set early to (slice_index_or late to 0)) s 0) (slice_index_or (set late to i) s 0)
  each_more s h false d =
      let test : ℕ → Bool = λ r. slice_index_or m.next r 0 == s in
      let same = filter-more test i ∙ (λ j. filter test (below i) ++ (if d j then i ∷ [] else [])) ∙ append-nil
      (filter test (below i)) in
      listed-same _ _ _ _ _ _ _ _ same (get_or-set_other counts to s (slice_index_or counts to 0 + 1) 0 (elsewhere s d))
      (get_or-set_other early to s (slice_index_or late to 0) 0 (elsewhere s d))
      (get_or-set_other late to s i 0 (elsewhere s d)) (listed.each s h)
  each_more s h true d =
      let test : ℕ → Bool = λ r. slice_index_or m.next r 0 == s in
      let more = filter-more test i ∙ (λ j. filter test (below i) ++ (if d j then i ∷ [] else [])) in
      let at = here s d in
      listed-same _ _ _ _ _ _ _ _ more (get_or-set_at counts to s (slice_index_or counts to 0 + 1) 0 at counts_long ∙ ap
      (λ n. slice_index_or counts n 0 + 1) (sym at))
      (get_or-set_at early to s (slice_index_or late to 0) 0 at early_long ∙ ap (λ n. slice_index_or late n 0) (sym at))
      (get_or-set_at late to s i 0 at late_long)
      (listed-plus (filter test (below i)) (slice_index_or counts s 0) (slice_index_or early s 0)
      (slice_index_or late s 0) i (listed.each s h))

  -- with one row more
  pub listed-more : AreListed m (i + 1) (set counts to (slice_index_or counts to 0 + 1))
      (set early to (slice_index_or late to 0)) (set late to i)
  listed-more =
      record {
        few = λ s h. few_more s h (slice_index_or m.next i 0 == s) refl;
        each = λ s h. each_more s h (slice_index_or m.next i 0 == s) refl;
      }

pub none-listed : (m : Trellis) (n : ℕ) (early late : List ℕ) → states_of m ≤ n
    → AreListed m 0 (replicate n 0) early late
none-listed m n early late long =
    record {
      few = λ s h. subst (λ c. c ≤ 0) (sym (zero s h)) (omega arith);
      each = λ s h. subst (λ c. IsListed [] c (slice_index_or early s 0) (slice_index_or late s 0)) (sym (zero s h))
          (none (slice_index_or early s 0) (slice_index_or late s 0));
    }
  where
    zero : (s : ℕ) → s < states_of m → ◌≡◌ {A = ℕ} (slice_index_or (replicate n 0) s 0) 0
    zero s h = get_or-replicate n s 0 0 (omega (arith, h, long))

    none : (e l : ℕ) → IsListed [] 0 e l
    none e l = record { none = λ h. refl; one = λ h. absurd (omega (arith, h)); two = λ h. absurd (omega (arith, h)) }

pub paired :
    (m : Trellis) (counts early late : List ℕ) → AreListed m (length m.next) counts early late
    → ((s : ℕ) → s < states_of m → slice_index_or counts s 0 ≡ 2) →
    ArePairs m early late
paired m counts early late listed twos = record { each = λ s h. (listed.each s h).two (twos s h) }

module _ (m : Trellis) (x : List ℤ) (k s a b : ℕ) (sum other : ℤ) (rows_are : rows_to m s ≡ a ∷ b ∷ []) (sum_is : IsSum m x (suc k) (behind m x k a) sum) (other_is : IsSum m x (suc k) (behind m x k b) other) (few : suc k ≤ 1024) where
  abbrev ways : ℕ → List (List ℕ)
  ways r = map (λ path. r ∷ path) (paths_to m k (r / m.symbols))

  two_ways : found m x (suc k) s ≡ joined (cost m x 0 (suc k)) (behind m x k a) (behind m x k b)
  two_ways =
      ap (λ rs. cheapest (cost m x 0 (suc k)) (flat_map (λ r. map (λ path. r ∷ path) (paths_to m k (r / m.symbols)))
      rs)) rows_are
      ∙ cheapest-append (cost m x 0 (suc k)) (ways a) (ways b ++ [])
      ∙ (λ j. joined (cost m x 0 (suc k)) (cheapest-ways m x k a j) ((ap (cheapest (cost m x 0 (suc k)))
      (append-nil (ways b)) ∙ cheapest-ways m x k b) j))

  pair_found : found m x (suc k) s ≡ (if int_lt other sum then behind m x k b else behind m x k a)
  pair_found = two_ways ∙ joined-by m x (suc k) (behind m x k a) (behind m x k b) sum other few sum_is other_is

  pub pair-sum : IsSum m x (suc k) (found m x (suc k) s) (if int_lt other sum then other else sum)
  pair-sum = subst (λ o. IsSum m x (suc k) o (if int_lt other sum then other else sum)) (sym pair_found)
      (choose (int_lt other sum))
    where
      choose : (t : Bool) → IsSum m x (suc k) (if t then behind m x k b else behind m x k a) (if t then other else sum)
      choose true = other_is
      choose false = sum_is

  pub pair-row : IsLastRow m x k (found m x (suc k) s) (if int_lt other sum then b else a)
  pair-row = subst (λ o. IsLastRow m x k o (if int_lt other sum then b else a)) (sym pair_found)
      (choose (int_lt other sum))
    where
      choose : (t : Bool) → IsLastRow m x k (if t then behind m x k b else behind m x k a) (if t then b else a)
      choose true = record { is = λ p same. last-behind b (found m x k (b / m.symbols)) p same }
      choose false = record { is = λ p same. last-behind a (found m x k (a / m.symbols)) p same }

-- with one state more
pub taken-more :
    (m : Trellis) (x : List ℤ) (k t : ℕ) (sums : List ℤ) (early late : List ℕ) (are_late : List Bool) (v : ℤ)
    (is_late : Bool) →
    AreTaken m x k t sums (row_of_two m early late are_late k) → IsSum m x (suc k) (found m x (suc k) t) v →
    IsLastRow m x k (found m x (suc k) t) (if is_late then slice_index_or late t 0 else slice_index_or early t 0)
    → t < length sums →
    k * states_of m + t < length are_late →
    AreTaken m x k (t + 1) (set sums t v) (row_of_two m early late (set are_late (k * states_of m + t) is_late) k)
taken-more m x k t sums early late are_late v is_late taken sum_is row_is long
    room = record { sums_are = sums_are; rows_are = rows_are }
  where
    at_place : ℕ → Bool
    at_place s = slice_index_or (set are_late (k * states_of m + t) is_late) (k * states_of m + s) false

    sums_are : (s : ℕ) → s < t + 1 → IsSum m x (suc k) (found m x (suc k) s) (slice_index_or (set sums t v) s (pos 0))
    sums_are s h =
        elim (cases_lt s t) [
          | inl sooner ↦
              subst (λ z. IsSum m x (suc k) (found m x (suc k) s) z) (sym
              (get_or-set_other sums t s v (pos 0) (λ same. omega (arith, same, sooner)))) (taken.sums_are s sooner)
          | inr now ↦
              let at : s ≡ t = omega (arith, now, h) in
              subst (λ z. IsSum m x (suc k) (found m x (suc k) s) z) (sym (get_or-set_at sums t s v (pos 0) at long))
              (subst (λ n. IsSum m x (suc k) (found m x (suc k) n) v) (sym at) sum_is)
        ]

    rows_are : (s : ℕ) → s < t + 1 → IsLastRow m x k (found m x (suc k) s)
        (if at_place s then slice_index_or late s 0 else slice_index_or early s 0)
    rows_are s h =
        elim (cases_lt s t) [
          | inl sooner ↦
              subst (λ f. IsLastRow m x k (found m x (suc k) s) (if f then slice_index_or late s 0 else slice_index_or
              early s 0))
              (sym (get_or-set_other are_late (k * states_of m + t) (k * states_of m + s) is_late false
              (λ same. omega (arith, same, sooner)))) (taken.rows_are s sooner)
          | inr now ↦
              let at : s ≡ t = omega (arith, now, h) in
              subst (λ f. IsLastRow m x k (found m x (suc k) s) (if f then slice_index_or late s 0 else slice_index_or
              early s 0))
              (sym (get_or-set_at are_late (k * states_of m + t) (k * states_of m + s) is_late false
              (ap (λ n. k * states_of m + n) at) room))
              (subst (λ n. IsLastRow m x k (found m x (suc k) n) (if is_late then slice_index_or late n
              0 else slice_index_or early n 0)) (sym at) row_is)
        ]

pub taken-sums : (m : Trellis) (x : List ℤ) (k t : ℕ) (sums : List ℤ) (row : ℕ → ℕ) → t ≡ states_of m
    → AreTaken m x k t sums row → AreSums m x (suc k) sums
taken-sums m x k t sums row all taken = record { each = λ s h. taken.sums_are s (omega (arith, h, all)) }

pub taken-rows :
    (m : Trellis) (x : List ℤ) (k t : ℕ) (sums : List ℤ) (early late : List ℕ) (are_late old : List Bool) → t
    ≡ states_of m →
    AreTaken m x k t sums (row_of_two m early late are_late k) →
    ((i : ℕ) → i < k * states_of m → slice_index_or are_late i false ≡ slice_index_or old i false)
    → AreLastRows m x k (row_of_two m early late old) →
    AreLastRows m x (suc k) (row_of_two m early late are_late)
taken-rows m x k t sums early late are_late old all taken stays before = record { each = each }
  where
    each : (j s : ℕ) → j < suc k → s < states_of m → IsLastRow m x j (found m x (suc j) s)
        (row_of_two m early late are_late j s)
    each j s h l =
        elim (cases_lt j k) [
          | inl sooner ↦
              let place = mul-add-lt j (states_of m) s k sooner l in
              subst (λ f. IsLastRow m x j (found m x (suc j) s) (if f then slice_index_or late s 0 else slice_index_or
              early s 0))
              (sym (stays (j * states_of m + s) (omega (arith, place)))) (before.each j s sooner l)
          | inr now ↦
              let here : k ≡ j = omega (arith, now, h) in
              subst (λ n. IsLastRow m x n (found m x (suc n) s) (row_of_two m early late are_late n s)) here
              (taken.rows_are s (omega (arith, l, all)))
        ]

-- what a number of each of two rows is, is so of the one taken
pub chosen-of : (f : ℕ → ℕ) (t : Bool) (a b c d : ℕ) → c ≡ f a → d ≡ f b → (if t then c else d) ≡ f (if t then a else b)
chosen-of f true a b c d h j = h
chosen-of f false a b c d h j = j

pub chosen-below : (n : ℕ) (t : Bool) (a b : ℕ) → a < n → b < n → (if t then a else b) < n
chosen-below n true a b h j = h
chosen-below n false a b h j = j

-- a way leads from a state
pub from-within :
    (m : Trellis) (s : ℕ) (rows from outputs symbols : List ℕ) → IsTrellis m
    → AreWays m (states_of m) rows from outputs symbols → s < states_of m →
    slice_index_or from s 0 < states_of m
from-within m s rows from outputs symbols is ways h =
    let row = ways.rows_are s h in
    subst (λ n. n < states_of m) (sym (ways.from_are s h)) (div_below (slice_index_or rows s 0) m.symbols (states_of m)
    (omega (arith, is.some)) (omega (arith, is.whole, row)))
