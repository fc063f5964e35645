-- Lemmas on the settings in force.
use Rattle.std.proofs.Common.{◌≡◌, ◌≢◌, ℕ, zero, suc, ◌+◌, ◌-◌, ◌<◌, ◌≤◌, Bool, true, false, cond, All, nat_le, ◌&&◌, ◌==◌, List, [], ◌∷◌, Option, Some, None, refl, arith, ap, sym, ◌∙◌, subst, inl, inr}
use Rattle.std.specs.List.{filter_map, cons_option}
use Rattle.std.proofs.lemmas.List.Elements.{All-nil, All-cons}
use Rattle.std.proofs.lemmas.Bool.{cases_lt, eqb-true, eqb-false}
use Rattle.std.proofs.lemmas.Bool.Decides.{nat_tests}
use Rattle.stream_model.specs.Lists.{numbers_from}
use Rattle.stream_model.specs.Settings.{Value, Held, latest, setting_at, made_at, between}
use Rattle.block_trait.specs.InForce.{AreRising, AreOver}

-- what holds of both cases of a test holds of the choice
pub elim_both : {A : Type 0} (b : Bool) (x y : A) (P : A → Type 0) → (b ≡ true → P x) → (b ≡ false → P y) → P (cond b x y)
elim_both true x y P then else = then refl
elim_both false x y P then else = else refl

-- a setting that may replace h does, and any other does not
pub latest-taken : (h t : Held) (ts : List Held) (a : ℕ) → t.at ≤ a → h.at ≤ t.at → latest h (t ∷ ts) a ≡ latest t ts a
latest-taken h t ts a now rises = grind (arith, nat_tests)

pub latest-later : (h t : Held) (ts : List Held) (a : ℕ) → a < t.at → latest h (t ∷ ts) a ≡ latest h ts a
latest-later h t ts a later = grind (arith, nat_tests)

pub latest-lower : (h t : Held) (ts : List Held) (a : ℕ) → t.at < h.at → latest h (t ∷ ts) a ≡ latest h ts a
latest-lower h t ts a lower = grind (arith, nat_tests)

-- the setting in force was made no later than the item
pub latest-at_most : (h : Held) (ts : List Held) (a : ℕ) → h.at ≤ a → (latest h ts a).at ≤ a
latest-at_most h [] a made = made
latest-at_most h (t ∷ ts) a made =
    elim (cases_lt a t.at) [
      | inl later ↦ rw (latest-later h t ts a later) (latest-at_most h ts a made)
      | inr now ↦ elim (cases_lt t.at h.at) [
        | inl lower ↦ rw (latest-lower h t ts a lower) (latest-at_most h ts a made)
        | inr rises ↦ rw (latest-taken h t ts a now rises) (latest-at_most t ts a now)
      ]
    ]

-- and no earlier than the first
pub latest-at_least : (h : Held) (ts : List Held) (a : ℕ) → h.at ≤ (latest h ts a).at
latest-at_least h [] a = omega arith
latest-at_least h (t ∷ ts) a =
    elim (cases_lt a t.at) [
      | inl later ↦ rw (latest-later h t ts a later) (latest-at_least h ts a)
      | inr now ↦ elim (cases_lt t.at h.at) [
        | inl lower ↦ rw (latest-lower h t ts a lower) (latest-at_least h ts a)
        | inr rises ↦ let more = latest-at_least t ts a in rw (latest-taken h t ts a now rises) (omega arith)
      ]
    ]

-- from an item to the next the setting in force stays, unless one is made at exactly the next
pub latest-stays : (h : Held) (ts : List Held) (k : ℕ) → (latest h ts (suc k)).at ≢ suc k → latest h ts (suc k) ≡ latest h ts k
latest-stays h [] k other = refl
latest-stays h (t ∷ ts) k other =
    elim (cases_lt (suc k) t.at) [
      | inl later ↦ let before : k < t.at = omega arith in
          let e = latest-later h t ts (suc k) later in
          e ∙ latest-stays h ts k (subst (λ (x : Held). x.at ≢ suc k) e other) ∙ sym (latest-later h t ts k before)
      | inr now ↦ elim (cases_lt t.at h.at) [
        | inl lower ↦ let e = latest-lower h t ts (suc k) lower in
            e ∙ latest-stays h ts k (subst (λ (x : Held). x.at ≢ suc k) e other) ∙ sym (latest-lower h t ts k lower)
        | inr rises ↦ let e = latest-taken h t ts (suc k) now rises in
            let other' : (latest t ts (suc k)).at ≢ suc k = subst (λ (x : Held). x.at ≢ suc k) e other in
            elim (cases_lt k t.at) [
              | inl exact ↦ absurd (other' (let low = latest-at_least t ts (suc k) in let high = latest-at_most t ts (suc k) now in omega arith))
              | inr before ↦ e ∙ latest-stays t ts k other' ∙ sym (latest-taken h t ts k before rises)
            ]
      ]
    ]

-- settings that rise from the item on replace nothing
pub latest-rising : (h : Held) (ts : List Held) (a low high : ℕ) → a ≤ low → AreRising low high ts → latest h ts a ≡ h
latest-rising h [] a low high before rising = refl
latest-rising h (t ∷ ts) a low high before rising =
    let above = rising.0 in
    let later : a < t.at = omega arith in
    let before' : a ≤ t.at = omega arith in
    latest-later h t ts a later ∙ latest-rising h ts a t.at high before' rising.2

-- the setting in force is one of those that there are
latest-one_of : (P : Value → Type 0) (h : Held) (ts : List Held) (a : ℕ) → P h.value → All (λ (t : Held). P t.value) ts → P (latest h ts a).value
latest-one_of P h [] a mine each = mine
latest-one_of P h (t ∷ ts) a mine each =
    let rest : All (λ (t : Held). P t.value) ts = λ k d l. each (suc k) d (omega arith) in
    elim_both (nat_le t.at a && nat_le h.at t.at) (latest t ts a) (latest h ts a) (λ (x : Held). P x.value)
    (λ e. latest-one_of P t ts a (each 0 t (omega arith)) rest)
    (λ e. latest-one_of P h ts a mine rest)

module _ (own : Value) (ts : List Held) where
  pub setting_at-at_most : (a : ℕ) → (setting_at own ts a).at ≤ a
  setting_at-at_most a = latest-at_most (record { at = 0; value = own }) ts a (omega arith)

  -- the settings made at each of some items, in turn
  abbrev made : ℕ → ℕ → List Held
  made n count = filter_map (made_at own ts) (numbers_from n count)

  -- where none is made at the next item, what is in force stays
  setting_at-stays : (k n : ℕ) → n ≡ suc k → ((setting_at own ts n).at == n) ≡ false → setting_at own ts n ≡ setting_at own ts k
  setting_at-stays k n next e =
      let other : (setting_at own ts n).at ≢ n = eqb-false (setting_at own ts n).at n e in
      let other' : (setting_at own ts (suc k)).at ≢ suc k = subst (λ (m : ℕ). (setting_at own ts m).at ≢ m) next other in
      ap (setting_at own ts) next ∙ latest-stays (record { at = 0; value = own }) ts k other'

  -- those made from n on rise above what is before n
  pub AreRising-made : (n count low high : ℕ) → low < n → count ≤ high - n → AreRising low high (made n count)
  AreRising-made n zero low high above few = tt
  AreRising-made n (suc count) low high above few =
      elim_both ((setting_at own ts n).at == n) (Some (setting_at own ts n)) None (λ o. AreRising low high (cons_option o (made (n + 1) count)))
      (λ e.
      let here : (setting_at own ts n).at ≡ n = eqb-true (setting_at own ts n).at n e in
      let few' : count ≤ high - (n + 1) = omega arith in
      let above' : (setting_at own ts n).at < n + 1 = omega arith in
      (omega arith, omega arith, AreRising-made (n + 1) count (setting_at own ts n).at high above' few'))
      (λ e.
      let few' : count ≤ high - (n + 1) = omega arith in
      let above' : low < n + 1 = omega arith in
      AreRising-made (n + 1) count low high above' few')

  -- what was in force at k and what was made after it give what is in force at each item from k on
  pub latest-made : (k n count a : ℕ) → n ≡ suc k → k ≤ a → a ≤ k + count → latest (setting_at own ts k) (made n count) a ≡ setting_at own ts a
  latest-made k n zero a next from upto = let same : k ≡ a = omega arith in ap (setting_at own ts) same
  latest-made k n (suc count) a next from upto =
      elim (cases_lt k a) [
        | inl later ↦
            let from' : n ≤ a = omega arith in
            let upto' : a ≤ n + count = omega arith in
            let next' : n + 1 ≡ suc n = omega arith in
            let more = latest-made n (n + 1) count a next' from' upto' in
            let goes : Option Held → Type 0 = λ o. latest (setting_at own ts k) (cons_option o (made (n + 1) count)) a ≡ setting_at own ts a in
            elim_both ((setting_at own ts n).at == n) (Some (setting_at own ts n)) None goes
            (λ e.
            let here : (setting_at own ts n).at ≡ n = eqb-true (setting_at own ts n).at n e in
            let now : (setting_at own ts n).at ≤ a = omega arith in
            let low = setting_at-at_most k in
            let rises : (setting_at own ts k).at ≤ (setting_at own ts n).at = omega arith in
            latest-taken (setting_at own ts k) (setting_at own ts n) (made (n + 1) count) a now rises ∙ more)
            (λ e. subst (λ (h : Held). latest h (made (n + 1) count) a ≡ setting_at own ts a) (setting_at-stays k n next e) more)
        | inr exact ↦
            let same : k ≡ a = omega arith in
            let above : k < n = omega arith in
            let few : suc count ≤ n + suc count - n = omega arith in
            latest-rising (setting_at own ts k) (made n (suc count)) a k (n + suc count) exact (AreRising-made n (suc count) k (n + suc count) above few) ∙ ap (setting_at own ts) same
      ]

  -- what holds of the own value and of each that was set holds of what is in force
  All-made : (P : Value → Type 0) → P own → All (λ (h : Held). P h.value) ts → (n count : ℕ) → All (λ (h : Held). P h.value) (made n count)
  All-made P mine each n zero = All-nil (λ (h : Held). P h.value)
  All-made P mine each n (suc count) =
      let more = All-made P mine each (n + 1) count in
      elim_both ((setting_at own ts n).at == n) (Some (setting_at own ts n)) None (λ o. All (λ (h : Held). P h.value) (cons_option o (made (n + 1) count)))
      (λ e. All-cons (λ (h : Held). P h.value) (setting_at own ts n) (made (n + 1) count) (latest-one_of P (record { at = 0; value = own }) ts n mine each) more)
      (λ e. more)

  pub All-between : (P : Value → Type 0) → P own → All (λ (h : Held). P h.value) ts → (from to : ℕ) → All (λ (h : Held). P h.value) (between own ts from to)
  All-between P mine each from to =
      All-cons (λ (h : Held). P h.value) (setting_at own ts from) (made (suc from) (to - suc from)) (latest-one_of P (record { at = 0; value = own }) ts from mine each)
      (All-made P mine each (suc from) (to - suc from))

  -- what is in force over the items from `from` to below `to`, as `work` is given it
  pub AreOver-between : (from to : ℕ) → from ≤ to → AreOver from to (between own ts from to)
  AreOver-between from to rises =
      let few : to - suc from ≤ to - suc from = omega arith in
      let above : from < suc from = omega arith in
      (setting_at-at_most from, rises, AreRising-made (suc from) (to - suc from) from to above few)

  -- what a word of the settings reads at an item, it reads of the setting in force there
  pub latest-between : {X : Type 0} (f : Held → X) (from to a : ℕ) → from ≤ a → a < to →
      f (latest (setting_at own ts from) (made (suc from) (to - suc from)) a) ≡ f (setting_at own ts a)
  latest-between f from to a low high =
      let upto : a ≤ from + (to - suc from) = omega arith in
      ap f (latest-made from (suc from) (to - suc from) a refl low upto)
