-- Settings cut at an item.
use Rattle.std.proofs.Common.{◌≡◌, ℕ, ◌<◌, ◌≤◌, Bool, true, false, not, ◌&&◌, cond, inl, inr, List, [], ◌∷◌, ◌++◌, All, refl, sym, ap, ◌∙◌, subst, arith}
use Rattle.std.specs.Prelude.{filter, nat_le, nat_lt}
use Rattle.std.proofs.lemmas.Bool.{cases_Bool, le-leb, leb-true, leb-false, ltb-true, ltb-false, lt-ltb}
use Rattle.std.proofs.lemmas.List.Elements.{All-nil, All-cons, All-head, All-tail, All-weaker, filter_passes}
use Rattle.std.proofs.lemmas.List.Kept.{AllPairs-filter}
use Rattle.stream_model.specs.Settings.{Value, Held, setting_at, between, IsRising}
use Rattle.stream_model.proofs.Rising.{rising_tail, rising_head}
use Rattle.settings.proofs.Latest.{latest-later, latest-last}
use Rattle.settings.proofs.Made.{between_cut}

filter-none : {X : Type 0} (p : X → Bool) (xs : List X) → All (λ x. p x ≡ false) xs → filter p xs ≡ []
filter-none p [] none = refl
filter-none p (x ∷ xs) none =
    ap (λ b. cond b (x ∷ filter p xs) (filter p xs)) (All-head (λ x. p x ≡ false) x xs none) ∙ filter-none p xs (All-tail (λ x. p x ≡ false) x xs none)

filter-filter : {X : Type 0} (p q : X → Bool) (xs : List X) → filter p (filter q xs) ≡ filter (λ x. q x && p x) xs
filter-filter p q [] = refl
filter-filter p q (x ∷ xs) =
    elim (q x) as (λ b. filter p (cond b (x ∷ filter q xs) (filter q xs)) ≡ cond (b && p x) (x ∷ filter (λ x. q x && p x) xs) (filter (λ x. q x && p x) xs)) [
      | true ↦ ap (λ ys. cond (p x) (x ∷ ys) ys) (filter-filter p q xs)
      | false ↦ filter-filter p q xs
    ]

-- settings in order are those before an item, and then the others
pub cut_at : (p : ℕ → Bool) → ((m n : ℕ) → m < n → p n ≡ true → p m ≡ true) → (ts : List Held) → IsRising ts → filter (λ t. p t.at) ts ++ filter (λ t. not (p t.at)) ts ≡ ts
cut_at p falls [] rising = refl
cut_at p falls (t ∷ ts) rising =
    let rest : filter (λ u. p u.at) ts ++ filter (λ u. not (p u.at)) ts ≡ ts = cut_at p falls ts (rising_tail t ts rising) in
    elim (cases_Bool (p t.at)) [
      | inl before ↦ rw before (ap (λ us. t ∷ us) rest)
      | inr behind ↦
          let none : filter (λ u. p u.at) ts ≡ [] =
          filter-none (λ u. p u.at) ts (All-weaker (λ u. t.at < u.at) (λ u. p u.at ≡ false) (λ u later. elim (cases_Bool (p u.at)) [
            | inl holds ↦ absurd (let here = falls t.at u.at later holds in cc)
            | inr fails ↦ fails
          ]) ts (rising_head t ts rising)) in
          rw behind (ap (λ us. us ++ t ∷ filter (λ u. not (p u.at)) ts) none ∙ ap (λ us. t ∷ us) (ap (λ us. us ++ filter (λ u. not (p u.at)) ts) (sym none) ∙ rest))
    ]

up_to : (a m n : ℕ) → m < n → nat_le n a ≡ true → nat_le m a ≡ true
up_to a m n less high = le-leb m a (let h = leb-true n a high in omega arith)

below : (a m n : ℕ) → m < n → nat_lt n a ≡ true → nat_lt m a ≡ true
below a m n less high = lt-ltb m a (let h = ltb-true n a high in omega arith)

not_true : (b : Bool) → not b ≡ true → b ≡ false
not_true true e = cc
not_true false e = refl

-- the settings that item a does not read
later_ones : (a : ℕ) (ts : List Held) → All (λ t. a < t.at) (filter (λ t. not (nat_le t.at a)) ts)
later_ones a ts =
    All-weaker (λ t. not (nat_le t.at a) ≡ true) (λ t. a < t.at) (λ t e. leb-false t.at a (not_true (nat_le t.at a) e)) (filter (λ t. not (nat_le t.at a)) ts) (filter_passes (λ t. not (nat_le t.at a)) ts)

-- in force is the last of those up to the item, and the block's own where there is none
pub last_is : (own : Value) (ts us : List Held) (x : Held) (a : ℕ) → IsRising ts → filter (λ t. nat_le t.at a) ts ≡ us ++ x ∷ [] → x ≡ setting_at own ts a
last_is own ts us x a rising found =
    let rest : List Held = filter (λ t. not (nat_le t.at a)) ts in
    let whole : us ++ x ∷ rest ≡ ts = sym (append_one us x rest) ∙ ap (λ zs. zs ++ rest) (sym found) ∙ cut_at (λ n. nat_le n a) (up_to a) ts rising in
    let low : All (λ t. t.at ≤ a) (us ++ x ∷ []) =
    subst (All (λ t. t.at ≤ a)) found (All-weaker (λ t. nat_le t.at a ≡ true) (λ t. t.at ≤ a) (λ t e. leb-true t.at a e) (filter (λ t. nat_le t.at a) ts) (filter_passes (λ t. nat_le t.at a) ts)) in
    let front : IsRising (us ++ x ∷ []) = subst IsRising found (AllPairs-filter (λ (h u : Held). h.at < u.at) (λ t. nat_le t.at a) ts rising) in
    sym (ap (λ zs. setting_at own zs a) (sym whole)
    ∙ latest-last (record { at = 0; value = own }) us x rest a (omega arith) (before_last us x front) (last_all (λ t. t.at ≤ a) us x low)
    ∙ latest-later x rest a (later_ones a ts))
  where
    append_one : (us : List Held) (x : Held) (rest : List Held) → (us ++ x ∷ []) ++ rest ≡ us ++ x ∷ rest
    append_one [] x rest = refl
    append_one (u ∷ us) x rest = ap (λ zs. u ∷ zs) (append_one us x rest)

    last_all : (P : Held → Type 0) (us : List Held) (x : Held) → All P (us ++ x ∷ []) → P x
    last_all P [] x each = All-head P x [] each
    last_all P (u ∷ us) x each = last_all P us x (All-tail P u (us ++ x ∷ []) each)

    before_last : (us : List Held) (x : Held) → IsRising (us ++ x ∷ []) → All (λ u. u.at ≤ x.at) us
    before_last [] x rising = All-nil (λ u. u.at ≤ x.at)
    before_last (u ∷ us) x rising =
        let after : u.at < x.at = last_all (λ v. u.at < v.at) us x (rising_head u (us ++ x ∷ []) rising) in
        All-cons (λ v. v.at ≤ x.at) u us (omega arith) (before_last us x (rising_tail u (us ++ x ∷ []) rising))

pub none_is : (own : Value) (ts : List Held) (a : ℕ) → IsRising ts → filter (λ t. nat_le t.at a) ts ≡ [] → record { at = 0; value = own } ≡ setting_at own ts a
none_is own ts a rising none =
    let rest : List Held = filter (λ t. not (nat_le t.at a)) ts in
    let whole : rest ≡ ts = ap (λ zs. zs ++ rest) (sym none) ∙ cut_at (λ n. nat_le n a) (up_to a) ts rising in
    sym (ap (λ zs. setting_at own zs a) (sym whole) ∙ latest-later (record { at = 0; value = own }) rest a (later_ones a ts))

-- the settings made after item from and before item to
pub made_is : (own : Value) (ts : List Held) (from to : ℕ) → IsRising ts → from < to → setting_at own ts from ∷ filter (λ t. not (nat_le t.at from) && nat_lt t.at to) ts ≡ between own ts from to
made_is own ts from to rising order =
    let done : List Held = filter (λ t. nat_le t.at from) ts in
    let more : List Held = filter (λ t. not (nat_le t.at from)) ts in
    let xs : List Held = filter (λ t. nat_lt t.at to) more in
    let ys : List Held = filter (λ t. not (nat_lt t.at to)) more in
    let rises : IsRising more = AllPairs-filter (λ (h u : Held). h.at < u.at) (λ t. not (nat_le t.at from)) ts rising in
    let split : xs ++ ys ≡ more = cut_at (λ n. nat_lt n to) (below to) more rises in
    let whole : done ++ (xs ++ ys) ≡ ts = ap (λ zs. done ++ zs) split ∙ cut_at (λ n. nat_le n from) (up_to from) ts rising in
    let same : xs ≡ filter (λ t. not (nat_le t.at from) && nat_lt t.at to) ts = filter-filter (λ t. nat_lt t.at to) (λ t. not (nat_le t.at from)) ts in
    let cut : between own (done ++ (xs ++ ys)) from to ≡ setting_at own (done ++ (xs ++ ys)) from ∷ xs =
    between_cut own done xs ys from to (subst IsRising (sym split) rises) order
    (All-weaker (λ t. nat_le t.at from ≡ true) (λ t. t.at ≤ from) (λ t e. leb-true t.at from e) done (filter_passes (λ t. nat_le t.at from) ts))
    (subst (All (λ t. from < t.at)) (sym split) (later_ones from ts))
    (All-weaker (λ t. nat_lt t.at to ≡ true) (λ t. t.at < to) (λ t e. ltb-true t.at to e) xs (filter_passes (λ t. nat_lt t.at to) more))
    (All-weaker (λ t. not (nat_lt t.at to) ≡ true) (λ t. to ≤ t.at) (λ t e. ltb-false t.at to (not_true (nat_lt t.at to) e)) ys (filter_passes (λ t. not (nat_lt t.at to)) more)) in
    ap (λ zs. setting_at own ts from ∷ zs) (sym same) ∙ ap (λ zs. setting_at own zs from ∷ xs) (sym whole) ∙ sym cut ∙ ap (λ zs. between own zs from to) whole
