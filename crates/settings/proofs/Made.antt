-- The settings made after an item and before another.
use Rattle.std.proofs.Common.{◌≡◌, ℕ, zero, suc, ◌+◌, ◌-◌, ◌<◌, ◌≤◌, cond, inl, inr, Option, Some, None, List, [], ◌∷◌, ◌++◌, All, refl, sym, ap, ◌∙◌, arith}
use Rattle.std.specs.Prelude.{◌==◌, filter_map}
use Rattle.std.specs.List.{cons_option}
use Rattle.std.proofs.lemmas.Bool.{eq-eqb, ne_eqb, cases_order}
use Rattle.std.proofs.lemmas.List.Elements.{All-nil, All-head, All-tail, All-weaker, All-cons}
use Rattle.stream_model.specs.Lists.{numbers_from}
use Rattle.stream_model.specs.Settings.{Value, Held, latest, setting_at, made_at, between, IsRising}
use Rattle.stream_model.proofs.Latest.{latest-taken, latest-holds, latest-append}
use Rattle.stream_model.proofs.Rising.{rising_tail, rising_head}
use Rattle.settings.proofs.Latest.{latest-later, latest-past}

-- the setting made at exactly item a, where b is in force before
abbrev made : Held → List Held → ℕ → Option Held
made b ts a = cond ((latest b ts a).at == a) (Some (latest b ts a)) None

made-some : (b h : Held) (ts : List Held) (a : ℕ) → latest b ts a ≡ h → h.at ≡ a → made b ts a ≡ Some h
made-some b h ts a is here =
    ap (λ u. cond (u.at == a) (Some u) None) is ∙ ap (λ t. cond t (Some h) None) (eq-eqb h.at a here)

made-none : (b h : Held) (ts : List Held) (a : ℕ) → latest b ts a ≡ h → h.at < a → made b ts a ≡ None
made-none b h ts a is before =
    ap (λ u. cond (u.at == a) (Some u) None) is ∙ ap (λ t. cond t (Some h) None) (ne_eqb h.at a (λ e. omega arith))

-- equal functions from an item on
filter_map-agree : {X : Type 0} (f g : ℕ → Option X) (n k : ℕ) → ((a : ℕ) → n ≤ a → f a ≡ g a) → filter_map f (numbers_from n k) ≡ filter_map g (numbers_from n k)
filter_map-agree f g n zero same = refl
filter_map-agree f g n (suc k) same =
    let here : f n ≡ g n = same n (omega arith) in
    let rest : filter_map f (numbers_from (n + 1) k) ≡ filter_map g (numbers_from (n + 1) k) = filter_map-agree f g (n + 1) k (λ a le. same a (omega arith)) in
    λ i. cons_option (here i) (rest i)

-- what holds of each element holds of each of the first
all_left : {X : Type 0} (P : X → Type 0) (xs ys : List X) → All P (xs ++ ys) → All P xs
all_left P [] ys each = All-nil P
all_left P (x ∷ xs) ys each = All-cons P x xs (All-head P x (xs ++ ys) each) (all_left P xs ys (All-tail P x (xs ++ ys) each))

rising_left : (x : Held) (xs ys : List Held) → IsRising (x ∷ (xs ++ ys)) → All (λ t. x.at < t.at) xs
rising_left x xs ys rising = all_left (λ t. x.at < t.at) xs ys (rising_head x (xs ++ ys) rising)

all_later : (x : Held) (xs : List Held) (n : ℕ) → n < x.at → All (λ t. x.at < t.at) xs → All (λ t. n < t.at) (x ∷ xs)
all_later x xs n later after =
    All-cons (λ t. n < t.at) x xs later (All-weaker (λ t. x.at < t.at) (λ t. n < t.at) (λ t lt. omega arith) xs after)

-- item by item, the settings of the items from n to below n + k
made_in : (k n : ℕ) (b : Held) (xs ys : List Held) → b.at < n → IsRising (xs ++ ys) → All (λ t. n ≤ t.at) xs → All (λ t. t.at < n + k) xs → All (λ t. n + k ≤ t.at) ys → filter_map (made b (xs ++ ys)) (numbers_from n k) ≡ xs
made_in zero n b [] ys before rising low high later = refl
made_in zero n b (x ∷ xs) ys before rising low high later =
    let from : n ≤ x.at = All-head (λ t. n ≤ t.at) x xs low in
    let to : x.at < n + 0 = All-head (λ t. t.at < n + 0) x xs high in
    absurd (omega arith)
made_in (suc k) n b [] ys before rising low high later =
    let unmade : latest b ys n ≡ b = latest-later b ys n (All-weaker (λ t. n + suc k ≤ t.at) (λ t. n < t.at) (λ t le. omega arith) ys later) in
    let rest : filter_map (made b ys) (numbers_from (n + 1) k) ≡ [] =
    made_in k (n + 1) b [] ys (omega arith) rising (All-nil (λ t. n + 1 ≤ t.at)) (All-nil (λ t. t.at < (n + 1) + k)) (All-weaker (λ t. n + suc k ≤ t.at) (λ t. (n + 1) + k ≤ t.at) (λ t le. omega arith) ys later) in
    let none : made b ys n ≡ None = made-none b b ys n unmade before in
    λ i. cons_option (none i) (rest i)
made_in (suc k) n b (x ∷ xs) ys before rising low high later =
    let from : n ≤ x.at = All-head (λ t. n ≤ t.at) x xs low in
    let to : x.at < n + suc k = All-head (λ t. t.at < n + suc k) x xs high in
    let after : All (λ t. x.at < t.at) (xs ++ ys) = rising_head x (xs ++ ys) rising in
    let ends : All (λ t. (n + 1) + k ≤ t.at) ys = All-weaker (λ t. n + suc k ≤ t.at) (λ t. (n + 1) + k ≤ t.at) (λ t le. omega arith) ys later in
    let highs : All (λ t. t.at < (n + 1) + k) (x ∷ xs) = All-weaker (λ t. t.at < n + suc k) (λ t. t.at < (n + 1) + k) (λ t lt. omega arith) (x ∷ xs) high in
    elim (cases_order n x.at) [
      | inl here ↦
          let is : latest b (x ∷ (xs ++ ys)) n ≡ x =
          latest-taken b x (xs ++ ys) n (omega arith) (omega arith)
          ∙ latest-later x (xs ++ ys) n (All-weaker (λ t. x.at < t.at) (λ t. n < t.at) (λ t lt. omega arith) (xs ++ ys) after) in
          let some : made b (x ∷ (xs ++ ys)) n ≡ Some x = made-some b x (x ∷ (xs ++ ys)) n is (sym here) in
          let same : filter_map (made b (x ∷ (xs ++ ys))) (numbers_from (n + 1) k) ≡ filter_map (made x (xs ++ ys)) (numbers_from (n + 1) k) =
          filter_map-agree (made b (x ∷ (xs ++ ys))) (made x (xs ++ ys)) (n + 1) k (λ a le. ap (λ u. cond (u.at == a) (Some u) None) (latest-taken b x (xs ++ ys) a (omega arith) (omega arith))) in
          let rest : filter_map (made x (xs ++ ys)) (numbers_from (n + 1) k) ≡ xs =
          made_in k (n + 1) x xs ys (omega arith) (rising_tail x (xs ++ ys) rising) (All-weaker (λ t. x.at < t.at) (λ t. n + 1 ≤ t.at) (λ t lt. omega arith) xs (rising_left x xs ys rising)) (All-tail (λ t. t.at < (n + 1) + k) x xs highs) ends in
          λ i. cons_option (some i) ((same ∙ rest) i)
      | inr other ↦
          elim other [
            | inl later_on ↦
                let is : latest b (x ∷ (xs ++ ys)) n ≡ b = latest-later b (x ∷ (xs ++ ys)) n (all_later x (xs ++ ys) n later_on after) in
                let none : made b (x ∷ (xs ++ ys)) n ≡ None = made-none b b (x ∷ (xs ++ ys)) n is before in
                let rest : filter_map (made b (x ∷ (xs ++ ys))) (numbers_from (n + 1) k) ≡ x ∷ xs =
                made_in k (n + 1) b (x ∷ xs) ys (omega arith) rising (All-weaker (λ t. n < t.at) (λ t. n + 1 ≤ t.at) (λ t lt. omega arith) (x ∷ xs) (all_later x xs n later_on (rising_left x xs ys rising))) highs ends in
                λ i. cons_option (none i) (rest i)
            | inr earlier ↦ absurd (omega arith)
          ]
    ]

-- where the settings are cut after item from and before item to
pub between_cut : (own : Value) (done xs ys : List Held) (from to : ℕ) → IsRising (xs ++ ys) → from < to → All (λ t. t.at ≤ from) done → All (λ t. from < t.at) (xs ++ ys) → All (λ t. t.at < to) xs → All (λ t. to ≤ t.at) ys → between own (done ++ (xs ++ ys)) from to ≡ setting_at own (done ++ (xs ++ ys)) from ∷ xs
between_cut own done xs ys from to rising ordered past after high later =
    let first : Held = record { at = 0; value = own } in
    let b : Held = latest first done from in
    let low : b.at ≤ from = latest-holds (λ t. t.at ≤ from) first done from (omega arith) past in
    let same : filter_map (made_at own (done ++ (xs ++ ys))) (numbers_from (suc from) (to - suc from)) ≡ filter_map (made b (xs ++ ys)) (numbers_from (suc from) (to - suc from)) =
    filter_map-agree (made_at own (done ++ (xs ++ ys))) (made b (xs ++ ys)) (suc from) (to - suc from) (λ a le. ap (λ u. cond (u.at == a) (Some u) None) (latest-append first done (xs ++ ys) a ∙ ap (λ u. latest u (xs ++ ys) a) (latest-past first done from a past (omega arith)))) in
    let found : filter_map (made b (xs ++ ys)) (numbers_from (suc from) (to - suc from)) ≡ xs =
    made_in (to - suc from) (suc from) b xs ys (omega arith) rising (All-weaker (λ t. from < t.at) (λ t. suc from ≤ t.at) (λ t lt. omega arith) xs (all_left (λ t. from < t.at) xs ys after)) (All-weaker (λ t. t.at < to) (λ t. t.at < suc from + (to - suc from)) (λ t lt. omega arith) xs high) (All-weaker (λ t. to ≤ t.at) (λ t. suc from + (to - suc from) ≤ t.at) (λ t le. omega arith) ys later) in
    ap (λ zs. setting_at own (done ++ (xs ++ ys)) from ∷ zs) (same ∙ found)
