-- The elements of lists that a test keeps, and the greatest of what a function gives of them.
use Rattle.std.proofs.Common.{◌≡◌, ℕ, zero, suc, ◌+◌, ◌<◌, ◌≤◌, max, Bool, true, false, List, [], ◌∷◌, map, length, get_or, refl, arith, ap, sym, ◌∙◌, subst, inl, inr}
use Rattle.std.specs.Prelude.{◌⊎◌, cond}
use Rattle.std.proofs.lemmas.Bool.{cases_lt, both_ways}
use Rattle.std.proofs.lemmas.List.{length-map, get_or-map}
use Rattle.std.proofs.lemmas.List.FromFn.{map-range_with_len_more}
use Rattle.std.proofs.lemmas.List.Sums.{fold-append}
use Rattle.std.proofs.lemmas.List.Elements.{All-filter, filter_passes, All-contains, All-contains_itself}
use Rattle.std.proofs.lemmas.List.Folds.{Any-from_list_any, list_any-from_Any}
use Rattle.std.specs.List.{Contains, AllPairs, filter, fold, list_any}
use Rattle.stream_model.specs.Lists.{below}
use Rattle.graph_model.specs.Rates.{greatest_of}
use Rattle.graph_model.proofs.FiringCounts.{All-unfilter}
use Rattle.graph_model.proofs.Sizes.{fold_max-each}

pub in_head : {X : Type 0} (x : X) (xs : List X) → Contains (x ∷ xs) x
in_head x xs = (0, omega arith, refl)

pub in_tail : {X : Type 0} (y x : X) (xs : List X) → Contains xs x → Contains (y ∷ xs) x
in_tail y x xs h = let lt = h.1 in (suc h.0, omega arith, h.2)

pub in_map : {X Y : Type 0} (f : X → Y) (xs : List X) (x : X) → Contains xs x → Contains (map f xs) (f x)
in_map f xs x h = (h.0, rw length-map h.1, get_or-map f xs h.0 x (f x) h.1 ∙ ap f h.2)

module _ {X : Type 0} (test : X → Bool) (xs : List X) (x : X) where
  pub in_filter : Contains xs x → test x ≡ true → Contains (filter test xs) x
  in_filter h e = All-contains (λ y. test y ≡ true → Contains (filter test xs) y) xs x (All-unfilter test (Contains (filter test xs)) xs (All-contains_itself (filter test xs))) h e

  pub from_filter : Contains (filter test xs) x → Contains xs x
  from_filter h = All-contains (Contains xs) (filter test xs) x (All-filter test (Contains xs) xs (All-contains_itself xs)) h

  pub filter_test : Contains (filter test xs) x → test x ≡ true
  filter_test h = All-contains (λ y. test y ≡ true) (filter test xs) x (filter_passes test xs) h

  pub any_from : Contains xs x → test x ≡ true → list_any test xs ≡ true
  any_from h e = list_any-from_Any test xs (h.0, x, h.1, h.2, e)

pub any_is : {X : Type 0} (test : X → Bool) (xs : List X) → list_any test xs ≡ true → (x : X) × Contains xs x × (test x ≡ true)
any_is test xs h = let a = Any-from_list_any test xs h in (a.1, (a.0, a.2, a.3), a.4)

pub greatest_of-from : (xs : List ℕ) (x : ℕ) → Contains xs x → x ≤ greatest_of xs
greatest_of-from xs x h = All-contains (λ y. y ≤ greatest_of xs) xs x (fold_max-each 0 xs) h

-- the greatest of one number more
pub greatest_of-more : (f : ℕ → ℕ) (n : ℕ) → greatest_of (map f (below (n + 1))) ≡ max (greatest_of (map f (below n))) (f n)
greatest_of-more f n = ap greatest_of (map-range_with_len_more f 0 n n (omega arith)) ∙ fold-append max 0 (map f (below n)) (f n ∷ [])

-- the greatest of what a function gives is the start, or given of an element
module _ {X : Type 0} (f : X → ℕ) where
  pub fold_max-is : (start : ℕ) (xs : List X) → (fold max start (map f xs) ≡ start) ⊎ ((x : X) × Contains xs x × (fold max start (map f xs) ≡ f x))
  fold_max-is start [] = inl refl
  fold_max-is start (x ∷ xs) =
      elim (fold_max-is (max start (f x)) xs) [
        | inl e ↦ elim (max_is start (f x)) [ inl l ↦ inl (e ∙ l) | inr r ↦ inr (x, in_head x xs, e ∙ r) ]
        | inr h ↦ inr (h.0, in_tail x h.0 xs h.1, h.2)
      ]
    where
      max_is : (a b : ℕ) → (max a b ≡ a) ⊎ (max a b ≡ b)
      max_is a b = elim (cases_lt a b) [ inl h ↦ inr (omega arith) | inr h ↦ inl (omega arith) ]

pub filter_none : {X : Type 0} (test : X → Bool) (xs : List X) → ((x : X) → Contains xs x → test x ≡ true → ⊥) → filter test xs ≡ []
filter_none {X} test xs none = empty (filter test xs) refl
  where
    empty : (ys : List X) → filter test xs ≡ ys → filter test xs ≡ []
    empty [] e = e
    empty (y ∷ ys) e =
        let kept : Contains (filter test xs) y = subst (λ l. Contains l y) (sym e) (in_head y ys) in
        absurd (none y (from_filter test xs y kept) (filter_test test xs y kept))

pub from_map : {X Y : Type 0} (f : X → Y) (xs : List X) (y : Y) → Contains (map f xs) y → (x : X) × Contains xs x × (f x ≡ y)
from_map f [] y h = absurd (let lt = h.1 in omega arith)
from_map {X} {Y} f (x ∷ xs) y h = at h.0 h.1 h.2 (from_map f xs y)
  where
    at : (k : ℕ) → k < length (map f (x ∷ xs)) → get_or (map f (x ∷ xs)) k y ≡ y → (Contains (map f xs) y → (x : X) × Contains xs x × (f x ≡ y)) → (z : X) × Contains (x ∷ xs) z × (f z ≡ y)
    at zero lt e rest = (x, in_head x xs, e)
    at (suc k) lt e rest = let r = rest (k, omega arith, e) in (r.0, in_tail x r.0 xs r.1, r.2)

-- where at most one element passes a test, a filter keeps that one
module _ {X : Type 0} (test : X → Bool) where
  pub filter_lone : (xs : List X) (x : X) → AllPairs (λ c d. ¬ ((test c ≡ true) × (test d ≡ true))) xs → Contains xs x → test x ≡ true → filter test xs ≡ x ∷ []
  filter_lone [] x apart h e = absurd (let lt = h.1 in omega arith)
  filter_lone (y ∷ ys) x apart h e =
      at (test y) refl h.0 h.1 h.2
      (λ there. filter_lone ys x (λ i j d l u. apart (suc i) (suc j) d (omega arith) (omega arith)) there e)
    where
      after : (z : X) → Contains ys z → test y ≡ true → test z ≡ true → ⊥
      after z there t u = apart 0 (suc there.0) z (omega arith) (let lt = there.1 in omega arith) (t, subst (λ w. test w ≡ true) (sym there.2) u)

      at : (b : Bool) → test y ≡ b → (k : ℕ) → k < length (y ∷ ys) → get_or (y ∷ ys) k x ≡ x → (Contains ys x → filter test ys ≡ x ∷ []) → cond b (y ∷ filter test ys) (filter test ys) ≡ x ∷ []
      at true t zero lt s rest =
          let none : filter test ys ≡ [] = filter_none test ys (λ z there u. after z there t u) in
          ap (λ l. y ∷ l) none ∙ ap (λ w. w ∷ []) s
      at true t (suc k) lt s rest = absurd (after x (k, omega arith, s) t e)
      at false t zero lt s rest = absurd (both_ways (test y) t (subst (λ w. test w ≡ true) (sym s) e))
      at false t (suc k) lt s rest = rest (k, omega arith, s)
