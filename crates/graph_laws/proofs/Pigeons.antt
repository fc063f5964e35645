-- More numbers than there are below a bound: two of them are the same.
use Rattle.std.proofs.Common.{◌≡◌, ℕ, zero, suc, ◌-◌, ◌<◌, ◌≤◌, min, List, length, get_or, arith, ap, sym, ◌∙◌, inl, inr}
use Rattle.std.specs.Prelude.{◌⊎◌, ◌≢◌}
use Rattle.std.proofs.lemmas.Bool.{cases_lt, cases_eq}
use Rattle.std.proofs.lemmas.List.{get_or_default}
use Rattle.std.specs.List.{Contains}

seek : (f : ℕ → ℕ) (v n : ℕ) → ((i : ℕ) × (i < n) × (f i ≡ v)) ⊎ ((i : ℕ) → i < n → f i ≢ v)
seek f v zero = inr (λ i h _. absurd (omega arith))
seek f v (suc n) =
    elim (cases_eq (f n) v) [
      | inl e ↦ inl (n, omega arith, e)
      | inr other ↦ elim (seek f v n) [
        | inl found ↦ (let lt = found.1 in inl (found.0, omega arith, found.2))
        | inr none ↦ inr (λ i lt e. elim (cases_lt i n) [
          | inl h ↦ none i h e
          | inr h ↦ (let same : n ≡ i = omega arith in other (ap f same ∙ e))
        ])
      ]
    ]

-- the numbers without v, moved together
without : ℕ → ℕ → ℕ
without v x = x - min 1 (x - v)

without-lt : (v x n : ℕ) → x ≢ v → v < suc n → x < suc n → without v x < n
unfolding without
without-lt v x n other hv hx = omega arith

without-same : (v x y : ℕ) → x ≢ v → y ≢ v → without v x ≡ without v y → x ≡ y
unfolding without
without-same v x y hx hy e = omega arith

pub pigeons : (n m : ℕ) (f : ℕ → ℕ) → n < m → ((i : ℕ) → i < m → f i < n) → (i : ℕ) × (j : ℕ) × (i < j) × (j < m) × (f i ≡ f j)
pigeons zero m f more below = absurd (let l = below 0 more in omega arith)
pigeons (suc n) zero f more below = absurd (omega arith)
pigeons (suc n) (suc m) f more below =
    elim (seek f (f m) m) [
      | inl found ↦ (found.0, m, found.1, omega arith, found.2)
      | inr none ↦ (let few : n < m = omega arith in
          let two = pigeons n m (λ i. without (f m) (f i)) few (λ i h. without-lt (f m) (f i) n (none i h) (below m (omega arith)) (below i (omega arith))) in
          let i = two.0 in
          let j = two.1 in
          let order = two.2 in
          let high = two.3 in
          (i, j, order, omega arith, without-same (f m) (f i) (f j) (none i (omega arith)) (none j high) two.4))
    ]

-- a list that has each number below m has at least m elements
module _ (m : ℕ) (xs : List ℕ) (has : (p : ℕ) → p < m → Contains xs p) where
  place : (p : ℕ) → (p < m) ⊎ (m ≤ p) → ℕ
  place p (inl h) = (has p h).0
  place p (inr h) = 0

  place_is : (p : ℕ) (s : (p < m) ⊎ (m ≤ p)) → p < m → (place p s < length xs) × (get_or xs (place p s) 0 ≡ p)
  unfolding place
  place_is p (inl h) low = let at = has p h in (at.1, get_or_default xs at.0 0 p at.1 ∙ at.2)
  place_is p (inr h) low = absurd (omega arith)

  pub covers : m ≤ length xs
  covers =
      elim (cases_lt (length xs) m) [
        | inl few ↦ (let two = pigeons (length xs) m (λ p. place p (cases_lt p m)) few (λ p h. (place_is p (cases_lt p m) h).0) in
            let i = two.0 in
            let j = two.1 in
            let order = two.2 in
            let high = two.3 in
            let low : i < m = omega arith in
            let first = (place_is i (cases_lt i m) low).1 in
            let second = (place_is j (cases_lt j m) high).1 in
            let same : i ≡ j = sym first ∙ ap (λ k. get_or xs k 0) two.4 ∙ second in
            omega arith)
        | inr enough ↦ enough
      ]
