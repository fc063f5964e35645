-- What firings give: cut anywhere, and as the inputs grow.
use Rattle.std.proofs.Common.{◌≡◌, ℕ, zero, suc, ◌+◌, ◌-◌, ◌<◌, ◌≤◌, List, ◌∷◌, ◌++◌, map, length, refl, arith, ap, subst, ◌∙◌, ℤ, suc-add}
use Rattle.std.proofs.Math.Nat.{zero-add, add-zero}
use Rattle.std.proofs.lemmas.List.{map-append}
use Rattle.std.proofs.lemmas.List.FromFn.{length-map-range_with_len}
use Rattle.stream_model.specs.Lists.{numbers_from}
use Rattle.stream_model.specs.Settings.{Held}
use Rattle.stream_model.specs.Meaning.{Meaning, IsLawful, given_items, SameSettings, SameInputs}
use Rattle.stream_model.proofs.Counts.{given-rises, given-zero}

pub numbers_from-append : (n a b : ℕ) → numbers_from n (a + b) ≡ numbers_from n a ++ numbers_from (n + a) b
numbers_from-append n zero b = rw (zero-add b, add-zero n) refl
numbers_from-append n (suc a) b =
    rw (suc-add a b) (ap (λ l. n ∷ l) (numbers_from-append (n + 1) a b ∙ (let e : n + 1 + a ≡ n + suc a = omega arith in ap (λ k. numbers_from (n + 1) a ++ numbers_from k b) e)))

-- two functions that agree on these numbers give one list
pub map-numbers_from : {A : Type 0} (f g : ℕ → A) (n count : ℕ) → ((j : ℕ) → n ≤ j → j < n + count → f j ≡ g j) → map f (numbers_from n count) ≡ map g (numbers_from n count)
map-numbers_from f g n zero same = refl
map-numbers_from f g n (suc count) same =
    let head : f n ≡ g n = same n (omega arith) (omega arith) in
    let tail = map-numbers_from f g (n + 1) count (λ j low high. let l : n ≤ j = omega arith in let h : j < n + suc count = omega arith in same j l h) in
    cc

module _ (m : Meaning) (lawful : IsLawful m) where
  -- what a + b firings give is what a give, and then what the next b give
  pub given_items-cut : (ts : List Held) (xs : List (List ℤ)) (first a b p : ℕ) → given_items m ts xs first (a + b) p ≡ given_items m ts xs first a p ++ given_items m ts xs (first + a) b p
  given_items-cut ts xs first a b p =
      let e : first + (a + b) ≡ first + a + b = omega arith in
      let low : m.given first ≤ m.given (first + a) = given-rises m lawful first (first + a) (omega arith) in
      let high : m.given (first + a) ≤ m.given (first + a + b) = given-rises m lawful (first + a) (first + a + b) (omega arith) in
      let whole : m.given (first + a + b) - m.given first ≡ m.given (first + a) - m.given first + (m.given (first + a + b) - m.given (first + a)) = omega arith in
      let start : m.given first + (m.given (first + a) - m.given first) ≡ m.given (first + a) = omega arith in
      rw (e, whole, numbers_from-append (m.given first) (m.given (first + a) - m.given first) (m.given (first + a + b) - m.given (first + a)), map-append, start) refl

  pub given_items-more : (ts : List Held) (xs : List (List ℤ)) (p a b : ℕ) → given_items m ts xs 0 (a + b) p ≡ given_items m ts xs 0 a p ++ given_items m ts xs a b p
  given_items-more ts xs p a b = subst (λ k. given_items m ts xs 0 (a + b) p ≡ given_items m ts xs 0 a p ++ given_items m ts xs k b p) (zero-add a) (given_items-cut ts xs 0 a b p)

  pub length-given_items : (ts : List Held) (xs : List (List ℤ)) (p k : ℕ) → length (given_items m ts xs 0 k p) ≡ m.given k
  length-given_items ts xs p k =
      let g0 = given-zero m lawful in
      rw (length-map-range_with_len, zero-add k, g0) (omega arith)

  -- firings that take the same give the same
  pub given_items-alike : (ts us : List Held) (xs ys : List (List ℤ)) (first n p : ℕ) → p < m.outputs.most → SameSettings m (first + n) ts us → SameInputs m (first + n) xs ys → given_items m ts xs first n p ≡ given_items m us ys first n p
  given_items-alike ts us xs ys first n p port settings inputs =
      map-numbers_from (m.out ts xs p) (m.out us ys p) (m.given first) (m.given (first + n) - m.given first)
      (λ j low high.
      let rise = given-rises m lawful first (first + n) (omega arith) in
      let below : j < m.given (first + n) = omega arith in
      lawful.local ts us xs ys (first + n) p j port settings inputs below)

  pub given_items-same : (ts us : List Held) (xs ys : List (List ℤ)) (p k : ℕ) → p < m.outputs.most → SameSettings m k ts us → SameInputs m k xs ys → given_items m ts xs 0 k p ≡ given_items m us ys 0 k p
  given_items-same ts us xs ys p k port settings inputs = let e : 0 + k ≡ k = zero-add k in given_items-alike ts us xs ys 0 k p port (rw e settings) (rw e inputs)
