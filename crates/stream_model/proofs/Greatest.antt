-- The search for the greatest count that passes a test.
use Rattle.std.proofs.Common.{◌≡◌, ℕ, zero, suc, ◌+◌, ◌<◌, ◌≤◌, Bool, true, false, refl, arith, ◌∙◌, subst, sym, inl, inr}
use Rattle.std.proofs.lemmas.Bool.{cases_lt}
use Rattle.stream_model.specs.Lists.{greatest_from, greatest}

-- what holds of both cases of a test holds of the choice
elim_both : {A : Type 0} (b : Bool) (x y : A) (P : A → Type 0) → (b ≡ true → P x) → (b ≡ false → P y) → P (elim b [ true ↦ x | false ↦ y ])
elim_both true x y P then else = then refl
elim_both false x y P then else = else refl

pub greatest_from-ge : (ok : ℕ → Bool) (n more : ℕ) → n ≤ greatest_from ok n more
greatest_from-ge ok n zero = omega arith
greatest_from-ge ok n (suc more) =
    elim_both (ok (suc n)) (greatest_from ok (suc n) more) n (λ g. n ≤ g)
    (λ _. omega (arith, greatest_from-ge ok (suc n) more)) (λ _. omega arith)

pub greatest_from-le : (ok : ℕ → Bool) (n more : ℕ) → greatest_from ok n more ≤ n + more
greatest_from-le ok n zero = omega arith
greatest_from-le ok n (suc more) =
    elim_both (ok (suc n)) (greatest_from ok (suc n) more) n (λ g. g ≤ n + suc more)
    (λ _. omega (arith, greatest_from-le ok (suc n) more)) (λ _. omega arith)

-- each count up to the answer passes
pub greatest_from-passes : (ok : ℕ → Bool) (n more k : ℕ) → n < k → k ≤ greatest_from ok n more → ok k ≡ true
greatest_from-passes ok n zero k above = λ upto. absurd (omega arith)
greatest_from-passes ok n (suc more) k above =
    elim_both (ok (suc n)) (greatest_from ok (suc n) more) n (λ g. k ≤ g → ok k ≡ true)
    (λ e upto. elim (cases_lt (suc n) k) [
      | inl h ↦ greatest_from-passes ok (suc n) more k h upto
      | inr h ↦ let same : suc n ≡ k = omega arith in subst (λ j. ok j ≡ true) same e
    ])
    (λ e upto. absurd (omega arith))

-- the count after the answer does not, unless the search came to its end
pub greatest_from-stops : (ok : ℕ → Bool) (n more : ℕ) → greatest_from ok n more < n + more → ok (suc (greatest_from ok n more)) ≡ false
greatest_from-stops ok n zero = λ below. absurd (omega arith)
greatest_from-stops ok n (suc more) =
    elim_both (ok (suc n)) (greatest_from ok (suc n) more) n (λ g. g < n + suc more → ok (suc g) ≡ false)
    (λ e below. let b : greatest_from ok (suc n) more < suc n + more = omega arith in greatest_from-stops ok (suc n) more b)
    (λ e below. e)

-- a count up to which each passes is reached
pub greatest_from-reaches : (ok : ℕ → Bool) (n more r : ℕ) → ((k : ℕ) → n < k → k ≤ r → ok k ≡ true) → r ≤ n + more → r ≤ greatest_from ok n more
greatest_from-reaches ok n zero r all upto = omega arith
greatest_from-reaches ok n (suc more) r all upto =
    elim_both (ok (suc n)) (greatest_from ok (suc n) more) n (λ g. r ≤ g)
    (λ e. let u : r ≤ suc n + more = omega arith in greatest_from-reaches ok (suc n) more r (λ k h. let h' : n < k = omega arith in all k h') u)
    (λ e. elim (cases_lt n r) [
      | inl h ↦ (let s : suc n ≤ r = omega arith in let t : ok (suc n) ≡ true = all (suc n) (omega arith) s in let bad : false ≡ true = sym e ∙ t in cc)
      | inr h ↦ h
    ])

pub greatest-le : (ok : ℕ → Bool) (most : ℕ) → greatest ok most ≤ most
greatest-le ok most = omega (arith, greatest_from-le ok 0 most)

pub greatest-passes : (ok : ℕ → Bool) (most k : ℕ) → 0 < k → k ≤ greatest ok most → ok k ≡ true
greatest-passes ok most k = greatest_from-passes ok 0 most k

pub greatest-stops : (ok : ℕ → Bool) (most : ℕ) → greatest ok most < most → ok (suc (greatest ok most)) ≡ false
greatest-stops ok most below = let b : greatest_from ok 0 most < 0 + most = omega arith in greatest_from-stops ok 0 most b

pub greatest-reaches : (ok : ℕ → Bool) (most r : ℕ) → ((k : ℕ) → 0 < k → k ≤ r → ok k ≡ true) → r ≤ most → r ≤ greatest ok most
greatest-reaches ok most r all upto = let u : r ≤ 0 + most = omega arith in greatest_from-reaches ok 0 most r all u

-- the answer is the count that passes with all before it, and whose next does not
pub greatest-is : (ok : ℕ → Bool) (most r : ℕ) → ((k : ℕ) → 0 < k → k ≤ r → ok k ≡ true) → r ≤ most → (r < most → ok (suc r) ≡ false) → greatest ok most ≡ r
greatest-is ok most r all upto next =
    elim (cases_lt r (greatest ok most)) [
      | inl h ↦ (let b : r < most = omega (arith, greatest-le ok most) in let t : ok (suc r) ≡ true = greatest-passes ok most (suc r) (omega arith) (omega arith) in let f = next b in cc)
      | inr h ↦ omega (arith, greatest-reaches ok most r all upto)
    ]
