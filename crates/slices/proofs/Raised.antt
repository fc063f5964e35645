-- Lists of numbers of which one rises.
use Rattle.std.proofs.Common.{◌≡◌, ℕ, ◌+◌, ◌*◌, ◌<◌, ◌≤◌, max, List, length, get_or, set, sum, arith, ap, ◌∙◌, inl, inr, All}
use Rattle.std.proofs.lemmas.Bool.{cases_eq}
use Rattle.std.proofs.lemmas.List.Sums.{sum_by-set, sum_by-le}
use Rattle.std.proofs.lemmas.List.{set-get_or, get_or-set_same, get_or-set_other}
use Rattle.std.proofs.lemmas.List.Elements.{All-set, All-get_or}

-- a sum of numbers none of which is above m
pub sum-most : (m : ℕ) (xs : List ℕ) → All (λ x. x ≤ m) xs → sum xs ≤ length xs * m
sum-most m xs all = sum_by-le (λ x. x) m xs all

module _ (xs : List ℕ) (i to : ℕ) (in' : i < length xs) where
  -- the list in which number i has risen to `to`
  abbrev pub raised : List ℕ
  raised = set xs i (max (get_or xs i 0) to)

  pub raised-here : get_or raised i 0 ≡ max (get_or xs i 0) to
  raised-here = get_or-set_same xs i (max (get_or xs i 0) to) 0 in'

  pub raised-kept : (b : ℕ) → get_or xs b 0 ≤ get_or raised b 0
  raised-kept b =
      elim (cases_eq b i) [
        | inl same ↦ (let here = raised-here in let e = ap (λ n. get_or raised n 0) same in let f = ap (λ n. get_or xs n 0) same in omega arith)
        | inr other ↦ (let e = get_or-set_other xs i b (max (get_or xs i 0) to) 0 other in omega arith)
      ]

  pub raised-le : (b x : ℕ) → get_or xs b 0 ≤ x → (b ≡ i → to ≤ x) → get_or raised b 0 ≤ x
  raised-le b x low new =
      elim (cases_eq b i) [
        | inl same ↦ (let here = raised-here in let e = ap (λ n. get_or raised n 0) same in let f = ap (λ n. get_or xs n 0) same in let h = new same in omega arith)
        | inr other ↦ (let e = get_or-set_other xs i b (max (get_or xs i 0) to) 0 other in omega arith)
      ]

  pub raised-more : get_or xs i 0 < to → sum xs < sum raised
  raised-more less = let s : sum raised + get_or xs i 0 ≡ sum xs + max (get_or xs i 0) to = sum_by-set (λ x. x) xs i (max (get_or xs i 0) to) 0 in' in omega arith

  pub raised-same : to ≤ get_or xs i 0 → raised ≡ xs
  raised-same le = let m : max (get_or xs i 0) to ≡ get_or xs i 0 = omega arith in ap (set xs i) m ∙ set-get_or xs i 0

  pub raised-few : (m : ℕ) → All (λ x. x ≤ m) xs → to ≤ m → All (λ x. x ≤ m) raised
  raised-few m all le =
      let here = All-get_or (λ x. x ≤ m) xs i 0 in' all in
      All-set (λ x. x ≤ m) xs i (max (get_or xs i 0) to) (omega arith) all
