-- Outputs of polyphase filters.
use Rattle.std.proofs.Common.{◌≡◌, ℕ, ◌+◌, ◌-◌, ◌*◌, ◌/◌, ◌%◌, ◌<◌, ◌≤◌, ℤ, ◌*ℤ◌, pos, List, length, take, arith, ap, ap₂, sym, ◌∙◌}
use Rattle.std.proofs.lemmas.List.{get_or-take}
use Rattle.stream_model.specs.declared.vocabulary.ItemType.{ItemType}
use Rattle.stream_model.specs.Numbers.{sat, rnd}
use Rattle.stream_model.specs.Lists.{item, sum_below}
use Rattle.kind_model.specs.Kernels.{fir_row}
use Rattle.shape_laws.specs.Shaped.{item-listed, sum_below-same}
use Rattle.fir_blocks.specs.declared.polyphase.Polyphase.{Polyphase}
use Rattle.fir_blocks.specs.Polyphase.{phased}
use Rattle.fir_blocks.proofs.Products.{sum_reversed}

module _ (t : ItemType) (f : Polyphase) (h x : List ℤ) (n : ℕ) where
  -- by a branch that lies the last tap first
  pub branch_phased :
      (phase v : ℕ) (b : List ℤ) → n % f.given ≡ phase → v ≡ f.branch → ((j : ℕ) → j < f.branch → item b (f.branch - 1 - j) ≡ item h (phase + j * f.given)) →
      sat t (rnd (sum_below f.branch (λ j. item (take v b) j *ℤ item x (n / f.given * f.taken + j))) f.shift) ≡ phased t f h x n
  branch_phased phase v b place size taps =
      ap (λ z. sat t (rnd z f.shift))
      (sum_reversed (λ j. item (take v b) j *ℤ item x (n / f.given * f.taken + j)) f.branch
      ∙ sum_below-same f.branch _ _ (λ j within.
      let near : f.branch - 1 - j < v = omega arith in
      ap₂ ◌*ℤ◌ (get_or-take v b (f.branch - 1 - j) (pos 0) near ∙ taps j within ∙ ap (λ p. item h (p + j * f.given)) (sym place))
      (ap (item x) (omega arith))))

  -- by all taps in a row
  pub row_phased : (count : ℕ) → f.taken ≡ 1 → f.given ≡ 1 → length h ≡ f.branch → 1 ≤ f.branch → length x ≡ f.branch - 1 + f.taken * count → n < f.given * count → item (fir_row t h x f.shift) n ≡ phased t f h x n
  row_phased count takes gives long some window within =
      let few : n < length x - (length h - 1) = counted in
      item-listed (length x - (length h - 1)) _ n few
      ∙ (λ i. sat t (rnd (sum_below (long i) (λ j. item h j *ℤ item x (n + long i - 1 - j))) f.shift))
      ∙ ap (λ z. sat t (rnd z f.shift))
      (sum_below-same f.branch _ _ (λ j less.
      ap₂ ◌*ℤ◌ (ap (item h) (tap j)) (ap (item x) (newest j less))))
    where
      once : (m : ℕ) → m * f.taken ≡ m
      once m = ap (λ k. m * k) takes ∙ omega arith

      counted : n < length x - (length h - 1)
      counted = let c : f.taken * count ≡ count = ap (λ k. k * count) takes ∙ omega arith in
          let d : f.given * count ≡ count = ap (λ k. k * count) gives ∙ omega arith in omega arith

      tap : (j : ℕ) → j ≡ n % f.given + j * f.given
      tap j = (let one : n % 1 + j * 1 ≡ j = omega arith in sym one) ∙ ap (λ k. n % k + j * k) (sym gives)

      newest : (j : ℕ) → j < f.branch → n + f.branch - 1 - j ≡ f.branch - 1 + n / f.given * f.taken - j
      newest j less = (let one : f.branch - 1 + n / 1 * 1 - j ≡ n + f.branch - 1 - j = omega arith in sym one) ∙ (λ i. f.branch - 1 + n / sym gives i * sym takes i - j)
