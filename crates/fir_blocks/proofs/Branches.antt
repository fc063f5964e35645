-- Outputs that are written a branch at a time.
use Rattle.std.proofs.Common.{◌≡◌, ◌≢◌, ℕ, ◌+◌, ◌*◌, ◌%◌, ◌<◌, ◌≤◌, ℤ, pos, List, map, set, length, arith, ap, sym, ◌∙◌, inl, inr, mod-eq_of_lt}
use Rattle.std.proofs.lemmas.List.{length-map, get_or-set_other, map-set}
use Rattle.std.proofs.lemmas.Grind.{get_or-set_at}
use Rattle.std.proofs.lemmas.Bool.{cases_lt}
use Rattle.std.proofs.Math.Nat.{mul-add-mod_self_left}
use Rattle.stream_model.specs.Lists.{item}
use Rattle.kind_laws.specs.Rates.{item_of_firing}

-- the place of an output in its branch
place_of : (given phase m : ℕ) → phase < given → (m * given + phase) % given ≡ phase
place_of given phase m less = ap (λ k. k % given) (omega arith) ∙ mul-add-mod_self_left given m phase ∙ mod-eq_of_lt less

later : (given k m : ℕ) → k < m → k * given + given ≤ m * given
later given k m less = grind arith

module _ {X : Type 0} (number : X → ℤ) (out : List X) (given phase m : ℕ) (v : X) (less : phase < given) where
  -- one more of a branch is written
  pub branch_more :
      (count : ℕ) (f : ℕ → ℤ) → m < count → length out ≡ given * count → number v ≡ f m →
      ((k : ℕ) → k < m → item (map number out) (k * given + phase) ≡ f k) →
      (k : ℕ) → k < m + 1 → item (map number (set out (m * given + phase) v)) (k * given + phase) ≡ f k
  branch_more count f within long is before k h =
      let there : m * given + phase < given * count = item_of_firing given count m phase less within in
      let fits : m * given + phase < length (map number out) = omega (arith, there, long, length-map out number) in
      ap (λ zs. item zs (k * given + phase)) (map-set number out (m * given + phase) v)
      ∙ elim (cases_lt k m) [
        | inl earlier ↦
            let apart = later given k m earlier in
            get_or-set_other (map number out) (m * given + phase) (k * given + phase) (number v) (pos 0) (λ e. omega arith) ∙ before k earlier
        | inr now ↦
            let same : k ≡ m = omega arith in
            get_or-set_at (map number out) (m * given + phase) (k * given + phase) (number v) (pos 0) (ap (λ j. j * given + phase) same) fits ∙ is ∙ ap f (sym same)
      ]

  -- outputs of other branches stay
  pub branch_alone : (n : ℕ) → n % given ≢ phase → item (map number (set out (m * given + phase) v)) n ≡ item (map number out) n
  branch_alone n other =
      ap (λ zs. item zs n) (map-set number out (m * given + phase) v)
      ∙ get_or-set_other (map number out) (m * given + phase) n (number v) (pos 0) (λ e. other (ap (λ k. k % given) e ∙ place_of given phase m less))
