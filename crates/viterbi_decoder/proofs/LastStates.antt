-- The path found for a block, one last state after the other.
use Rattle.std.proofs.Common.{◌≡◌, ℕ, ◌+◌, ◌<◌, ◌≤◌, ℤ, pos, List, Bool, true, false, Option, None, Some, refl, ap, sym, ◌∙◌}
use Rattle.std.specs.Prelude.{slice_index_or, if◌then◌else◌}
use Rattle.std.specs.Option.{option_map}
use Rattle.kind_model.specs.Trellis.{Trellis, states_of, may_be, paths_to, cost}
use Rattle.viterbi_decoder.specs.Found.{found, found_below, sum_in, is_less, AreSums}
use Rattle.viterbi_decoder.proofs.Cheapest.{joined, joined-picked}
use Rattle.viterbi_decoder.proofs.Compared.{sum-path}
use Rattle.viterbi_decoder.proofs.Rows.{cheapest-filtered}
use Rattle.viterbi_decoder.proofs.Costs.{apart}

found_below-more :
    (m : Trellis) (x : List ℤ) (i : ℕ) →
    found_below m x (i + 1) ≡ (if may_be m.end i then joined (cost m x 0 m.steps) (found_below m x i)
    (found m x m.steps i) else found_below m x i)
found_below-more m x i = cheapest-filtered (cost m x 0 m.steps) (paths_to m m.steps) (may_be m.end) i

-- a sum, a path
pub some-path : (f : List ℕ → ℤ) (w : ℤ) (o : Option (List ℕ)) → Some w ≡ option_map f o → (p : List ℕ) × (o ≡ Some p)
some-path f w (Some q) e = (q, refl)
some-path f w None e = apart w (sym e)

module _ (m : Trellis) (x : List ℤ) (i : ℕ) (sums : List ℤ) (sum least : Option ℤ) (here : i < states_of m) (few : m.steps ≤ 1024) (sums_are : AreSums m x m.steps sums) (sum_is : sum ≡ (if may_be m.end i then sum_in (slice_index_or sums i (pos 0)) else None)) (least_is : least ≡ option_map (cost m x 0 m.steps) (found_below m x i)) where
  v_is : sum_in (slice_index_or sums i (pos 0)) ≡ option_map (cost m x 0 m.steps) (found m x m.steps i)
  v_is = sum-path m x m.steps (found m x m.steps i) (slice_index_or sums i (pos 0)) few (sums_are.each i here)

  picked : found_below m x (i + 1) ≡ (if is_less sum least then found m x m.steps i else found_below m x i)
  picked = found_below-more m x i ∙ choose (may_be m.end i) sum_is
    where
      choose :
          (t : Bool) → sum ≡ (if t then sum_in (slice_index_or sums i (pos 0)) else None) →
          (if t then joined (cost m x 0 m.steps) (found_below m x i) (found m x m.steps i) else found_below m x i)
          ≡ (if is_less sum least then found m x m.steps i else found_below m x i)
      choose true e =
          let new = sym (e ∙ v_is) in
          let old = sym least_is in
          joined-picked (cost m x 0 m.steps) (found_below m x i) (found m x m.steps i)
          ∙ (λ j. if is_less (new j) (old j) then found m x m.steps i else found_below m x i)
      choose false e = sym (λ j. if is_less (e j) least then found m x m.steps i else found_below m x i)

  -- a state whose path costs no less than the one before it
  pub end-left : is_less sum least ≡ false → found_below m x (i + 1) ≡ found_below m x i
  end-left e = picked ∙ (λ j. if e j then found m x m.steps i else found_below m x i)

  -- a state whose path costs less
  pub end-taken : is_less sum least ≡ true → found_below m x (i + 1) ≡ found m x m.steps i
  end-taken e = picked ∙ (λ j. if e j then found m x m.steps i else found_below m x i)

  pub end-sum : is_less sum least ≡ true → sum ≡ option_map (cost m x 0 m.steps) (found m x m.steps i)
  end-sum h = choose (may_be m.end i) sum_is
    where
      none_less : is_less None least ≡ true → sum ≡ option_map (cost m x 0 m.steps) (found m x m.steps i)
      none_less h = cc

      choose : (t : Bool) → sum ≡ (if t then sum_in (slice_index_or sums i (pos 0)) else None) → sum
          ≡ option_map (cost m x 0 m.steps) (found m x m.steps i)
      choose true e = e ∙ v_is
      choose false e = none_less (sym (ap (λ n. is_less n least) e) ∙ h)
