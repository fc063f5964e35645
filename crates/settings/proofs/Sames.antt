-- Taps that are found equal one by one.
use Rattle.std.proofs.Common.{◌≡◌, ℤ, List, [], Bool, sym, ◌∙◌}
use Rattle.std.specs.Bool.{Decides}
use Rattle.std.specs.Ordering.{int_eq}
use Rattle.std.specs.Cmp.Lexicographic.{pointwise}
use Rattle.std.proofs.lemmas.Slice.Eq.{slice_eq-Decides}
use Rattle.std.proofs.lemmas.Bool.Decides.{Decides-int_eq}

pub same_numbers : (a b x y : List ℤ) (r : Bool) → x ≡ a → y ≡ b → r ≡ pointwise int_eq x y → Decides r (a ≡ b)
same_numbers a b x y r is_a is_b test =
    let decides = slice_eq-Decides Decides-int_eq x y r test in
    (λ t. sym is_a ∙ decides.0 t ∙ is_b, λ e. decides.1 (is_a ∙ e ∙ sym is_b))
