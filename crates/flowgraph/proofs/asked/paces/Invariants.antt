use Rattle.std.proofs.Common.{◌≡◌, ℕ, length}
use Rattle.std.specs.Prelude.{Some, slice_get}
use Rattle.block_trait.specs.declared.shape.Pace.{Pace}
use Rattle.block_trait.specs.Shape.{HasPace}
use Rattle.flowgraph.proofs.asked.paces.Given as goal

abbrev pub invariant-loop-input : goal.invariant-loop-input
invariant-loop-input g l =
    (length l.paces.items ≡ l.input)
    × ((p : ℕ) (pace : Pace) → slice_get l.paces.items p ≡ Some pace → HasPace (g.B.Block.meaning l.block) p pace)
