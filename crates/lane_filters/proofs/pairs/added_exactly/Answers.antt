use Rattle.std.proofs.Common.{◌∙◌, ap, map, w32, ◌+ℤ◌}
use lib.Lanes.{zip2}
use mir.Val.{to_z}
use Rattle.lane_filters.proofs.Signed.{add_asks, add_is, back}
use Rattle.lane_filters.proofs.NarrowSums.{lanes_fit_32, zipped_fit}
use Rattle.lane_filters.proofs.pairs.added_exactly.Goals as goal

pub overflow_add-result : goal.overflow_add-result
overflow_add-result c =
    add_asks w32 c.args.a c.args.b (lanes_fit_32 c.args.a c.requires.left) (lanes_fit_32 c.args.b c.requires.right) (zipped_fit c.args.a c.args.b c.requires.sums)

pub returns : goal.returns
returns c =
    ap (map (to_z w32)) (add_is w32 c.args.a c.args.b (lanes_fit_32 c.args.a c.requires.left) (lanes_fit_32 c.args.b c.requires.right))
    ∙ back w32 (zip2 (λ x y. x +ℤ y) c.args.a c.args.b) (lanes_fit_32 (zip2 (λ x y. x +ℤ y) c.args.a c.args.b) c.requires.sums)
