use Rattle.std.proofs.Common.{◌+◌, ◌^◌, ◌∙◌, ap, map, arith, w64, ◌+ℤ◌}
use lib.Lanes.{zip2}
use mir.Val.{to_z}
use Rattle.lane_filters.proofs.Signed.{lanes_fit, nearer, add_asks, add_is, sums_fit, sums_within, back}
use Rattle.lane_filters.proofs.sums.added.Goals as goal

pub overflow_add-result : goal.overflow_add-result
overflow_add-result c =
    let a = c.args.a in
    let b = c.args.b in
    add_asks w64 a b (lanes_fit a (nearer (2 ^ 60) (2 ^ 62) a (omega arith) c.requires.left)) (lanes_fit b (nearer (2 ^ 60) (2 ^ 62) b (omega arith) c.requires.right))
    (sums_fit a b c.requires.left c.requires.right)

pub returns : goal.returns
returns c =
    let a = c.args.a in
    let b = c.args.b in
    ap (map (to_z w64))
    (add_is w64 a b (lanes_fit a (nearer (2 ^ 60) (2 ^ 62) a (omega arith) c.requires.left)) (lanes_fit b (nearer (2 ^ 60) (2 ^ 62) b (omega arith) c.requires.right)))
    ∙ back w64 (zip2 (λ x y. x +ℤ y) a b)
    (lanes_fit (zip2 (λ x y. x +ℤ y) a b) (nearer (2 ^ 60 + 2 ^ 60) (2 ^ 62) (zip2 (λ x y. x +ℤ y) a b) (omega arith) (sums_within (2 ^ 60) (2 ^ 60) a b c.requires.left c.requires.right)))
