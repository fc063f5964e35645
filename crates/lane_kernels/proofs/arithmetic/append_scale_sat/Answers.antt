use Rattle.std.proofs.Common.{◌∙◌, ◌++◌, map, ap, w16}
use Rattle.std.proofs.lemmas.Int.{to_z-of_z}
use Rattle.kind_model.specs.Kernels.{scaled}
use Rattle.lane_kernels.proofs.Listed.{mapped_is_listed}
use Rattle.lane_kernels.proofs.arithmetic.append_scale_sat.Goals as goal

pub returns-clause-items : goal.returns-clause-items
returns-clause-items g c =
    let number = g.T.Number.number in
    let numbers = map number c.args.a.now in
    c.append_map.ensures.items
    ∙ ap (λ ys. map number c.args.out.now.items ++ ys)
    ((λ i. map (scaled g.T.Number.kind (to_z-of_z w16 c.args.factor c.ranges.factor i) c.args.shift) numbers)
    ∙ mapped_is_listed (scaled g.T.Number.kind c.args.factor c.args.shift) numbers)
