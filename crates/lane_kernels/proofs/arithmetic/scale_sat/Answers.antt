use Rattle.std.proofs.Common.{◌∙◌, map, w16}
use Rattle.std.proofs.lemmas.Int.{to_z-of_z}
use Rattle.kind_model.specs.Kernels.{scaled}
use Rattle.lane_kernels.proofs.Listed.{mapped_is_listed}
use Rattle.lane_kernels.proofs.arithmetic.scale_sat.Goals as goal

pub returns : goal.returns
returns g c =
    let numbers = map g.T.Number.number c.args.a.now in
    c.map_blocks.ensures ∙ (λ i. map (scaled g.T.Number.kind (to_z-of_z w16 c.args.factor c.ranges.factor i) c.args.shift) numbers)
    ∙ mapped_is_listed (scaled g.T.Number.kind c.args.factor c.args.shift) numbers
