use Rattle.std.proofs.Common.{◌∙◌, ◌++◌, map, ap}
use Rattle.kind_model.specs.Kernels.{divide_const}
use Rattle.lane_kernels.proofs.Listed.{mapped_is_listed}
use Rattle.lane_kernels.proofs.dividing.append_divide_const.Goals as goal

pub returns-clause-items : goal.returns-clause-items
returns-clause-items g c =
    let number = g.T.Number.number in
    let xs = map number c.args.a.now in
    c.append_map.ensures.items ∙ ap (λ ys. map number c.args.out.now.items ++ ys) (mapped_is_listed _ xs)
    ∙ ap (λ by. map number c.args.out.now.items ++ divide_const g.T.Number.kind xs (number by)) c.with.ensures
