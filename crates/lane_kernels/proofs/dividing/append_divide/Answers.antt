use Rattle.std.proofs.Common.{◌∙◌, ◌++◌, map, ap}
use Rattle.lane_kernels.proofs.Listed.{zipped_is_listed}
use Rattle.lane_kernels.proofs.dividing.append_divide.Goals as goal

pub returns-clause-items : goal.returns-clause-items
returns-clause-items g c =
    c.append_zip.ensures.items ∙ ap (λ ys. map g.T.Number.number c.args.out.now.items ++ ys) (zipped_is_listed g.T.Number.number _ c.args.a.now c.args.b.now c.requires.same_length)
