use Rattle.std.proofs.Common.{◌∙◌, ◌++◌, map, ap}
use Rattle.lane_kernels.proofs.Listed.{mapped_is_listed}
use Rattle.lane_kernels.proofs.comparing.append_clip.Goals as goal

pub returns-clause-items : goal.returns-clause-items
returns-clause-items g c =
    c.append_map.ensures.items ∙ ap (λ ys. map g.T.Number.number c.args.out.now.items ++ ys) (mapped_is_listed _ (map g.T.Number.number c.args.a.now))
