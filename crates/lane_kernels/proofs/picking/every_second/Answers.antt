use Rattle.std.proofs.Common.{◌∙◌, ◌++◌, map, ap, pos, arith}
use Rattle.std.proofs.lemmas.List.{length-append}
use Rattle.lane_kernels.proofs.Seconds.{read_seconds}
use Rattle.lane_kernels.proofs.picking.every_second.Goals.{then-port-eq0, else-port-eq0}
use Rattle.lane_kernels.proofs.picking.every_second.Goals as goal

pub returns : goal.returns
returns c =
    let a = c.args.first ++ c.args.second in
    elim c.if-port-eq0.branch [
      | then-port-eq0 w ↦ ap (map pos) w.result-is ∙ read_seconds pos 0 0 c.args.port a (omega arith) (omega arith) (omega (arith, length-append c.args.first c.args.second))
      | else-port-eq0 w ↦ ap (map pos) w.result-is ∙ read_seconds pos 0 1 c.args.port a (omega arith) (omega arith) (omega (arith, length-append c.args.first c.args.second))
    ]
