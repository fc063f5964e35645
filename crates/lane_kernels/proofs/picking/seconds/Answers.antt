use Rattle.std.proofs.Common.{◌∙◌, map, drop, ap, pos, arith}
use Rattle.std.proofs.lemmas.List.{length-take-le, length-drop}
use Rattle.lane_kernels.specs.Streams.{deinterleaved}
use Rattle.lane_kernels.proofs.Seconds.{joined_turns}
use Rattle.lane_kernels.proofs.picking.seconds.Goals as goal

pub every_second-requires-clause-second : goal.every_second-requires-clause-second
every_second-requires-clause-second c = length-take-le 16 (drop 16 c.args.items.now) (omega (arith, length-drop 16 c.args.items.now))

pub returns : goal.returns
returns c = c.every_second.ensures ∙ ap (λ a. deinterleaved 16 2 c.args.port (map pos a)) (joined_turns c.args.items.now c.requires.two)
