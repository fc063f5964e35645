use Rattle.std.proofs.Common.{◌≡◌, map}
use Rattle.stream_model.specs.Lists.{below}
use Rattle.flowgraph.specs.Ports.{ports_at}
use Rattle.flowgraph.proofs.ports.used_ports.Given as goal

abbrev pub invariant-loop-block : goal.invariant-loop-block
invariant-loop-block l = l.all.items ≡ map (ports_at l.connections l.fn.side) (below l.block)
