use Rattle.std.proofs.Common.{◌≡◌, map}
use Rattle.std.specs.List.{All}
use Rattle.stream_model.specs.Lists.{below}
use Rattle.stream_model.specs.Network.{writers_of}
use Rattle.flowgraph.specs.Ports.{net_from}
use Rattle.flowgraph.specs.Wiring.{writers_in, IsItsReader}
use Rattle.flowgraph.proofs.wiring.all_inputs.Given as goal

abbrev pub invariant-loop-block : goal.invariant-loop-block
invariant-loop-block l =
    (map writers_in l.rows ≡ map (writers_of (net_from l.connections)) (below l.block))
    × All (All (IsItsReader (net_from l.connections))) l.rows
