use Rattle.std.proofs.Common.{◌≡◌, ◌+◌, ◌*◌, [], map, get_or, Vec, Global}
use Rattle.std.specs.List.{flat_map}
use Rattle.stream_model.specs.Lists.{below}
use Rattle.flowgraph.specs.declared.parts.Input.{Input}
use Rattle.flowgraph.proofs.wiring.inputs.Given as goal

abbrev pub invariant-loop-port : goal.invariant-loop-port
invariant-loop-port l = l.row.items ≡ flat_map (λ p. get_or (map (λ (row : Vec Input Global). row.items) l.ports) (16 * l.block + p) []) (below l.port)
