use Rattle.std.proofs.Common.{◌≡◌, ◌++◌}
use Rattle.std.specs.List.{flat_map}
use Rattle.stream_model.specs.Lists.{below}
use Rattle.drawings.specs.Dot.{port_text}
use Rattle.drawings.proofs.dot.push_ports.Given as goal

-- the first ports were written
abbrev pub invariant-loop-port : goal.invariant-loop-port
invariant-loop-port l = l.out.items ≡ l.initial.out.items ++ flat_map (port_text l.side) (below l.port)
