use Rattle.std.proofs.Common.{◌≡◌, [], map, Vec, Global}
use Rattle.std.specs.Prelude.{replicate}
use Rattle.flowgraph.proofs.by_port.empty_rows.Given as goal

abbrev pub invariant-loop : goal.invariant-loop
invariant-loop g l = map (λ (row : Vec g.row.T.Denot Global). row.items) l.rows.items ≡ replicate l.counter []
