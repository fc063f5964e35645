use Rattle.std.proofs.Common.{◌≡◌, map, take, Vec, Global}
use Rattle.flowgraph.specs.declared.parts.Connection.{Connection}
use Rattle.flowgraph.proofs.wiring.joined.Given as goal

abbrev pub invariant-loop-list : goal.invariant-loop-list
invariant-loop-list l = l.rows ≡ map (λ (list : Vec Connection Global). list.items) (take l.list-index l.lists)
