use Rattle.std.proofs.Common.{length}
use Rattle.flowgraph.specs.Searches.{IsSearch}
use Rattle.flowgraph.proofs.ranks.searched.Given as goal

abbrev pub invariant-steps : goal.invariant-steps
invariant-steps l = IsSearch (length l.neighbours) l.search
