use Rattle.slices.proofs.Beginning.{AreStarts}
use Rattle.slices.proofs.first_firings.starts.Given as goal

abbrev pub invariant-loop-block : goal.invariant-loop-block
invariant-loop-block g l = AreStarts l.reaches l.first.items l.block
