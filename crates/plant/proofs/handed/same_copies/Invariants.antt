use Rattle.std.proofs.Common.{◌≡◌, take}
use Rattle.plant.proofs.handed.same_copies.Given as goal

abbrev pub invariant-loop-block : goal.invariant-loop-block
invariant-loop-block l = take l.block l.one ≡ take l.block l.other
