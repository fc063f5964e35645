use Rattle.std.proofs.Common.{◌≡◌, map, take}
use Rattle.slices.specs.Reaches.{reach_of}
use Rattle.slices.proofs.reach.reaches.Given as goal

abbrev pub invariant-loop-block : goal.invariant-loop-block
invariant-loop-block g l = l.reaches.items ≡ map (reach_of g.B.Block.meaning g.B.Forgets.looks_back l.content) (take l.block l.graph.blocks)
