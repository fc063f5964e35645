use Rattle.std.proofs.Common.{◌≡◌, ℕ, ◌<◌, pos, map}
use Rattle.stream_model.specs.Lists.{item}
use Rattle.kind_model.specs.Math.{looked_up}
use Rattle.math_blocks.proofs.map_bb.look_up_all.Given as goal

abbrev pub invariant-loop-k : goal.invariant-loop-k
invariant-loop-k l = (j : ℕ) → j < l.k → item (map pos l.out) j ≡ looked_up (map pos l.table) (item (map pos l.items) j)
