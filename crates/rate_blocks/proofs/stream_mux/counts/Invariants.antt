use Rattle.std.proofs.Common.{◌≡◌, take, length}
use Rattle.rate_blocks.specs.Lengths.{unsigned}
use Rattle.rate_blocks.proofs.stream_mux.counts.Given as goal

abbrev pub invariant-loop-p : goal.invariant-loop-p
invariant-loop-p l = record { size : length l.counts ≡ 16; are : take l.p l.counts ≡ unsigned (take l.p l.lengths) }
