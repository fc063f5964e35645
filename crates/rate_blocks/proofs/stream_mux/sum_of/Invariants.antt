use Rattle.std.proofs.Common.{◌≡◌, ◌≤◌, ◌*◌, take, sum}
use Rattle.rate_blocks.proofs.stream_mux.sum_of.Given as goal

abbrev pub invariant-loop-length : goal.invariant-loop-length
invariant-loop-length l = record { is : l.sum ≡ sum (take l.length-index l.lengths); small : l.sum ≤ 1024 * l.length-index }
