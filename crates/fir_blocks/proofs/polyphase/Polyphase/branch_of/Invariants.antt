use Rattle.std.proofs.Common.{◌≡◌, ℕ, ◌+◌, ◌-◌, ◌*◌, ◌<◌, length}
use Rattle.stream_model.specs.Lists.{item}
use Rattle.fir_blocks.proofs.polyphase.Polyphase.branch_of.Given as goal

abbrev pub invariant-loop-j : goal.invariant-loop-j
invariant-loop-j l = record {
  long : length l.branch ≡ 256;
  written : (k : ℕ) → k < l.j → item l.branch (l.self.branch - 1 - k) ≡ item l.taps (l.phase + k * l.self.given);
}
