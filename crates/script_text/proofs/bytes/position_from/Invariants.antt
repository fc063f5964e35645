use Rattle.std.proofs.Common.{length, ◌-◌, ◌≢◌, ℕ, ◌<◌, ◌≤◌, get_or}
use Rattle.script_text.proofs.bytes.position_from.Given as goal

abbrev pub invariant-loop-place : goal.invariant-loop-place
invariant-loop-place l = record {
  after : l.from ≤ l.place;
  within : l.place ≤ length l.bytes;
  before : (k : ℕ) → l.from ≤ k → k < l.place → get_or l.bytes k 0 ≢ l.byte;
}

abbrev pub decreases-loop-place : goal.decreases-loop-place
decreases-loop-place l = length l.bytes - l.place
