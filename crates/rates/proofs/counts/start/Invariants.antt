use Rattle.std.proofs.Common.{◌≡◌, ℕ, ◌<◌, ◌*◌, true, false, length, get_or}
use Rattle.stream_model.specs.Network.{is_source, role_at}
use Rattle.rates.specs.Counts.{unlimited}
use Rattle.rates.proofs.counts.start.Given as goal

abbrev pub invariant-loop-block : goal.invariant-loop-block
invariant-loop-block g l = record {
  long : length l.after ≡ length g.net.nodes;
  sources : (b : ℕ) → b < l.block → is_source (role_at g.net b) ≡ true → get_or l.after b 0 ≡ l.step * get_or l.firings b 0;
  others : (b : ℕ) → b < l.block → is_source (role_at g.net b) ≡ false → get_or l.after b 0 ≡ unlimited;
}
