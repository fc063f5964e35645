use Rattle.std.proofs.Common.{◌≡◌, ℕ, ◌<◌, true, false, length, get_or}
use Rattle.rates.specs.Tables.{connection_at}
use Rattle.rates.proofs.order.mark.Given as goal

abbrev pub invariant-loop-number : goal.invariant-loop-number
invariant-loop-number g l = record {
  long : length l.ready ≡ length g.net.nodes;
  full : (b k : ℕ) → get_or l.ready b false ≡ true → k < l.number → (connection_at g.net k).to ≡ b → get_or l.placed k false ≡ true;
  all : (b : ℕ) → b < length g.net.nodes → ((k : ℕ) → k < length g.net.connections → (connection_at g.net k).to ≡ b → get_or l.placed k false ≡ true) → get_or l.ready b false ≡ true;
}
