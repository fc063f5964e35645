use Rattle.std.proofs.Common.{◌≡◌, ℕ, ◌<◌, true, map}
use Rattle.graph_model.specs.Rates.{holds_on}
use Rattle.rates.specs.Tables.{ratio_of, connection_at}
use Rattle.rates.proofs.firings.all_hold.Given as goal

abbrev pub invariant-loop-link : goal.invariant-loop-link
invariant-loop-link g l = (k : ℕ) → k < l.link-index → holds_on g.net (map ratio_of l.ratios) (connection_at g.net k) ≡ true
