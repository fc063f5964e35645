use Rattle.std.proofs.Common.{◌≡◌, ℕ, ◌<◌, None}
use Rattle.graph_model.specs.Rates.{told_by}
use Rattle.rates.specs.Tables.{known_of, connection_at}
use Rattle.rates.proofs.ratios.told.Given as goal

abbrev pub invariant-loop-link : goal.invariant-loop-link
invariant-loop-link g l = (k : ℕ) → k < l.link-index → told_by g.net (known_of l.known) (connection_at g.net k) ≡ None
