use Rattle.std.proofs.Common.{◌≡◌, ◌-◌, length}
use Rattle.graph_model.specs.Rates.{ratios_by, ratios_of}
use Rattle.rates.specs.Tables.{AreSmall, known_of}
use Rattle.rates.proofs.ratios.find_ratios.Given as goal

abbrev pub ghost-next_ratio : goal.ghost-next_ratio
ghost-next_ratio g a = g.net

abbrev pub invariant-loop-turn : goal.invariant-loop-turn
invariant-loop-turn g l = record {
  same : ratios_by (length g.net.nodes - l._turn) g.net (known_of l.known) ≡ ratios_of g.net;
  long : length l.known ≡ length g.net.nodes;
  small : AreSmall (length g.net.nodes) l.known;
}
