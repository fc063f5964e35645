use Rattle.graph_model.proofs.FiringCounts.{counts_are_greatest}
use Rattle.graph_model.proofs.laws.counts_are_greatest.Goals as goal

pub returns : goal.returns
returns c = counts_are_greatest
