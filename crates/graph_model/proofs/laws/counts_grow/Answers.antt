use Rattle.graph_model.proofs.Growth.{counts_grow}
use Rattle.graph_model.proofs.laws.counts_grow.Goals as goal

pub returns : goal.returns
returns c = counts_grow
