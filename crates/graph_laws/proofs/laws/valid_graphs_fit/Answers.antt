use Rattle.graph_laws.proofs.Gains.{valid_graphs_fit}
use Rattle.graph_laws.proofs.laws.valid_graphs_fit.Goals as goal

pub returns : goal.returns
returns c = valid_graphs_fit
