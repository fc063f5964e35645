use Rattle.graph_laws.proofs.Runs.{valid_graphs_run}
use Rattle.graph_laws.proofs.laws.valid_graphs_run.Goals as goal

pub returns : goal.returns
returns c = valid_graphs_run
