use Rattle.graph_laws.proofs.Filling.{tables_compute}
use Rattle.graph_laws.proofs.laws.tables_compute.Goals as goal

pub returns : goal.returns
returns c = tables_compute
