use Rattle.graph_laws.proofs.Decide.{tests_decide}
use Rattle.graph_laws.proofs.laws.tests_decide.Goals as goal

pub returns : goal.returns
returns c = tests_decide
