use Rattle.graph_laws.proofs.Answering.{answers_are_right}
use Rattle.graph_laws.proofs.laws.answers_are_right.Goals as goal

pub returns : goal.returns
returns c = answers_are_right
