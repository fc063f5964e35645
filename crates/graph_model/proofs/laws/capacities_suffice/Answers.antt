use Rattle.graph_model.proofs.Sizes.{capacities_suffice}
use Rattle.graph_model.proofs.laws.capacities_suffice.Goals as goal

pub returns : goal.returns
returns c = capacities_suffice
