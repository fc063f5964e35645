use Rattle.graph_model.proofs.Room.{needed_is_enough}
use Rattle.graph_model.proofs.laws.needed_is_enough.Goals as goal

pub returns : goal.returns
returns c = needed_is_enough
