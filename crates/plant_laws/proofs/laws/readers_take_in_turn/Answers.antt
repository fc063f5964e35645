use Rattle.plant_laws.proofs.Committing.{readers_take_in_turn}
use Rattle.plant_laws.proofs.laws.readers_take_in_turn.Goals as goal

pub returns : goal.returns
returns c = readers_take_in_turn
