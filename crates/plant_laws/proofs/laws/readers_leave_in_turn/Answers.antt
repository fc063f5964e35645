use Rattle.plant_laws.proofs.Ending.{readers_leave_in_turn}
use Rattle.plant_laws.proofs.laws.readers_leave_in_turn.Goals as goal

pub returns : goal.returns
returns c = readers_leave_in_turn
