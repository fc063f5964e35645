use Rattle.plant_laws.proofs.Resting.{done_blocks_stay_done}
use Rattle.plant_laws.proofs.laws.done_blocks_stay_done.Goals as goal

pub returns : goal.returns
returns c = done_blocks_stay_done
