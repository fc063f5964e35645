use Rattle.plant_laws.proofs.Ending.{ending_holds}
use Rattle.plant_laws.proofs.laws.ending_holds.Goals as goal

pub returns : goal.returns
returns c = ending_holds
