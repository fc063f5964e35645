use Rattle.plant_laws.proofs.Handing.{closing_holds}
use Rattle.plant_laws.proofs.laws.closing_holds.Goals as goal

pub returns : goal.returns
returns c = closing_holds
