use Rattle.plant_laws.proofs.Handing.{claiming_holds}
use Rattle.plant_laws.proofs.laws.claiming_holds.Goals as goal

pub returns : goal.returns
returns c = claiming_holds
