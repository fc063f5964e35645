use Rattle.plant_laws.proofs.Handing.{abandoning_holds}
use Rattle.plant_laws.proofs.laws.abandoning_holds.Goals as goal

pub returns : goal.returns
returns c = abandoning_holds
