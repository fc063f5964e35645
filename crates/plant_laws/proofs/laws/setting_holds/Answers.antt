use Rattle.plant_laws.proofs.Handing.{setting_holds}
use Rattle.plant_laws.proofs.laws.setting_holds.Goals as goal

pub returns : goal.returns
returns c = setting_holds
