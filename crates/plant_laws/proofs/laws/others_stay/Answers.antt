use Rattle.plant_laws.proofs.Staying.{others_stay}
use Rattle.plant_laws.proofs.laws.others_stay.Goals as goal

pub returns : goal.returns
returns c = others_stay
