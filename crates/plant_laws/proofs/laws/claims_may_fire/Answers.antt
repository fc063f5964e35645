use Rattle.plant_laws.proofs.Serving.{claims_may_fire}
use Rattle.plant_laws.proofs.laws.claims_may_fire.Goals as goal

pub returns : goal.returns
returns c = claims_may_fire
