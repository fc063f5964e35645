use Rattle.plant_laws.proofs.Serving.{flights_may_fire}
use Rattle.plant_laws.proofs.laws.flights_may_fire.Goals as goal

pub returns : goal.returns
returns c = flights_may_fire
