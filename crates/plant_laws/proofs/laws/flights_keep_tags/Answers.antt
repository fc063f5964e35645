use Rattle.plant_laws.proofs.Flying.{flights_keep_tags}
use Rattle.plant_laws.proofs.laws.flights_keep_tags.Goals as goal

pub returns : goal.returns
returns c = flights_keep_tags
