use Rattle.plant_laws.proofs.Serving.{firings_are_served}
use Rattle.plant_laws.proofs.laws.firings_are_served.Goals as goal

pub returns : goal.returns
returns c = firings_are_served
