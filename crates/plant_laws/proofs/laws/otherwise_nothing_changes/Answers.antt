use Rattle.plant_laws.proofs.Resting.{otherwise_nothing_changes}
use Rattle.plant_laws.proofs.laws.otherwise_nothing_changes.Goals as goal

pub returns : goal.returns
returns c = otherwise_nothing_changes
