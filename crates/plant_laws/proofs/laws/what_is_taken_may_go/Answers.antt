use Rattle.plant_laws.proofs.Forgetting.{what_is_taken_may_go}
use Rattle.plant_laws.proofs.laws.what_is_taken_may_go.Goals as goal

pub returns : goal.returns
returns c = what_is_taken_may_go
