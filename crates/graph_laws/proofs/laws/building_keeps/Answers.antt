use Rattle.graph_laws.proofs.Build.{building_keeps}
use Rattle.graph_laws.proofs.laws.building_keeps.Goals as goal

pub returns : goal.returns
returns c = building_keeps
