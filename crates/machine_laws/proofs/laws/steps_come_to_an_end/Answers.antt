use Rattle.machine_laws.proofs.Ending.{steps_come_to_an_end}
use Rattle.machine_laws.proofs.laws.steps_come_to_an_end.Goals as goal

pub returns : goal.returns
returns c = steps_come_to_an_end
