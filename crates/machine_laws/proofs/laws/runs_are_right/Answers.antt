use Rattle.machine_laws.proofs.Running.{runs_are_right}
use Rattle.machine_laws.proofs.laws.runs_are_right.Goals as goal

pub returns : goal.returns
returns c = runs_are_right
