use Rattle.machine_laws.proofs.Rounds.{idle_steps_stay}
use Rattle.machine_laws.proofs.laws.idle_steps_stay.Goals as goal

pub returns : goal.returns
returns c = idle_steps_stay
