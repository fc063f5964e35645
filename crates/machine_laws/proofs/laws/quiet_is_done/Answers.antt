use Rattle.machine_laws.proofs.Stalling.{quiet_is_done}
use Rattle.machine_laws.proofs.laws.quiet_is_done.Goals as goal

pub returns : goal.returns
returns c = quiet_is_done
