use Rattle.machine_laws.proofs.Stalling.{quiet_is_whole}
use Rattle.machine_laws.proofs.laws.quiet_is_whole.Goals as goal

pub returns : goal.returns
returns c = quiet_is_whole
