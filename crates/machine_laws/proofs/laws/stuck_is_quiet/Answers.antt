use Rattle.machine_laws.proofs.Rounds.{stuck_is_quiet}
use Rattle.machine_laws.proofs.laws.stuck_is_quiet.Goals as goal

pub returns : goal.returns
returns c = stuck_is_quiet
