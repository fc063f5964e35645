use Rattle.machine_laws.proofs.Following.{jobs_are_fed}
use Rattle.machine_laws.proofs.laws.jobs_are_fed.Goals as goal

pub returns : goal.returns
returns c = jobs_are_fed
