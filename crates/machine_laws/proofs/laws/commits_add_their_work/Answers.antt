use Rattle.machine_laws.proofs.Following.{commits_add_their_work}
use Rattle.machine_laws.proofs.laws.commits_add_their_work.Goals as goal

pub returns : goal.returns
returns c = commits_add_their_work
