use Rattle.machine_laws.proofs.Following.{what_is_shown_stays}
use Rattle.machine_laws.proofs.laws.what_is_shown_stays.Goals as goal

pub returns : goal.returns
returns c = what_is_shown_stays
