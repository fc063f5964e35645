use Rattle.machine_laws.proofs.Limits.{limits_stay}
use Rattle.machine_laws.proofs.laws.limits_stay.Goals as goal

pub returns : goal.returns
returns c = limits_stay
