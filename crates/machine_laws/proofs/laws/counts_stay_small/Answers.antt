use Rattle.machine_laws.proofs.Limits.{counts_stay_small}
use Rattle.machine_laws.proofs.laws.counts_stay_small.Goals as goal

pub returns : goal.returns
returns c = counts_stay_small
