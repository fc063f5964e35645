use Rattle.machine_laws.proofs.Bounding.{counts_are_small}
use Rattle.machine_laws.proofs.laws.counts_are_small.Goals as goal

pub returns : goal.returns
returns c = counts_are_small
