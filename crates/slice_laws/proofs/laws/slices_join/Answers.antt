use Rattle.slice_laws.proofs.Joining.{slices_join}
use Rattle.slice_laws.proofs.laws.slices_join.Goals as goal

pub returns : goal.returns
returns c = slices_join
