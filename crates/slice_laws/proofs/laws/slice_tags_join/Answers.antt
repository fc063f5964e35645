use Rattle.slice_laws.proofs.Joining.{slice_tags_join}
use Rattle.slice_laws.proofs.laws.slice_tags_join.Goals as goal

pub returns : goal.returns
returns c = slice_tags_join
