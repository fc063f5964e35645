use Rattle.slice_laws.proofs.Pieces.{resumed_tags_go_on}
use Rattle.slice_laws.proofs.laws.resumed_tags_go_on.Goals as goal

pub returns : goal.returns
returns c = resumed_tags_go_on
