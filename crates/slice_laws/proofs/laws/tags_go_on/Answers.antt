use Rattle.slice_laws.proofs.Pieces.{tags_go_on}
use Rattle.slice_laws.proofs.laws.tags_go_on.Goals as goal

pub returns : goal.returns
returns c = tags_go_on
