use Rattle.slice_laws.proofs.Pieces.{pieces_go_on}
use Rattle.slice_laws.proofs.laws.pieces_go_on.Goals as goal

pub returns : goal.returns
returns c = pieces_go_on
