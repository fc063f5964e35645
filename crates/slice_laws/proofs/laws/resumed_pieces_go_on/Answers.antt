use Rattle.slice_laws.proofs.Pieces.{resumed_pieces_go_on}
use Rattle.slice_laws.proofs.laws.resumed_pieces_go_on.Goals as goal

pub returns : goal.returns
returns c = resumed_pieces_go_on
