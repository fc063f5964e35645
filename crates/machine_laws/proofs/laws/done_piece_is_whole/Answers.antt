use Rattle.machine_laws.proofs.Wholes.{done_piece_is_whole}
use Rattle.machine_laws.proofs.laws.done_piece_is_whole.Goals as goal

pub returns : goal.returns
returns c = done_piece_is_whole
