use Rattle.machine_laws.proofs.Wholes.{all_done_is_whole}
use Rattle.machine_laws.proofs.laws.all_done_is_whole.Goals as goal

pub returns : goal.returns
returns c = all_done_is_whole
