use Rattle.plant_laws.proofs.Finding.{buffers_keep_no_more}
use Rattle.plant_laws.proofs.laws.buffers_keep_no_more.Goals as goal

pub returns : goal.returns
returns c = buffers_keep_no_more
