use Rattle.plant_laws.proofs.Reading.{reads_are_cut_out}
use Rattle.plant_laws.proofs.laws.reads_are_cut_out.Goals as goal

pub returns : goal.returns
returns c = reads_are_cut_out
