use Rattle.machine_laws.proofs.Moving.{begun_sound}
use Rattle.machine_laws.proofs.laws.begun_is_sound.Goals as goal

pub returns : goal.returns
returns c = begun_sound
