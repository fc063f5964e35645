use Rattle.machine_laws.proofs.Moving.{opening_sound}
use Rattle.machine_laws.proofs.laws.opening_is_sound.Goals as goal

pub returns : goal.returns
returns c = opening_sound
