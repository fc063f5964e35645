use Rattle.machine_laws.proofs.Sounds.{calls_keep_sound}
use Rattle.machine_laws.proofs.laws.calls_keep_sound.Goals as goal

pub returns : goal.returns
returns c = calls_keep_sound
