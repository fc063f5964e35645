use Rattle.machine_laws.proofs.Waiting.{waits_come_back}
use Rattle.machine_laws.proofs.laws.waits_come_back.Goals as goal

pub returns : goal.returns
returns c = waits_come_back
