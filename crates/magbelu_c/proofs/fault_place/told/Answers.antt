use Rattle.std.proofs.Common.{rules}
use Rattle.magbelu_c.proofs.fault_place.told.Goals as goal

pub returns : goal.returns
returns c = record { reason = c.as_bytes-reason.result.now; shows = c.show.ensures; answer = search rules }
