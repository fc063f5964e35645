use Rattle.stream_laws.proofs.Past.{what_is_past_stays}
use Rattle.stream_laws.proofs.laws.what_is_past_stays.Goals as goal

pub returns : goal.returns
returns c = what_is_past_stays
