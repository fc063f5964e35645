use Rattle.stream_laws.proofs.InTime.{no_tag_is_late}
use Rattle.stream_laws.proofs.laws.no_tag_is_late.Goals as goal

pub returns : goal.returns
returns c = no_tag_is_late
