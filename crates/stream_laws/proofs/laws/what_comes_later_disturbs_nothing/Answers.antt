use Rattle.stream_laws.proofs.Later.{what_comes_later_disturbs_nothing}
use Rattle.stream_laws.proofs.laws.what_comes_later_disturbs_nothing.Goals as goal

pub returns : goal.returns
returns c = what_comes_later_disturbs_nothing
