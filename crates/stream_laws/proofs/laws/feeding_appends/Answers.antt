use Rattle.stream_laws.proofs.Later.{feeding_appends}
use Rattle.stream_laws.proofs.laws.feeding_appends.Goals as goal

pub returns : goal.returns
returns c = feeding_appends
