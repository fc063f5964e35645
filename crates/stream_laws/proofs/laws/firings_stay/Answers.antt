use Rattle.stream_laws.proofs.Cuts.{firings_stay}
use Rattle.stream_laws.proofs.laws.firings_stay.Goals as goal

pub returns : goal.returns
returns c = firings_stay
