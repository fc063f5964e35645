use Rattle.stream_laws.proofs.Cuts.{cuts_do_not_matter}
use Rattle.stream_laws.proofs.laws.cuts_do_not_matter.Goals as goal

pub returns : goal.returns
returns c = cuts_do_not_matter
