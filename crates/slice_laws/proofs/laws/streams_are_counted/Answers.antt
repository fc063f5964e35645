use Rattle.slice_laws.proofs.Counting.{streams_are_counted}
use Rattle.slice_laws.proofs.laws.streams_are_counted.Goals as goal

pub returns : goal.returns
returns c = streams_are_counted
