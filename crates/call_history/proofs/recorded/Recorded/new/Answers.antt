use Rattle.std.proofs.Common.{arith}
use Rattle.call_history.proofs.Flights.{none_flies}
use Rattle.call_history.proofs.Records.{begun}
use Rattle.call_history.proofs.recorded.Recorded.new.Goals as goal

pub invariant_of-result : goal.invariant_of-result
invariant_of-result g c = (
  begun g.B.Block.meaning c.args.plant c.args.opening c.new.result.items c.requires.graph c.requires.state c.new.ensures.items,
  none_flies c.args.plant.state.progress c.requires.idle,
  omega (arith, c.new.ensures.len),
)
