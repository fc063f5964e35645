use Rattle.streaming.proofs.Pieces.{drained_here}
use Rattle.streaming.proofs.draining.drained.Goals as goal

pub returns-in-Some : goal.returns-in-Some
returns-in-Some g c = drained_here c.args.parts.now.stores c.args.sink.0 c.deref.result.now c.in-Some.collected.now c.from.result c.deref.ensures.value c.from.ensures.value (c.in-Some.ensures.lookup.0, c.in-Some.ensures.lookup.1)
