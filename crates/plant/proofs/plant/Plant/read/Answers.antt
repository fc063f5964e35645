use Rattle.std.proofs.Common.{arith}
use Rattle.plant_storage.specs.Stores.{stored_in}
use Rattle.plant.proofs.Spans.{sink_whole}
use Rattle.plant.proofs.plant.Plant.read.Goals as goal

pub read-requires-clause-kept : goal.read-requires-clause-kept
read-requires-clause-kept g c =
    let zero = sink_whole (stored_in c.self.inside.parts.stores) c.self.invariant.keeps.whole c.args.sink.0 in
    omega (arith, zero)
