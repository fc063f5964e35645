use Rattle.std.proofs.Common.{map}
use Rattle.flowgraph.specs.Flowgraph.{net_of}
use Rattle.kinds.specs.Kind.{meaning_of}
use Rattle.plant_storage.specs.Stores.{mark_of}
use Rattle.plant.specs.Feeding.{feed_numbers}
use Rattle.plant.proofs.Idles.{answered-idle}
use Rattle.streaming.proofs.Idles.{feed_numbers-progress}
use Rattle.magbelu_c.proofs.idle.Idle.feed_numbers.Goals as goal

pub invariant_of-self : goal.invariant_of-self
invariant_of-self c =
    let p = c.self.inside.plant in
    let net = net_of meaning_of p.graph in
    answered-idle (feed_numbers net p.state c.args.source.0 c.args.numbers.now (map mark_of c.args.marks.now)) p c.feed_numbers.new.self _ (feed_numbers-progress net p.state c.args.source.0 c.args.numbers.now (map mark_of c.args.marks.now)) c.feed_numbers.ensures c.self.invariant
