use Rattle.std.proofs.Common.{map}
use Rattle.stream_model.specs.Machine as machine
use Rattle.flowgraph.specs.Flowgraph.{net_of}
use Rattle.items.specs.Items.{type_of, numbers_of}
use Rattle.kinds.specs.Kind.{meaning_of}
use Rattle.plant_storage.specs.Stores.{mark_of}
use Rattle.plant.proofs.Idles.{answered-idle, feed-progress}
use Rattle.magbelu_c.proofs.idle.Idle.feed.Goals as goal

pub invariant_of-self : goal.invariant_of-self
invariant_of-self c =
    let p = c.self.inside.plant in
    let net = net_of meaning_of p.graph in
    answered-idle (machine.feed_of net p.state c.args.source.0 (type_of c.args.items.now) (numbers_of c.args.items.now) (map mark_of c.args.marks.now)) p c.feed_from.new.self _ (feed-progress net p.state c.args.source.0 (type_of c.args.items.now) (numbers_of c.args.items.now) (map mark_of c.args.marks.now)) c.feed_from.ensures c.self.invariant
