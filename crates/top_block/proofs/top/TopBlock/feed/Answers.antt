use Rattle.std.proofs.Common.{map}
use Rattle.stream_model.specs.Machine.{feed_of}
use Rattle.flowgraph.specs.Flowgraph.{net_of}
use Rattle.items.specs.Items.{type_of, numbers_of}
use Rattle.kinds.specs.Kind.{meaning_of}
use Rattle.plant_storage.specs.Stores.{mark_of}
use Rattle.plant.proofs.Idles.{answered-idle, feed-progress}
use Rattle.top_block.proofs.top.TopBlock.feed.Goals as goal

pub invariant_of-self : goal.invariant_of-self
invariant_of-self c =
    let p = c.self.inside.plant in let net = net_of meaning_of p.graph in let t = type_of c.args.items in let xs = numbers_of c.args.items in
    let ms = map mark_of c.args.marks.now in
    answered-idle (feed_of net p.state c.args.source.0 t xs ms) p c.feed.new.self _ (feed-progress net p.state c.args.source.0 t xs ms) c.feed.ensures c.self.invariant
