use Rattle.std.proofs.Common.{map}
use Rattle.stream_model.specs.Machine.{feed_of}
use Rattle.flowgraph.specs.Flowgraph.{net_of}
use Rattle.items.specs.Items.{type_of, numbers_of}
use Rattle.plant_storage.specs.Stores.{mark_of}
use Rattle.plant.specs.Plant.{plant_of, spans_in}
use Rattle.plant.proofs.Idles.{answered-idle, feed-progress}
use Rattle.streaming.proofs.Owning.{spans_alone}
use Rattle.streaming.proofs.streaming_plant.StreamingPlant.feed.Goals as goal

pub invariant_of-self : goal.invariant_of-self
invariant_of-self g c =
    let p = plant_of c.self.inside.parts in
    let net = net_of g.B.Block.meaning p.graph in
    let t = type_of c.args.items.now in
    let xs = numbers_of c.args.items.now in
    let ms = map mark_of c.args.marks.now in
    record {
      right = c.feed.ensures.right;
      idle = answered-idle (feed_of net p.state c.args.source.0 t xs ms) p (plant_of c.feed.new.self) _ (feed-progress net p.state c.args.source.0 t xs ms) c.feed.ensures.answered c.self.invariant.idle;
      own = spans_alone (spans_in c.feed.new.self) (spans_in c.self.inside.parts) c.feed.ensures.spans c.self.invariant.own;
    }
