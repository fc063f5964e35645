use Rattle.std.proofs.Common.{map}
use Rattle.flowgraph.specs.Flowgraph.{net_of}
use Rattle.plant_storage.specs.Stores.{mark_of}
use Rattle.plant.specs.Feeding.{feed_numbers}
use Rattle.plant.specs.Plant.{plant_of, spans_in}
use Rattle.plant.proofs.Idles.{answered-idle}
use Rattle.streaming.proofs.Idles.{feed_numbers-progress}
use Rattle.streaming.proofs.Owning.{spans_alone}
use Rattle.streaming.proofs.streaming_plant.StreamingPlant.feed_numbers.Goals as goal

pub invariant_of-self : goal.invariant_of-self
invariant_of-self g c =
    let p = plant_of c.self.inside.parts in
    let net = net_of g.B.Block.meaning p.graph in
    let xs = c.args.numbers.now in
    let ms = map mark_of c.args.marks.now in
    record {
      right = c.feed_numbers.ensures.right;
      idle = answered-idle (feed_numbers net p.state c.args.source.0 xs ms) p (plant_of c.feed_numbers.new.self) _ (feed_numbers-progress net p.state c.args.source.0 xs ms) c.feed_numbers.ensures.answered c.self.invariant.idle;
      own = spans_alone (spans_in c.feed_numbers.new.self) (spans_in c.self.inside.parts) c.feed_numbers.ensures.spans c.self.invariant.own;
    }
