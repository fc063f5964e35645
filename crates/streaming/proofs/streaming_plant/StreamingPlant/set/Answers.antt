use Rattle.stream_model.specs.Machine.{set_of}
use Rattle.settings.specs.Values.{value_of}
use Rattle.flowgraph.specs.Flowgraph.{net_of}
use Rattle.plant.specs.Plant.{plant_of, spans_in}
use Rattle.plant.proofs.Idles.{answered-idle, set-progress}
use Rattle.streaming.proofs.Owning.{spans_alone}
use Rattle.streaming.proofs.streaming_plant.StreamingPlant.set.Goals as goal

pub invariant_of-self : goal.invariant_of-self
invariant_of-self g c =
    let p = plant_of c.self.inside.parts in
    let net = net_of g.B.Block.meaning p.graph in
    let v = value_of c.args.value in
    record {
      right = c.set.ensures.right;
      idle = answered-idle (set_of net p.state c.args.block.0 c.args.at v) p (plant_of c.set.new.self) _ (set-progress net p.state c.args.block.0 c.args.at v) c.set.ensures.answered c.self.invariant.idle;
      own = spans_alone (spans_in c.set.new.self) (spans_in c.self.inside.parts) c.set.ensures.spans c.self.invariant.own;
    }
