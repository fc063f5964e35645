use Rattle.stream_model.specs.Machine.{close_of}
use Rattle.flowgraph.specs.Flowgraph.{net_of}
use Rattle.plant.specs.Plant.{plant_of, spans_in}
use Rattle.plant.proofs.Idles.{always-idle, close-progress}
use Rattle.streaming.proofs.Owning.{spans_alone}
use Rattle.streaming.proofs.streaming_plant.StreamingPlant.close.Goals as goal

pub invariant_of-self : goal.invariant_of-self
invariant_of-self g c =
    let p = plant_of c.self.inside.parts in
    let net = net_of g.B.Block.meaning p.graph in
    record {
      right = c.close.ensures.right;
      idle = always-idle (close_of net p.state c.args.source.0) p (plant_of c.close.new.self) _ (close-progress net p.state c.args.source.0) c.close.ensures.answered c.self.invariant.idle;
      own = spans_alone (spans_in c.close.new.self) (spans_in c.self.inside.parts) c.close.ensures.spans c.self.invariant.own;
    }
