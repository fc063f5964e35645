use Rattle.stream_model.specs.Machine.{step_of}
use Rattle.flowgraph.specs.Flowgraph.{net_of}
use Rattle.plant.specs.Plant.{plant_of, spans_in}
use Rattle.streaming.proofs.Idles.{step-idle, stepped-idle}
use Rattle.streaming.proofs.Owning.{spans_alone}
use Rattle.streaming.proofs.streaming_plant.StreamingPlant.step.Goals as goal

pub invariant_of-self : goal.invariant_of-self
invariant_of-self g c =
    let p = plant_of c.self.inside.parts in
    let net = net_of g.B.Block.meaning p.graph in
    record {
      right = c.step.ensures.right;
      idle = stepped-idle (step_of net p.capacities p.state c.args.block.0 c.args.max) p (plant_of c.step.new.self) _
          (step-idle net p.capacities p.state (rw (← c.deref.ensures) c.recall.ensures.runs) c.self.invariant.right.keeps.sound c.self.invariant.idle c.args.block.0 c.args.max c.requires)
          c.step.ensures.answered c.self.invariant.idle;
      own = spans_alone (spans_in c.step.new.self) (spans_in c.self.inside.parts) c.step.ensures.spans c.self.invariant.own;
    }
