use Rattle.std.proofs.Common.{◌∙◌, ap}
use Rattle.stream_model.specs.Machine.{is_idle}
use Rattle.flowgraph.specs.Flowgraph.{net_of}
use Rattle.plant.specs.Plant.{PlantState}
use Rattle.plant.proofs.Idles.{opening-idle}
use Rattle.streaming.proofs.streaming_plant.StreamingPlant.open.Goals as goal

pub invariant_of-result : goal.invariant_of-result
invariant_of-result g c = record {
  right = c.in-Ok.ensures.right;
  idle = ap (λ (x : PlantState _). is_idle x.state) c.in-Ok.ensures.opens ∙ opening-idle (net_of g.B.Block.meaning c.args.graph);
  own = c.in-Ok.ensures.alone;
}
