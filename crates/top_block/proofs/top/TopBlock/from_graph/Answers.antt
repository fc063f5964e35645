use Rattle.std.proofs.Common.{◌∙◌, ap}
use Rattle.stream_model.specs.Machine.{is_idle}
use Rattle.flowgraph.specs.Flowgraph.{net_of}
use Rattle.kinds.specs.declared.kind.Kind.{Kind}
use Rattle.kinds.specs.Kind.{meaning_of}
use Rattle.plant.specs.Plant.{PlantState}
use Rattle.plant.proofs.Idles.{opening-idle}
use Rattle.top_block.proofs.top.TopBlock.from_graph.Goals as goal

pub invariant_of-result : goal.invariant_of-result
invariant_of-result c = ap (λ (x : PlantState Kind). is_idle x.state) c.in-Ok.ensures.opens ∙ opening-idle (net_of meaning_of c.args.graph)
