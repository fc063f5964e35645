use Rattle.std.proofs.Common.{◌∙◌, ap}
use Rattle.stream_model.specs.Machine.{is_idle}
use Rattle.flowgraph.specs.Flowgraph.{net_of}
use Rattle.kinds.specs.declared.kind.Kind.{Kind}
use Rattle.kinds.specs.Kind.{meaning_of}
use Rattle.plant.specs.Plant.{PlantState}
use Rattle.closing.proofs.Idles.{closed-idle}
use Rattle.closing.proofs.close_all.Goals as goal

pub returns-clause-idle : goal.returns-clause-idle
returns-clause-idle c h =
    let p = c.args.plant.now in
    ap (λ (x : PlantState Kind). is_idle x.state) c.loop-block.invariant ∙ closed-idle (net_of meaning_of p.graph) p.state c.loop-block.block h
