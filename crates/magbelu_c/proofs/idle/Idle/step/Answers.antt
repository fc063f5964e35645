use Rattle.stream_model.specs.Machine as machine
use Rattle.flowgraph.specs.Flowgraph.{net_of}
use Rattle.kinds.specs.Kind.{meaning_of}
use Rattle.streaming.proofs.Idles.{step-idle, stepped-idle}
use Rattle.magbelu_c.proofs.idle.Idle.step.Goals as goal

pub invariant_of-self : goal.invariant_of-self
invariant_of-self c =
    let p = c.self.inside.plant in
    let net = net_of meaning_of p.graph in
    stepped-idle (machine.step_of net p.capacities p.state c.args.block.0 c.args.max) p c.step.new.self _
    (step-idle net p.capacities p.state c.recall.ensures.runs c.recall.ensures.sound c.self.invariant c.args.block.0 c.args.max c.requires) c.step.ensures c.self.invariant
