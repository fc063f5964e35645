use Rattle.stream_model.specs.Machine as machine
use Rattle.flowgraph.specs.Flowgraph.{net_of}
use Rattle.kinds.specs.Kind.{meaning_of}
use Rattle.settings.specs.Values.{value_of}
use Rattle.plant.proofs.Idles.{answered-idle, set-progress}
use Rattle.magbelu_c.proofs.idle.Idle.set.Goals as goal

pub invariant_of-self : goal.invariant_of-self
invariant_of-self c =
    let p = c.self.inside.plant in
    let net = net_of meaning_of p.graph in
    answered-idle (machine.set_of net p.state c.args.block.0 c.args.at (value_of c.args.value)) p c.set.new.self _ (set-progress net p.state c.args.block.0 c.args.at (value_of c.args.value)) c.set.ensures.answered c.self.invariant
