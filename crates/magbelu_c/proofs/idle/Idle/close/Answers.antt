use Rattle.stream_model.specs.Machine as machine
use Rattle.flowgraph.specs.Flowgraph.{net_of}
use Rattle.kinds.specs.Kind.{meaning_of}
use Rattle.plant.proofs.Idles.{always-idle, close-progress}
use Rattle.magbelu_c.proofs.idle.Idle.close.Goals as goal

pub invariant_of-self : goal.invariant_of-self
invariant_of-self c =
    let p = c.self.inside.plant in
    let net = net_of meaning_of p.graph in
    always-idle (machine.close_of net p.state c.args.source.0) p c.close.new.self _ (close-progress net p.state c.args.source.0) c.close.ensures c.self.invariant
