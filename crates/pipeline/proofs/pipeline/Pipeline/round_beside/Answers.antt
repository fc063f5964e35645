use Rattle.std.proofs.Common.{List, Bool, subst}
use Rattle.flowgraph.specs.Flowgraph.{net_of}
use Rattle.pipeline.proofs.Moving.{goes_by_round}
use Rattle.streaming.proofs.Working.{work_hands_nothing}
use Rattle.streaming.specs.Beside.{HasMovedBeside}
use Rattle.pipeline.proofs.pipeline.Pipeline.round_beside.Goals as goal

pub returns-in_err-round_beside-clause-goes : goal.returns-in_err-round_beside-clause-goes
returns-in_err-round_beside-clause-goes g c =
    let p = c.args.self.now.plant in
    let net = net_of g.B.Block.meaning p.plant.graph in
    goes_by_round g.R.Read.remaining g.W.Write.contents net p c.round_beside.new.self c.args.self.now.ends.items c.round_beside.ensures.worked.same
    (work_hands_nothing net p.plant.capacities 65536 p.plant.state c.round_beside.new.self.plant.state c.round_beside.ensures.worked.work) c.round_beside.ensures.sinks

pub returns-clause-goes : goal.returns-clause-goes
returns-clause-goes g c =
    let p = c.args.self.now.plant in
    let net = net_of g.B.Block.meaning p.plant.graph in
    goes_by_round g.R.Read.remaining g.W.Write.contents net p c.round_beside.new.self c.args.self.now.ends.items c.round_beside.ensures.worked.same
    (work_hands_nothing net p.plant.capacities 65536 p.plant.state c.round_beside.new.self.plant.state c.round_beside.ensures.worked.work) c.round_beside.ensures.sinks

pub returns-clause-moved : goal.returns-clause-moved
returns-clause-moved g c =
    let new = c.round_beside.new.self in
    subst (λ (held : List Bool). HasMovedBeside held (net_of g.B.Block.meaning new.plant.graph) new.plant.capacities 65536 c.args.self.now.plant.plant.state new.plant.state c.in_ok-round_beside.field-0)
    c.deref.ensures.value c.in_ok-round_beside.ensures.moved
