use Rattle.flowgraph.specs.Flowgraph.{net_of}
use Rattle.pipeline.proofs.Moving.{goes_by_round}
use Rattle.streaming.proofs.Working.{work_hands_nothing}
use Rattle.pipeline.proofs.pipeline.Pipeline.round.Goals as goal

pub returns-in_err-round_with-clause-goes : goal.returns-in_err-round_with-clause-goes
returns-in_err-round_with-clause-goes g c =
    let p = c.args.self.now.plant in
    let net = net_of g.B.Block.meaning p.plant.graph in
    goes_by_round g.R.Read.remaining g.W.Write.contents net p c.round_with.new.self c.args.self.now.ends.items c.round_with.ensures.worked.same
    (work_hands_nothing net p.plant.capacities 65536 p.plant.state c.round_with.new.self.plant.state c.round_with.ensures.worked.work) c.round_with.ensures.sinks

pub returns-clause-goes : goal.returns-clause-goes
returns-clause-goes g c =
    let p = c.args.self.now.plant in
    let net = net_of g.B.Block.meaning p.plant.graph in
    goes_by_round g.R.Read.remaining g.W.Write.contents net p c.round_with.new.self c.args.self.now.ends.items c.round_with.ensures.worked.same
    (work_hands_nothing net p.plant.capacities 65536 p.plant.state c.round_with.new.self.plant.state c.round_with.ensures.worked.work) c.round_with.ensures.sinks
