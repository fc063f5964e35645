use Rattle.std.proofs.Common.{Some}
use Rattle.stream_model.specs.Machine as machine
use Rattle.flowgraph.specs.Flowgraph.{net_of}
use Rattle.plant.specs.Answers.{piece_reply, refusal_of, takes_memory}
use Rattle.flow_core.proofs.Sessions.{if_ok, tells, tells_refused, read_answered}
use Rattle.flow_core.proofs.session.calls.read.Goals as goal

pub returns-in-Ok : goal.returns-in-Ok
returns-in-Ok g c =
    let net = net_of g.B.Block.meaning c.args.plant.now.graph in
    let now = machine.read_of net c.args.plant.now.state c.args.sink.0 c.args.from c.args.max in
    if_ok _ _ c.shown.result c.shown.ensures (λ line e.
    tells now c.args.plant.now c.args.plant.now (takes_memory now.0) (piece_reply c.in-Ok.piece) _
    (read_answered net c.args.plant.now c.args.sink.0 c.args.from c.args.max (Some (piece_reply c.in-Ok.piece)) c.in-Ok.ensures.answered) e)

pub returns-in-Err : goal.returns-in-Err
returns-in-Err g c =
    let net = net_of g.B.Block.meaning c.args.plant.now.graph in
    let now = machine.read_of net c.args.plant.now.state c.args.sink.0 c.args.from c.args.max in
    if_ok _ _ c.refused.result c.refused.ensures (λ line e.
    tells_refused now c.args.plant.now c.args.plant.now c.in-Err.fault _
    (read_answered net c.args.plant.now c.args.sink.0 c.args.from c.args.max (refusal_of c.in-Err.fault) c.in-Err.ensures.answered) e)
