use Rattle.std.proofs.Common.{Some}
use Rattle.std.specs.Arc.{arc_value}
use Rattle.flowgraph.specs.Flowgraph.{net_of}
use Rattle.plant.specs.Answers.{piece_reply, refusal_of}
use Rattle.call_history.proofs.Records.{looked}
use Rattle.call_history.proofs.request.Request.ask.Goals as goal

-- src/request.rt:70:5
pub returns-in-Ok-shown-clause-answered : goal.returns-in-Ok-shown-clause-answered
returns-in-Ok-shown-clause-answered g c =
    let read = c.in-Read in
    rw (read.is) (looked (net_of g.B.Block.meaning c.args.plant.now.graph) c.args.plant.now read.sink.0 read.from read.max (Some (piece_reply (arc_value c.in-Ok-shown.piece))) c.in-Ok-shown.ensures)

pub returns-in-Err-shown-clause-answered : goal.returns-in-Err-shown-clause-answered
returns-in-Err-shown-clause-answered g c =
    let read = c.in-Read in
    rw (read.is) (looked (net_of g.B.Block.meaning c.args.plant.now.graph) c.args.plant.now read.sink.0 read.from read.max (refusal_of c.in-Err-shown.fault) c.in-Err-shown.ensures)
