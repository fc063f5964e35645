use Rattle.std.proofs.Common.{refl}
use Rattle.std.specs.Prelude.{Some, None}
use Rattle.flowgraph.specs.Flowgraph.{net_of}
use Rattle.pipeline.specs.declared.requests.Ended.TheVariants as ended
use Rattle.pipeline.specs.Faults.{NoMemory}
use Rattle.pipeline.specs.Requests.{GoesOnAsked}
use Rattle.pipeline.proofs.Delivering.{on_err, on_ok}
use Rattle.pipeline.proofs.Moving.{begins_none}
use Rattle.pipeline.proofs.Speaking.{asked_begins, asked_goes, asked_more, asked_none, asked_rests, asked_settled, begins_streams, goes_streams, stopped_by, went_on}
use Rattle.pipeline.proofs.pipeline.Pipeline.run_asked.Goals as goal

pub loop-turns-init : goal.loop-turns-init
loop-turns-init g c = asked_none g.R.Read.remaining g.W.Write.contents g.C.Requests.asked g.C.Requests.answered _ _ _ _

pub returns-in_err-write_rest-clause-begins : goal.returns-in_err-write_rest-clause-begins
returns-in_err-write_rest-clause-begins g c =
    let served : GoesOnAsked g.R.Read.remaining g.W.Write.contents g.C.Requests.asked g.C.Requests.answered (net_of g.B.Block.meaning c.args.self.now.plant.plant.graph) (Some ended.Stopped) c.args.requests.now c.serve.new.requests c.args.self.now.plant c.serve.new.self.plant c.args.self.now.ends.items c.serve.new.self.ends.items = (asked_more g.R.Read.remaining g.W.Write.contents g.C.Requests.asked g.C.Requests.answered g.B.Block.meaning (Some ended.Stopped) c.args.requests.now c.loop-turns.requests c.serve.new.requests c.args.self.now.plant c.loop-turns.self.plant c.serve.new.self.plant c.args.self.now.ends.items c.loop-turns.self.ends.items c.serve.new.self.ends.items c.loop-turns.invariant (stopped_by g.R.Read.remaining g.W.Write.contents g.C.Requests.asked g.C.Requests.answered _ _ _ _ _ _ _ c.serve.result c.if-serve.true c.serve.ensures)) in
    on_err _ (asked_begins g.R.Read.remaining g.W.Write.contents g.C.Requests.asked g.C.Requests.answered g.B.Block.meaning (Some ended.Stopped) c.args.requests.now c.serve.new.requests c.serve.new.requests c.args.self.now.plant c.serve.new.self.plant c.write_rest.new.self.plant c.args.self.now.ends.items c.serve.new.self.ends.items c.write_rest.new.self.ends.items served c.in_err-write_rest.ensures.begins)

pub returns-in_err-write_rest-clause-stream_begins : goal.returns-in_err-write_rest-clause-stream_begins
returns-in_err-write_rest-clause-stream_begins g c =
    let served : GoesOnAsked g.R.Read.remaining g.W.Write.contents g.C.Requests.asked g.C.Requests.answered (net_of g.B.Block.meaning c.args.self.now.plant.plant.graph) (Some ended.Stopped) c.args.requests.now c.serve.new.requests c.args.self.now.plant c.serve.new.self.plant c.args.self.now.ends.items c.serve.new.self.ends.items = (asked_more g.R.Read.remaining g.W.Write.contents g.C.Requests.asked g.C.Requests.answered g.B.Block.meaning (Some ended.Stopped) c.args.requests.now c.loop-turns.requests c.serve.new.requests c.args.self.now.plant c.loop-turns.self.plant c.serve.new.self.plant c.args.self.now.ends.items c.loop-turns.self.ends.items c.serve.new.self.ends.items c.loop-turns.invariant (stopped_by g.R.Read.remaining g.W.Write.contents g.C.Requests.asked g.C.Requests.answered _ _ _ _ _ _ _ c.serve.result c.if-serve.true c.serve.ensures)) in
    on_err _ (begins_streams g.R.Read.remaining g.W.Write.contents g.C.Requests.asked g.C.Requests.answered (net_of g.B.Block.meaning c.args.self.now.plant.plant.graph) c.args.requests.now c.serve.new.requests c.args.self.now.plant c.write_rest.new.self.plant c.args.self.now.ends.items c.write_rest.new.self.ends.items (asked_begins g.R.Read.remaining g.W.Write.contents g.C.Requests.asked g.C.Requests.answered g.B.Block.meaning (Some ended.Stopped) c.args.requests.now c.serve.new.requests c.serve.new.requests c.args.self.now.plant c.serve.new.self.plant c.write_rest.new.self.plant c.args.self.now.ends.items c.serve.new.self.ends.items c.write_rest.new.self.ends.items served c.in_err-write_rest.ensures.begins))

pub returns-then-serve-clause-goes : goal.returns-then-serve-clause-goes
returns-then-serve-clause-goes g c =
    let served : GoesOnAsked g.R.Read.remaining g.W.Write.contents g.C.Requests.asked g.C.Requests.answered (net_of g.B.Block.meaning c.args.self.now.plant.plant.graph) (Some ended.Stopped) c.args.requests.now c.serve.new.requests c.args.self.now.plant c.serve.new.self.plant c.args.self.now.ends.items c.serve.new.self.ends.items = (asked_more g.R.Read.remaining g.W.Write.contents g.C.Requests.asked g.C.Requests.answered g.B.Block.meaning (Some ended.Stopped) c.args.requests.now c.loop-turns.requests c.serve.new.requests c.args.self.now.plant c.loop-turns.self.plant c.serve.new.self.plant c.args.self.now.ends.items c.loop-turns.self.ends.items c.serve.new.self.ends.items c.loop-turns.invariant (stopped_by g.R.Read.remaining g.W.Write.contents g.C.Requests.asked g.C.Requests.answered _ _ _ _ _ _ _ c.serve.result c.if-serve.true c.serve.ensures)) in
    (asked_rests g.R.Read.remaining g.W.Write.contents g.C.Requests.asked g.C.Requests.answered g.B.Block.meaning c.args.requests.now c.serve.new.requests c.args.self.now.plant c.serve.new.self.plant c.write_rest.new.self.plant c.args.self.now.ends.items c.serve.new.self.ends.items c.write_rest.new.self.ends.items served c.in_ok-write_rest.ensures.goes c.write_rest.ensures.same)

pub returns-then-serve-clause-streams : goal.returns-then-serve-clause-streams
returns-then-serve-clause-streams g c =
    let served : GoesOnAsked g.R.Read.remaining g.W.Write.contents g.C.Requests.asked g.C.Requests.answered (net_of g.B.Block.meaning c.args.self.now.plant.plant.graph) (Some ended.Stopped) c.args.requests.now c.serve.new.requests c.args.self.now.plant c.serve.new.self.plant c.args.self.now.ends.items c.serve.new.self.ends.items = (asked_more g.R.Read.remaining g.W.Write.contents g.C.Requests.asked g.C.Requests.answered g.B.Block.meaning (Some ended.Stopped) c.args.requests.now c.loop-turns.requests c.serve.new.requests c.args.self.now.plant c.loop-turns.self.plant c.serve.new.self.plant c.args.self.now.ends.items c.loop-turns.self.ends.items c.serve.new.self.ends.items c.loop-turns.invariant (stopped_by g.R.Read.remaining g.W.Write.contents g.C.Requests.asked g.C.Requests.answered _ _ _ _ _ _ _ c.serve.result c.if-serve.true c.serve.ensures)) in
    goes_streams g.R.Read.remaining g.W.Write.contents g.C.Requests.asked g.C.Requests.answered (net_of g.B.Block.meaning c.args.self.now.plant.plant.graph) c.args.requests.now c.serve.new.requests c.args.self.now.plant c.write_rest.new.self.plant c.args.self.now.ends.items c.write_rest.new.self.ends.items (Some ended.Stopped) (asked_rests g.R.Read.remaining g.W.Write.contents g.C.Requests.asked g.C.Requests.answered g.B.Block.meaning c.args.requests.now c.serve.new.requests c.args.self.now.plant c.serve.new.self.plant c.write_rest.new.self.plant c.args.self.now.ends.items c.serve.new.self.ends.items c.write_rest.new.self.ends.items served c.in_ok-write_rest.ensures.goes c.write_rest.ensures.same)

pub returns-in_err-settled-clause-begins : goal.returns-in_err-settled-clause-begins
returns-in_err-settled-clause-begins g c =
    let served : GoesOnAsked g.R.Read.remaining g.W.Write.contents g.C.Requests.asked g.C.Requests.answered (net_of g.B.Block.meaning c.args.self.now.plant.plant.graph) None c.args.requests.now c.serve.new.requests c.args.self.now.plant c.serve.new.self.plant c.args.self.now.ends.items c.serve.new.self.ends.items = (asked_more g.R.Read.remaining g.W.Write.contents g.C.Requests.asked g.C.Requests.answered g.B.Block.meaning None c.args.requests.now c.loop-turns.requests c.serve.new.requests c.args.self.now.plant c.loop-turns.self.plant c.serve.new.self.plant c.args.self.now.ends.items c.loop-turns.self.ends.items c.serve.new.self.ends.items c.loop-turns.invariant (went_on g.R.Read.remaining g.W.Write.contents g.C.Requests.asked g.C.Requests.answered _ _ _ _ _ _ _ c.serve.result c.if-serve.false c.serve.ensures)) in
    on_err _ (asked_begins g.R.Read.remaining g.W.Write.contents g.C.Requests.asked g.C.Requests.answered g.B.Block.meaning None c.args.requests.now c.serve.new.requests c.serve.new.requests c.args.self.now.plant c.serve.new.self.plant c.advance.new.self.plant c.args.self.now.ends.items c.serve.new.self.ends.items c.advance.new.self.ends.items served c.in_err-settled.ensures.begins)

pub returns-in_err-settled-clause-stream_begins : goal.returns-in_err-settled-clause-stream_begins
returns-in_err-settled-clause-stream_begins g c =
    let served : GoesOnAsked g.R.Read.remaining g.W.Write.contents g.C.Requests.asked g.C.Requests.answered (net_of g.B.Block.meaning c.args.self.now.plant.plant.graph) None c.args.requests.now c.serve.new.requests c.args.self.now.plant c.serve.new.self.plant c.args.self.now.ends.items c.serve.new.self.ends.items = (asked_more g.R.Read.remaining g.W.Write.contents g.C.Requests.asked g.C.Requests.answered g.B.Block.meaning None c.args.requests.now c.loop-turns.requests c.serve.new.requests c.args.self.now.plant c.loop-turns.self.plant c.serve.new.self.plant c.args.self.now.ends.items c.loop-turns.self.ends.items c.serve.new.self.ends.items c.loop-turns.invariant (went_on g.R.Read.remaining g.W.Write.contents g.C.Requests.asked g.C.Requests.answered _ _ _ _ _ _ _ c.serve.result c.if-serve.false c.serve.ensures)) in
    on_err _ (begins_streams g.R.Read.remaining g.W.Write.contents g.C.Requests.asked g.C.Requests.answered (net_of g.B.Block.meaning c.args.self.now.plant.plant.graph) c.args.requests.now c.serve.new.requests c.args.self.now.plant c.advance.new.self.plant c.args.self.now.ends.items c.advance.new.self.ends.items (asked_begins g.R.Read.remaining g.W.Write.contents g.C.Requests.asked g.C.Requests.answered g.B.Block.meaning None c.args.requests.now c.serve.new.requests c.serve.new.requests c.args.self.now.plant c.serve.new.self.plant c.advance.new.self.plant c.args.self.now.ends.items c.serve.new.self.ends.items c.advance.new.self.ends.items served c.in_err-settled.ensures.begins))

pub returns-in-Some-clause-goes : goal.returns-in-Some-clause-goes
returns-in-Some-clause-goes g c =
    let served : GoesOnAsked g.R.Read.remaining g.W.Write.contents g.C.Requests.asked g.C.Requests.answered (net_of g.B.Block.meaning c.args.self.now.plant.plant.graph) None c.args.requests.now c.serve.new.requests c.args.self.now.plant c.serve.new.self.plant c.args.self.now.ends.items c.serve.new.self.ends.items = (asked_more g.R.Read.remaining g.W.Write.contents g.C.Requests.asked g.C.Requests.answered g.B.Block.meaning None c.args.requests.now c.loop-turns.requests c.serve.new.requests c.args.self.now.plant c.loop-turns.self.plant c.serve.new.self.plant c.args.self.now.ends.items c.loop-turns.self.ends.items c.serve.new.self.ends.items c.loop-turns.invariant (went_on g.R.Read.remaining g.W.Write.contents g.C.Requests.asked g.C.Requests.answered _ _ _ _ _ _ _ c.serve.result c.if-serve.false c.serve.ensures)) in
    (asked_settled g.R.Read.remaining g.W.Write.contents g.C.Requests.asked g.C.Requests.answered (net_of g.B.Block.meaning c.args.self.now.plant.plant.graph) c.args.requests.now c.serve.new.requests c.args.self.now.plant c.advance.new.self.plant c.args.self.now.ends.items c.advance.new.self.ends.items c.in-Some.settled (asked_goes g.R.Read.remaining g.W.Write.contents g.C.Requests.asked g.C.Requests.answered g.B.Block.meaning c.args.requests.now c.serve.new.requests c.args.self.now.plant c.serve.new.self.plant c.advance.new.self.plant c.args.self.now.ends.items c.serve.new.self.ends.items c.advance.new.self.ends.items served c.in_ok-settled.ensures.goes))

pub returns-in-Some-clause-streams : goal.returns-in-Some-clause-streams
returns-in-Some-clause-streams g c =
    let served : GoesOnAsked g.R.Read.remaining g.W.Write.contents g.C.Requests.asked g.C.Requests.answered (net_of g.B.Block.meaning c.args.self.now.plant.plant.graph) None c.args.requests.now c.serve.new.requests c.args.self.now.plant c.serve.new.self.plant c.args.self.now.ends.items c.serve.new.self.ends.items = (asked_more g.R.Read.remaining g.W.Write.contents g.C.Requests.asked g.C.Requests.answered g.B.Block.meaning None c.args.requests.now c.loop-turns.requests c.serve.new.requests c.args.self.now.plant c.loop-turns.self.plant c.serve.new.self.plant c.args.self.now.ends.items c.loop-turns.self.ends.items c.serve.new.self.ends.items c.loop-turns.invariant (went_on g.R.Read.remaining g.W.Write.contents g.C.Requests.asked g.C.Requests.answered _ _ _ _ _ _ _ c.serve.result c.if-serve.false c.serve.ensures)) in
    goes_streams g.R.Read.remaining g.W.Write.contents g.C.Requests.asked g.C.Requests.answered (net_of g.B.Block.meaning c.args.self.now.plant.plant.graph) c.args.requests.now c.serve.new.requests c.args.self.now.plant c.advance.new.self.plant c.args.self.now.ends.items c.advance.new.self.ends.items None (asked_goes g.R.Read.remaining g.W.Write.contents g.C.Requests.asked g.C.Requests.answered g.B.Block.meaning c.args.requests.now c.serve.new.requests c.args.self.now.plant c.serve.new.self.plant c.advance.new.self.plant c.args.self.now.ends.items c.serve.new.self.ends.items c.advance.new.self.ends.items served c.in_ok-settled.ensures.goes)

pub loop-turns-preserved : goal.loop-turns-preserved
loop-turns-preserved g c =
    let served : GoesOnAsked g.R.Read.remaining g.W.Write.contents g.C.Requests.asked g.C.Requests.answered (net_of g.B.Block.meaning c.args.self.now.plant.plant.graph) None c.args.requests.now c.serve.new.requests c.args.self.now.plant c.serve.new.self.plant c.args.self.now.ends.items c.serve.new.self.ends.items = (asked_more g.R.Read.remaining g.W.Write.contents g.C.Requests.asked g.C.Requests.answered g.B.Block.meaning None c.args.requests.now c.loop-turns.requests c.serve.new.requests c.args.self.now.plant c.loop-turns.self.plant c.serve.new.self.plant c.args.self.now.ends.items c.loop-turns.self.ends.items c.serve.new.self.ends.items c.loop-turns.invariant (went_on g.R.Read.remaining g.W.Write.contents g.C.Requests.asked g.C.Requests.answered _ _ _ _ _ _ _ c.serve.result c.if-serve.false c.serve.ensures)) in
    (asked_goes g.R.Read.remaining g.W.Write.contents g.C.Requests.asked g.C.Requests.answered g.B.Block.meaning c.args.requests.now c.serve.new.requests c.args.self.now.plant c.serve.new.self.plant c.advance.new.self.plant c.args.self.now.ends.items c.serve.new.self.ends.items c.advance.new.self.ends.items served c.in_ok-settled.ensures.goes)

pub returns-clause-begins : goal.returns-clause-begins
returns-clause-begins g c = (asked_begins g.R.Read.remaining g.W.Write.contents g.C.Requests.asked g.C.Requests.answered g.B.Block.meaning None c.args.requests.now c.loop-turns.requests c.loop-turns.requests c.args.self.now.plant c.loop-turns.self.plant c.loop-turns.self.plant c.args.self.now.ends.items c.loop-turns.self.ends.items c.loop-turns.self.ends.items c.loop-turns.invariant (begins_none g.R.Read.remaining g.W.Write.contents _ _ _ _ refl))

pub returns-clause-stream_begins : goal.returns-clause-stream_begins
returns-clause-stream_begins g c = begins_streams g.R.Read.remaining g.W.Write.contents g.C.Requests.asked g.C.Requests.answered (net_of g.B.Block.meaning c.args.self.now.plant.plant.graph) c.args.requests.now c.loop-turns.requests c.args.self.now.plant c.loop-turns.self.plant c.args.self.now.ends.items c.loop-turns.self.ends.items (asked_begins g.R.Read.remaining g.W.Write.contents g.C.Requests.asked g.C.Requests.answered g.B.Block.meaning None c.args.requests.now c.loop-turns.requests c.loop-turns.requests c.args.self.now.plant c.loop-turns.self.plant c.loop-turns.self.plant c.args.self.now.ends.items c.loop-turns.self.ends.items c.loop-turns.self.ends.items c.loop-turns.invariant (begins_none g.R.Read.remaining g.W.Write.contents _ _ _ _ refl))

pub returns-clause-fault : goal.returns-clause-fault
returns-clause-fault g c = NoMemory
