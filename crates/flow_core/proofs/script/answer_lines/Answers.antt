use Rattle.std.proofs.Common.{arith}
use Rattle.script_text.specs.Scripts.{said_of}
use Rattle.flow_core.proofs.Flows.{stops_behind, went_on}
use Rattle.flow_core.proofs.script.answer_lines.Goals as goal

pub returns-in-Err-clause-stops : goal.returns-in-Err-clause-stops
returns-in-Err-clause-stops g c =
    let went = c.loop-fault.invariant.1 in
    stops_behind g.A.Answerer.answers (said_of c.args.lines.now) (said_of c.loop-fault.lines) went.before _ c.loop-fault.session _ (g.O.ByteOut.contents c.loop-fault.output) _ c.args.lines.now.taken c.loop-fault.lines.taken c.in-Err.fault went.says went.answered went.counted
    c.in-Err.ensures.stops

pub loop-fault-preserved : goal.loop-fault-preserved
loop-fault-preserved g c =
    let proceeds = rw c.in-Ok-true.field-0-test at c.in-Ok-true.ensures.proceeds in (
      omega (arith, c.in-Ok-true.ensures.failed_writes, c.loop-fault.invariant.0),
      went_on g.A.Answerer.answers c.args.session.now c.loop-fault.session c.answer_next.new.session (g.O.ByteOut.contents c.args.output.now) (g.O.ByteOut.contents c.loop-fault.output) (g.O.ByteOut.contents c.answer_next.new.output) c.args.lines.now c.loop-fault.lines c.answer_next.new.lines proceeds.0 c.loop-fault.invariant.1 proceeds.1 proceeds.2,
    )
