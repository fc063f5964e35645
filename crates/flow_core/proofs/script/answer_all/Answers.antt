use Rattle.std.proofs.lemmas.List.{length-take}
use Rattle.std.proofs.Common.{refl, arith, ◌∙◌}
use Rattle.std.proofs.lemmas.Result.{err_from_is_err_and}
use Rattle.flow_core.proofs.Flows.{flows_start, flows_on, breaks_in, breaks_last, ends_last, breaks_between, breaks_read, kept_count, room_for}
use Rattle.flow_core.proofs.Outcomes.{if_ok, if_err}
use Rattle.flow_core.proofs.script.answer_all.Goals as goal

pub loop-pieces-init : goal.loop-pieces-init
loop-pieces-init g c = (
  refl,
  refl,
  flows_start g.A.Answerer.answers c.args.session.now _ _ c.args.lines.now c.requires.none,
)

pub returns-in_default-clause-breaks : goal.returns-in_default-clause-breaks
returns-in_default-clause-breaks g c = breaks_read g.A.Answerer.answers c.args.session.now c.loop-pieces.session _ (g.I.ByteIn.remaining c.loop-pieces.input) _ _ _ c.loop-pieces.lines _ c.loop-pieces.invariant.2 c.in_default.ensures.bytes

pub returns-clause-breaks : goal.returns-clause-breaks
returns-clause-breaks g c = breaks_between g.A.Answerer.answers c.args.session.now c.loop-pieces.session _ _ _ _ c.loop-pieces.lines _ c.loop-pieces.invariant.2 (omega arith)

pub returns-then-read-eq0-clause-ends : goal.returns-then-read-eq0-clause-ends
returns-then-read-eq0-clause-ends g c =
    if_ok c.answer_last.result _ _ c.answer_last.ensures.answered (λ _ answered.
    ends_last g.A.Answerer.answers c.args.session.now c.loop-pieces.session c.answer_last.new.session _ (g.I.ByteIn.remaining c.loop-pieces.input) _ _ (g.O.ByteOut.contents c.loop-pieces.output) _ c.loop-pieces.lines _ c.loop-pieces.invariant.2
    (rw c.if-read-eq0.true at c.in-Ok.ensures.bytes.0) (c.in-Ok.ensures.bytes.1 c.if-read-eq0.true (omega arith)) answered)

pub returns-then-read-eq0-clause-breaks : goal.returns-then-read-eq0-clause-breaks
returns-then-read-eq0-clause-breaks g c =
    if_err c.answer_last.result _ _ c.answer_last.ensures.stops (λ fault stops.
    breaks_last g.A.Answerer.answers c.args.session.now c.loop-pieces.session _ (g.I.ByteIn.remaining c.loop-pieces.input) _ _ (g.O.ByteOut.contents c.loop-pieces.output) _ c.loop-pieces.lines _ fault c.loop-pieces.invariant.2
    (rw c.if-read-eq0.true at c.in-Ok.ensures.bytes.0) (c.in-Ok.ensures.bytes.1 c.if-read-eq0.true (omega arith)) stops)

pub returns-in_err-answer_lines-clause-breaks : goal.returns-in_err-answer_lines-clause-breaks
returns-in_err-answer_lines-clause-breaks g c =
    let p = err_from_is_err_and c.from_residual.result c.from_residual.ensures.1 in
    rw (p.1, p.2)
    (breaks_in g.A.Answerer.answers c.args.session.now c.loop-pieces.session _ (g.I.ByteIn.remaining c.loop-pieces.input) _ _ (g.O.ByteOut.contents c.loop-pieces.output) _ c.loop-pieces.lines c.push.new.self _ _ c.in_err-answer_lines.field-0.0 c.loop-pieces.invariant.2
    c.in-Ok.ensures.bytes.0 c.push.ensures.rest c.push.ensures.taken c.in_err-answer_lines.ensures.stops)

pub loop-pieces-preserved : goal.loop-pieces-preserved
loop-pieces-preserved g c = (
  c.in-Ok.ensures.counted ∙ c.loop-pieces.invariant.0,
  kept_count _ _ _ c.in_ok-answer_lines.ensures.failed_writes c.loop-pieces.invariant.1,
  flows_on g.A.Answerer.answers c.args.session.now c.loop-pieces.session _ _ (g.I.ByteIn.remaining c.loop-pieces.input) _ _ (g.O.ByteOut.contents c.loop-pieces.output) _ c.loop-pieces.lines c.push.new.self _ _ _ c.loop-pieces.invariant.2 (let size = length-take c.in-Ok.read c.read.new.buffer in omega (arith, size, c.in-Ok.ensures.bound))
      c.in-Ok.ensures.bytes.0 c.push.ensures.rest c.push.ensures.taken c.in_ok-answer_lines.ensures.went c.in_ok-answer_lines.ensures.unfinished,
)

pub push-requires : goal.push-requires
push-requires g c = room_for c.loop-pieces.lines _ c.loop-pieces.invariant.2.unfinished (let size = length-take c.in-Ok.read c.read.new.buffer in omega (arith, size, c.in-Ok.ensures.bound))
