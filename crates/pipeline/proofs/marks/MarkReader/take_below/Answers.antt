use Rattle.std.proofs.Common.{rules, ◌+◌, ◌<◌, ◌≤◌, refl, ◌∙◌, subst}
use Rattle.std.proofs.lemmas.Result.{IfErr-weaker}
use Rattle.std.specs.Prelude.{IfErr}
use Rattle.script_text.specs.Commands.{marks_seen}
use Rattle.pipeline.specs.declared.part.TapePart.{TapePart}
use Rattle.pipeline.specs.MarkFaults.{IsBefore, NamesFirst}
use Rattle.pipeline.proofs.Delivering.{on_err}
use Rattle.pipeline.proofs.Refusing.{names-then}
use Rattle.pipeline.proofs.Telling.{gives-read-then, gives_to-none, gives_to-then}
use Rattle.pipeline.specs.Faults.{NotesMarks}
use Rattle.pipeline.proofs.Noting.{marks_noted_from}
use Rattle.pipeline.proofs.marks.MarkReader.take_below.Goals as goal

pub returns-in_err-take_one-clause-err : goal.returns-in_err-take_one-clause-err
returns-in_err-take_one-clause-err g c =
    on_err c.from_residual.result (gives-read-then g.R.Read.remaining c.args.self.now c.loop-marks.self c.take_one.new.self c.loop-marks.invariant.gives.0 c.loop-marks.invariant.gives.1 c.in_err-take_one.ensures.err)

pub returns-in_err-take_one-clause-first : goal.returns-in_err-take_one-clause-first
returns-in_err-take_one-clause-first g c =
    let gives = c.loop-marks.invariant.gives in
    let P = IsBefore c.args.start c.loop-marks.self in
    let Q = IsBefore c.args.start c.args.self.now in
    let told : IfErr c.from_residual.result (NamesFirst g.R.Read.remaining P c.loop-marks.self c.take_one.new.self) = search rules in
    IfErr-weaker c.from_residual.result _ _
    (names-then g.R.Read.remaining P Q (λ mark before. subst (λ (part : TapePart). (part.origin ≤ mark.offset) × (mark.offset < part.origin + c.args.start)) gives.1.part before) c.args.self.now c.loop-marks.self c.take_one.new.self gives.0 gives.1) told

pub returns-then-not-branch-clause-ok : goal.returns-then-not-branch-clause-ok
returns-then-not-branch-clause-ok g c =
    gives_to-then g.R.Read.remaining c.args.self.now c.loop-marks.self c.take_one.new.self (marks_seen c.args.marks.now.items) (marks_seen c.loop-marks.marks.items) (marks_seen c.take_one.new.marks.items) c.loop-marks.invariant.gives c.in_ok-take_one.ensures.ok

pub returns-then-not-branch-clause-within : goal.returns-then-not-branch-clause-within
returns-then-not-branch-clause-within g c = λ all. c.in_ok-take_one.ensures.within (c.loop-marks.invariant.within all)

pub loop-marks-preserved : goal.loop-marks-preserved
loop-marks-preserved g c = record {
  gives = gives_to-then g.R.Read.remaining c.args.self.now c.loop-marks.self c.take_one.new.self (marks_seen c.args.marks.now.items) (marks_seen c.loop-marks.marks.items) (marks_seen c.take_one.new.marks.items) c.loop-marks.invariant.gives c.in_ok-take_one.ensures.ok;
  within = λ all. c.in_ok-take_one.ensures.within (c.loop-marks.invariant.within all);
  stays = c.in_ok-take_one.ensures.stays ∙ c.loop-marks.invariant.stays;
}

pub loop-marks-init : goal.loop-marks-init
loop-marks-init g c = record {
  gives = gives_to-none g.R.Read.remaining _ (marks_seen c.args.marks.now.items);
  within = λ all. all;
  stays = refl;
}

pub returns-in_err-take_one-clause-noted : goal.returns-in_err-take_one-clause-noted
returns-in_err-take_one-clause-noted g c =
    let told : IfErr c.from_residual.result (NotesMarks c.loop-marks.self.has_failed c.take_one.new.self.has_failed) = search rules in
    IfErr-weaker c.from_residual.result _ _ (λ fault. marks_noted_from _ _ _ fault c.loop-marks.invariant.stays) told

pub returns-then-not-branch-clause-stays : goal.returns-then-not-branch-clause-stays
returns-then-not-branch-clause-stays g c = c.in_ok-take_one.ensures.stays ∙ c.loop-marks.invariant.stays
