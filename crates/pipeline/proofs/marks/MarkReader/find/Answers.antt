use Rattle.std.proofs.Common.{rules, ◌≡◌, ℕ, [], false, ap, refl, sym, subst, ◌∙◌}
use Rattle.std.proofs.lemmas.Result.{IfErr-weaker}
use Rattle.std.specs.Prelude.{IfErr, None, Option, Some}
use Rattle.std.specs.Option.{option_map}
use Rattle.script_text.specs.Commands.{mark_seen}
use Rattle.pipeline.specs.MarkFaults.{NamesFirst, Never, Reaches}
use Rattle.pipeline.specs.Marks.{Marking}
use Rattle.pipeline.proofs.Delivering.{on_err}
use Rattle.pipeline.proofs.Refusing.{names-then}
use Rattle.pipeline.proofs.Telling.{gives-none, gives-read-then, gives-then, keeps-then}
use Rattle.pipeline.specs.Faults.{NotesMarks}
use Rattle.pipeline.proofs.Noting.{marks_noted_from}
use Rattle.pipeline.proofs.marks.MarkReader.find.Goals as goal

pub loop-pieces-init : goal.loop-pieces-init
loop-pieces-init g c = record { gives = gives-none g.R.Read.remaining _; same = λ n is up. refl; keeps = λ n up. up; stays = refl }

pub loop-pieces-preserved : goal.loop-pieces-preserved
loop-pieces-preserved g c = record {
  gives = gives-then g.R.Read.remaining c.args.self.now c.loop-pieces.self c.read_on.new.self [] c.loop-pieces.invariant.gives [] c.in_ok-read_on.ensures.ok;
  same = λ n wanted up.
      let empty : option_map mark_seen c.self.inside.held ≡ None = search rules in
      let none : c.loop-pieces.self.held ≡ None = sym (ap Marking.held c.self.view_is) ∙ empty in
      let still : c.loop-pieces.self.is_over ≡ false = sym (ap Marking.is_over c.self.view_is) ∙ c.if-self.false in
      let far : Reaches (Some n) c.loop-pieces.self = (c.loop-pieces.invariant.keeps n up).none none in
      absurd (c.reaches.ensures.no c.if-reaches.false still (subst (λ (e : Option ℕ). Reaches e c.loop-pieces.self) (sym wanted) far));
  keeps = keeps-then c.args.self.now c.loop-pieces.self c.read_on.new.self c.loop-pieces.invariant.keeps c.in_ok-read_on.ensures.keeps;
  stays = c.in_ok-read_on.ensures.stays ∙ c.loop-pieces.invariant.stays;
}

pub returns-in_err-read_on-clause-err : goal.returns-in_err-read_on-clause-err
returns-in_err-read_on-clause-err g c = on_err c.from_residual.result (gives-read-then g.R.Read.remaining c.args.self.now c.loop-pieces.self c.read_on.new.self [] c.loop-pieces.invariant.gives c.in_err-read_on.ensures.err)

pub returns-in_err-read_on-clause-first : goal.returns-in_err-read_on-clause-first
returns-in_err-read_on-clause-first g c =
    let told : IfErr c.from_residual.result (NamesFirst g.R.Read.remaining Never c.loop-pieces.self c.read_on.new.self) = search rules in
    IfErr-weaker c.from_residual.result _ _
    (names-then g.R.Read.remaining Never Never (λ _ never. never) c.args.self.now c.loop-pieces.self c.read_on.new.self [] c.loop-pieces.invariant.gives) told

pub returns-in_err-read_on-clause-noted : goal.returns-in_err-read_on-clause-noted
returns-in_err-read_on-clause-noted g c =
    let told : IfErr c.from_residual.result (NotesMarks c.loop-pieces.self.has_failed c.read_on.new.self.has_failed) = search rules in
    IfErr-weaker c.from_residual.result _ _ (λ fault. marks_noted_from _ _ _ fault c.loop-pieces.invariant.stays) told
