use Rattle.std.proofs.Common.{rules, ◌≡◌, [], ap, refl, sym, subst, arith, ◌∙◌}
use Rattle.std.proofs.lemmas.Result.{IfErr-weaker}
use Rattle.std.specs.Prelude.{IfErr}
use Rattle.pipeline.specs.declared.part.TapePart.{TapePart}
use Rattle.pipeline.specs.MarkFaults.{KeepsGiven, NamesFirst, Never}
use Rattle.pipeline.specs.Marks.{GivesTo, Marking}
use Rattle.pipeline.proofs.Delivering.{on_err}
use Rattle.pipeline.proofs.Refusing.{names-then}
use Rattle.pipeline.proofs.Telling.{gives-read-then, gives_to-none, gives_to-then, keeps-then, passes-gives, passes-keeps}
use Rattle.pipeline.specs.Faults.{NotesMarks}
use Rattle.pipeline.proofs.Noting.{marks_noted_from}
use Rattle.pipeline.proofs.marks.MarkReader.find_own.Goals as goal

pub loop-marks-init : goal.loop-marks-init
loop-marks-init g c = record { gives = gives_to-none g.R.Read.remaining _ []; same = λ n is up. refl; keeps = λ n up. up; stays = refl }

pub loop-marks-preserved : goal.loop-marks-preserved
loop-marks-preserved g c =
    let remaining = g.R.Read.remaining in
    let old = c.args.self.now in
    let l = c.loop-marks.self in
    let m = c.find.new.self in
    let passes = c.pass.ensures.passed c.if-not-pass.false in
    let found = keeps-then old l m c.loop-marks.invariant.keeps c.in_ok-find.ensures.keeps in
    record {
      gives = gives_to-then remaining old m c.pass.new.self [] [] [] (gives_to-then remaining old l m [] [] [] c.loop-marks.invariant.gives ([], c.in_ok-find.ensures.ok, refl)) (passes-gives remaining m c.pass.new.self passes);
      same = λ n wanted up.
          let low = passes.before in
          let high = (found n up).held passes.mark passes.held in
          absurd (omega (arith, low, high));
      keeps = λ n up. passes-keeps m c.pass.new.self passes n (found n up);
      stays = ap Marking.has_failed passes.passed ∙ c.in_ok-find.ensures.stays ∙ c.loop-marks.invariant.stays;
    }

pub returns-then-not-pass-clause-ok : goal.returns-then-not-pass-clause-ok
returns-then-not-pass-clause-ok g c =
    let remaining = g.R.Read.remaining in
    subst (λ (x : Marking _). GivesTo remaining c.args.self.now x [] []) (sym (c.pass.ensures.same c.if-not-pass.true))
    (gives_to-then remaining c.args.self.now c.loop-marks.self c.find.new.self [] [] [] c.loop-marks.invariant.gives ([], c.in_ok-find.ensures.ok, refl))

pub returns-then-not-pass-clause-own : goal.returns-then-not-pass-clause-own
returns-then-not-pass-clause-own g c = λ mark held.
    let same = c.pass.ensures.same c.if-not-pass.true in
    let own = c.pass.ensures.own c.if-not-pass.true mark (sym (ap Marking.held same) ∙ held) in
    let old : c.find.new.self.part.origin ≡ c.args.self.now.part.origin = ap TapePart.origin (c.in_ok-find.ensures.ok.part ∙ c.loop-marks.invariant.gives.1.part) in
    omega (arith, own, old)

pub returns-then-not-pass-clause-keeps : goal.returns-then-not-pass-clause-keeps
returns-then-not-pass-clause-keeps g c =
    subst (KeepsGiven c.args.self.now) (sym (c.pass.ensures.same c.if-not-pass.true))
    (keeps-then c.args.self.now c.loop-marks.self c.find.new.self c.loop-marks.invariant.keeps c.in_ok-find.ensures.keeps)

pub returns-then-not-pass-clause-same : goal.returns-then-not-pass-clause-same
returns-then-not-pass-clause-same g c = λ n wanted up.
    let is = c.loop-marks.invariant.same n wanted up in
    c.pass.ensures.same c.if-not-pass.true ∙ c.find.ensures.same n wanted (c.loop-marks.invariant.keeps n up) ∙ is

pub returns-in_err-find-clause-err : goal.returns-in_err-find-clause-err
returns-in_err-find-clause-err g c = on_err c.from_residual.result (gives-read-then g.R.Read.remaining c.args.self.now c.loop-marks.self c.find.new.self c.loop-marks.invariant.gives.0 c.loop-marks.invariant.gives.1 c.in_err-find.ensures.err)

pub returns-in_err-find-clause-first : goal.returns-in_err-find-clause-first
returns-in_err-find-clause-first g c =
    let told : IfErr c.from_residual.result (NamesFirst g.R.Read.remaining Never c.loop-marks.self c.find.new.self) = search rules in
    IfErr-weaker c.from_residual.result _ _
    (names-then g.R.Read.remaining Never Never (λ _ never. never) c.args.self.now c.loop-marks.self c.find.new.self c.loop-marks.invariant.gives.0 c.loop-marks.invariant.gives.1) told

pub returns-in_err-find-clause-noted : goal.returns-in_err-find-clause-noted
returns-in_err-find-clause-noted g c =
    let told : IfErr c.from_residual.result (NotesMarks c.loop-marks.self.has_failed c.find.new.self.has_failed) = search rules in
    IfErr-weaker c.from_residual.result _ _ (λ fault. marks_noted_from _ _ _ fault c.loop-marks.invariant.stays) told
