use Rattle.std.proofs.Common.{rules, [], refl, ap, subst}
use Rattle.std.proofs.lemmas.Result.{IfErr-weaker}
use Rattle.std.specs.Prelude.{IfErr, IsSome}
use Rattle.script_text.specs.Commands.{mark_seen}
use Rattle.pipeline.specs.MarkFaults.{IsBehind, NamesFirst, Never}
use Rattle.pipeline.specs.Marks.{Marking}
use Rattle.pipeline.proofs.Refusing.{left-names, names-then}
use Rattle.pipeline.proofs.Telling.{gives-none, gives_to-none, some_seen}
use Rattle.pipeline.proofs.marks.MarkReader.end.Goals as goal

pub returns-then-self-clause-ok : goal.returns-then-self-clause-ok
returns-then-self-clause-ok g c = gives_to-none g.R.Read.remaining _ []

pub returns-in_err-find_own-clause-first : goal.returns-in_err-find_own-clause-first
returns-in_err-find_own-clause-first g c =
    let remaining = g.R.Read.remaining in
    let old = c.args.self.now in
    let told : IfErr c.from_residual.result (NamesFirst remaining Never old c.find_own.new.self) = search rules in
    IfErr-weaker c.from_residual.result _ _ (names-then remaining Never (IsBehind old) (λ _ never. absurd never) old old c.find_own.new.self [] (gives-none remaining old)) told

pub returns-then-is_some-clause-first : goal.returns-then-is_some-clause-first
returns-then-is_some-clause-first g c =
    let there : IsSome c.self-2.inside.held = search rules in
    let gives = c.in_ok-find_own.ensures.ok in
    rw (ap Marking.line c.self-2.view_is)
    (left-names g.R.Read.remaining c.args.self.now c.find_own.new.self c.args.source c.find_own.new.self.held gives.0 gives.1 refl
    (subst IsSome (ap Marking.held c.self-2.view_is) (some_seen mark_seen c.self-2.inside.held there)) c.in_ok-find_own.ensures.keeps)
