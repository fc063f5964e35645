use Rattle.std.proofs.Common.{rules, ◌≡◌, ◌+◌, ◌≤◌, ◌<◌, ◌-◌, ◌∷◌, ◌++◌, ◌∙◌, [], Some, None, cond, ap, sym, subst, arith}
use Rattle.std.proofs.lemmas.List.{map-append}
use Rattle.std.proofs.lemmas.List.Elements.{All-push}
use Rattle.std.proofs.lemmas.Result.{IfErr-weaker}
use Rattle.std.specs.List.{All}
use Rattle.std.specs.Prelude.{IfErr, List}
use Rattle.std.specs.Option.{option_map}
use Rattle.stream_model.specs.Tags.{Mark}
use Rattle.script_text.specs.Commands.{mark_seen, marks_seen}
use Rattle.pipeline.specs.declared.part.TapePart.{TapePart}
use Rattle.pipeline.specs.MarkFaults.{IsBefore, IsWithin, NamesFirst, Never}
use Rattle.pipeline.specs.Marks.{GivesTo, Marking}
use Rattle.pipeline.specs.Parts.{mark_behind}
use Rattle.pipeline.proofs.Refusing.{held-names, names-then}
use Rattle.pipeline.proofs.Telling.{gives-none, gives_to-any, gives_to-then, held-gives_to}
use Rattle.pipeline.proofs.marks.MarkReader.take_one.Goals as goal

pub returns-clause-ok : goal.returns-clause-ok
returns-clause-ok g c =
    let remaining = g.R.Read.remaining in
    let s = c.self.inside in
    let old = c.args.self.now in
    let m = c.find_own.new.self in
    let m' : Marking _ = record { reader = s.reader.reader; has_failed = s.reader.has_failed; rest = cond s.is_over [] s.lines.rest; taken = s.lines.taken; held = None; is_over = s.is_over; line = s.line; least = s.least; part = s.part } in
    let mark = mark_seen c.in-Some.mark in
    let held : m.held ≡ Some mark = sym (ap Marking.held c.self.view_is) ∙ ap (option_map mark_seen) c.in-Some.is in
    let before = marks_seen c.args.marks.now.items in
    let own = c.in_ok-find_own.ensures.own mark held in
    let part : m.part.origin ≡ old.part.origin = ap TapePart.origin c.in_ok-find_own.ensures.ok.1.part in
    let at : mark_seen c.behind-own.result ≡ mark_behind m.part.origin mark = c.behind-own.ensures ∙ ap (λ (x : Marking _). mark_behind x.part.origin mark) c.self.view_is in
    let pushed : marks_seen c.push_reserved.new.self.items ≡ before ++ mark_behind m.part.origin mark ∷ [] =
    ap marks_seen (c.push_reserved.ensures.items ∙ ap (λ ys. ys ++ c.behind-own.result ∷ []) c.reserve.ensures.items) ∙ map-append mark_seen c.args.marks.now.items (c.behind-own.result ∷ []) ∙ ap (λ (x : Mark). before ++ x ∷ []) at in
    subst (λ (ms : List Mark). GivesTo remaining old m' before ms) (sym pushed)
    (gives_to-then remaining old m m' before before (before ++ mark_behind m.part.origin mark ∷ []) (gives_to-any remaining old m before c.in_ok-find_own.ensures.ok)
    (held-gives_to remaining m m' mark before held (ap (λ (x : Marking _). record x { held = None }) c.self.view_is) (omega (arith, own, part))))

pub returns-in_err-find_own-clause-first : goal.returns-in_err-find_own-clause-first
returns-in_err-find_own-clause-first g c =
    let remaining = g.R.Read.remaining in
    let old = c.args.self.now in
    let told : IfErr c.from_residual.result (NamesFirst remaining Never old c.find_own.new.self) = search rules in
    IfErr-weaker c.from_residual.result _ _ (names-then remaining Never (IsBefore c.args.start old) (λ _ never. absurd never) old old c.find_own.new.self [] (gives-none remaining old)) told

pub returns-then-own-start-clause-first : goal.returns-then-own-start-clause-first
returns-then-own-start-clause-first g c =
    let old = c.args.self.now in
    let m = c.find_own.new.self in
    let mark = mark_seen c.in-Some.mark in
    let held : m.held ≡ Some mark = sym (ap Marking.held c.self.view_is) ∙ ap (option_map mark_seen) c.in-Some.is in
    let gives = c.in_ok-find_own.ensures.ok in
    let own = c.in_ok-find_own.ensures.own mark held in
    let here : c.self.inside.part.origin ≡ m.part.origin = ap (λ (x : Marking _). x.part.origin) c.self.view_is in
    let part : m.part.origin ≡ old.part.origin = ap (λ (part : TapePart). part.origin) gives.1.part in
    let at : c.behind-own.result.offset ≡ mark.offset - c.self.inside.part.origin = ap Mark.offset c.behind-own.ensures in
    let low = c.if-own-start.true in
    rw (ap Marking.line c.self.view_is)
    (held-names g.R.Read.remaining (IsBefore c.args.start old) old m mark c.args.source gives.0 gives.1 held
    (let up : old.part.origin ≤ mark.offset = omega (arith, part, own) in let below : mark.offset < old.part.origin + c.args.start = omega (arith, part, here, own, at, low) in (up, below)))

pub returns-clause-within : goal.returns-clause-within
returns-clause-within g c =
    let P = IsWithin c.args.start c.args.end in
    let is = ap marks_seen (c.push_reserved.ensures.items ∙ ap (λ ys. ys ++ c.behind-own.result ∷ []) c.reserve.ensures.items) ∙ map-append mark_seen c.args.marks.now.items (c.behind-own.result ∷ []) in
    λ all. subst (All P) (sym is) (All-push P (marks_seen c.args.marks.now.items) (mark_seen c.behind-own.result) all (c.if-own-start.false, c.if-end-own.false))
