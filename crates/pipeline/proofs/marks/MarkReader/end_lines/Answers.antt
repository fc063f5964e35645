use Rattle.std.proofs.Common.{◌≡◌, ◌∙◌, suc, [], ◌∷◌, ◌++◌, false, true, cond, refl, ap, sym, subst, None}
use Rattle.std.proofs.lemmas.List.{append-nil}
use Rattle.std.specs.Option.{option_map}
use Rattle.script_text.specs.Commands.{mark_seen}
use Rattle.script_text.specs.Lines.{lines_of}
use Rattle.pipeline.specs.MarkFaults.{NamesFirst, Never}
use Rattle.pipeline.specs.MarkLines.{saying_seen, sayings_of}
use Rattle.pipeline.specs.Marks.{Marking}
use Rattle.pipeline.proofs.Delivering.{on_ok_three}
use Rattle.pipeline.proofs.Growing.{consumes_none}
use Rattle.pipeline.proofs.Refusing.{Says, if_err_with, line-says, refused-names}
use Rattle.pipeline.proofs.Telling.{last-gives, line-keeps, none-gives, over-keeps, some_seen}
use Rattle.pipeline.proofs.marks.MarkReader.end_lines.Goals as goal

pub returns-in-Some-clause-ok : goal.returns-in-Some-clause-ok
returns-in-Some-clause-ok g c =
    let s = c.self.inside in
    let rest : c.args.self.now.rest ≡ s.lines.rest = sym (ap Marking.rest c.self.view_is) ∙ (let open0 : s.is_over ≡ false = ap Marking.is_over c.self.view_is ∙ c.requires.goes_on in rw open0 refl) in
    on_ok_three _ _ _ _ c.hold.result c.hold.ensures.some c.hold.ensures.ok c.hold.ensures.follows
    (λ some held follows. last-gives g.R.Read.remaining c.args.self.now c.hold.new.self c.in-Some.line.now (option_map saying_seen c.parse-said.result) c.requires.goes_on c.requires.none
    (ap Marking.reader held ∙ ap Marking.reader c.self.view_is) c.requires.at_end (ap Marking.is_over held) (ap Marking.rest held) (ap Marking.held held)
    (rw rest c.in-Some.ensures) c.parse-said.ensures (some_seen saying_seen _ some) (rw (← ap Marking.least c.self.view_is) follows)
    (ap Marking.line held ∙ c.requires.next) (ap Marking.part held ∙ ap Marking.part c.self.view_is))

pub returns-in-None-clause-ok : goal.returns-in-None-clause-ok
returns-in-None-clause-ok g c =
    let s = c.self.inside in
    let open0 : s.is_over ≡ false = ap Marking.is_over c.self.view_is ∙ c.requires.goes_on in
    let m : Marking _ = record { reader = s.reader.reader; has_failed = s.reader.has_failed; rest = cond s.is_over [] s.lines.rest; taken = s.lines.taken; held = option_map mark_seen s.held; is_over = s.is_over; line = s.line; least = s.least; part = s.part } in
    let m' : Marking _ = record m { rest = []; is_over = true } in
    let none : m.held ≡ None = ap Marking.held c.self.view_is ∙ c.requires.none in
    rw (← c.self.view_is)
    (none-gives g.R.Read.remaining m m' open0 none refl (rw (ap Marking.reader c.self.view_is) c.requires.at_end) (rw open0 c.in-None.ensures))

pub returns-in-Some-clause-first : goal.returns-in-Some-clause-first
returns-in-Some-clause-first g c =
    let remaining = g.R.Read.remaining in
    let s = c.self.inside in
    let open0 : s.is_over ≡ false = ap Marking.is_over c.self.view_is ∙ c.requires.goes_on in
    let m : Marking _ = record { reader = s.reader.reader; has_failed = s.reader.has_failed; rest = cond s.is_over [] s.lines.rest; taken = s.lines.taken; held = option_map mark_seen s.held; is_over = s.is_over; line = s.line; least = s.least; part = s.part } in
    let m' : Marking _ = record m { rest = []; is_over = true } in
    let said = option_map saying_seen c.parse-said.result in
    let lines : c.in-Some.line.now ∷ [] ≡ lines_of m.rest = rw open0 c.in-Some.ensures in
    rw (← c.self.view_is)
    (if_err_with c.hold.result _ _ c.hold.ensures.err c.hold.ensures.refused
    (λ same fault refused. subst (λ (x : Marking _). NamesFirst remaining Never m x fault) (sym same)
    (refused-names remaining m m' c.args.number open0 (ap Marking.held c.self.view_is ∙ c.requires.none) (λ _. rw (ap Marking.reader c.self.view_is) c.requires.at_end) (consumes_none (remaining s.reader.reader))
    (c.requires.next ∙ ap suc (sym (ap Marking.taken c.self.view_is))) said
    (λ more nothing. subst (λ bytes. Says said (sayings_of (m.rest ++ bytes))) (sym (nothing refl))
    (rw (append-nil m.rest) (line-says m.rest c.in-Some.line.now [] said (sym lines) c.parse-said.ensures))) fault refused)))

pub returns-in-Some-clause-keeps : goal.returns-in-Some-clause-keeps
returns-in-Some-clause-keeps g c =
    let said = option_map saying_seen c.parse-said.result in
    on_ok_three _ _ _ _ c.hold.result c.hold.ensures.some c.hold.ensures.ok c.hold.ensures.follows
    (λ some held follows. line-keeps c.args.self.now c.hold.new.self said c.requires.goes_on c.requires.none (ap Marking.held held)
    (ap Marking.part held ∙ ap Marking.part c.self.view_is) (rw (← ap Marking.least c.self.view_is) follows))

pub returns-in-None-clause-keeps : goal.returns-in-None-clause-keeps
returns-in-None-clause-keeps g c =
    let s = c.self.inside in
    let m : Marking _ = record { reader = s.reader.reader; has_failed = s.reader.has_failed; rest = cond s.is_over [] s.lines.rest; taken = s.lines.taken; held = option_map mark_seen s.held; is_over = s.is_over; line = s.line; least = s.least; part = s.part } in
    rw (← c.self.view_is) (over-keeps m (record m { rest = []; is_over = true }) refl refl refl)
