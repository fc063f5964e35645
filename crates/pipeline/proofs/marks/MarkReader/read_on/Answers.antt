use Rattle.std.proofs.Common.{◌≡◌, ℕ, ◌+◌, suc, ◌++◌, ◌∙◌, [], false, cond, refl, ap, sym, subst, arith, None}
use Rattle.std.specs.Option.{option_map}
use Rattle.script_text.specs.Commands.{mark_seen}
use Rattle.script_text.specs.Lines.{lines_of}
use Rattle.pipeline.specs.MarkFaults.{IsNone, NamesFirst, Never}
use Rattle.pipeline.specs.MarkLines.{mark_held, saying_seen}
use Rattle.pipeline.specs.Marks.{Marking}
use Rattle.pipeline.proofs.Delivering.{on_ok_three}
use Rattle.pipeline.proofs.Growing.{consumes_none}
use Rattle.pipeline.proofs.Refusing.{if_err_with, line-says, long-says, next-first, refused-names}
use Rattle.pipeline.proofs.Telling.{line-keeps, said-gives, some_seen}
use Rattle.pipeline.proofs.marks.MarkReader.read_on.Goals as goal

pub returns-in-Whole-clause-ok : goal.returns-in-Whole-clause-ok
returns-in-Whole-clause-ok g c =
    let s = c.self.inside in
    let open0 : s.is_over ≡ false = ap Marking.is_over c.self.view_is ∙ c.requires.goes_on in
    let m : Marking _ = record { reader = s.reader.reader; has_failed = s.reader.has_failed; rest = cond s.is_over [] s.lines.rest; taken = s.lines.taken; held = option_map mark_seen s.held; is_over = s.is_over; line = s.line; least = s.least; part = s.part } in
    let said = option_map saying_seen c.parse-said.result in
    let new = c.hold.new.self in
    let was = c.taken-taken.ensures in
    let number : c.taken-taken.result + 1 ≡ suc s.lines.taken = omega (arith, was) in
    rw (← c.self.view_is)
    (on_ok_three _ _ _ _ c.hold.result c.hold.ensures.some c.hold.ensures.ok c.hold.ensures.follows
    (λ some held follows. said-gives g.R.Read.remaining m new c.line.result.now said open0 (ap Marking.held c.self.view_is ∙ c.requires.none)
    (held ∙ ap (λ bytes. record m { rest = bytes; taken = c.take_line.new.self.taken; held = mark_held said; line = c.taken-taken.result + 1; least = new.least }) (sym (ap Marking.rest held))
    ∙ ap (λ (k : ℕ). record m { rest = new.rest; taken = k; held = mark_held said; line = c.taken-taken.result + 1; least = new.least }) c.in-Whole.ensures.counted
    ∙ ap (λ (k : ℕ). record m { rest = new.rest; taken = suc s.lines.taken; held = mark_held said; line = k; least = new.least }) number) follows
    (λ more. rw (ap Marking.rest held, open0, c.line.ensures) (c.in-Whole.ensures.first more)) c.parse-said.ensures (some_seen saying_seen _ some)))

pub returns-in-Whole-clause-first : goal.returns-in-Whole-clause-first
returns-in-Whole-clause-first g c =
    let remaining = g.R.Read.remaining in
    let s = c.self.inside in
    let open0 : s.is_over ≡ false = ap Marking.is_over c.self.view_is ∙ c.requires.goes_on in
    let m : Marking _ = record { reader = s.reader.reader; has_failed = s.reader.has_failed; rest = cond s.is_over [] s.lines.rest; taken = s.lines.taken; held = option_map mark_seen s.held; is_over = s.is_over; line = s.line; least = s.least; part = s.part } in
    let m' : Marking _ = record m { rest = cond s.is_over [] c.take_line.new.self.rest; taken = c.take_line.new.self.taken } in
    let said = option_map saying_seen c.parse-said.result in
    let was = c.taken-taken.ensures in
    let number : c.taken-taken.result + 1 ≡ suc s.lines.taken = omega (arith, was) in
    rw (← c.self.view_is)
    (if_err_with c.hold.result _ _ c.hold.ensures.err c.hold.ensures.refused
    (λ same fault refused. subst (λ (x : Marking _). NamesFirst remaining Never m x fault) (sym same)
    (refused-names remaining m m' (c.taken-taken.result + 1) open0 (ap Marking.held c.self.view_is ∙ c.requires.none) (λ e. absurd (cc (e, open0))) (consumes_none (remaining s.reader.reader)) number said
    (λ more _. line-says (m.rest ++ more) c.line.result.now (lines_of (m'.rest ++ more)) said (rw (open0, c.line.ensures) (c.in-Whole.ensures.first more)) c.parse-said.ensures) fault refused)))

pub returns-in-TooLong-clause-first : goal.returns-in-TooLong-clause-first
returns-in-TooLong-clause-first g c =
    let remaining = g.R.Read.remaining in
    let s = c.self.inside in
    let open0 : s.is_over ≡ false = ap Marking.is_over c.self.view_is ∙ c.requires.goes_on in
    let m : Marking _ = record { reader = s.reader.reader; has_failed = s.reader.has_failed; rest = cond s.is_over [] s.lines.rest; taken = s.lines.taken; held = option_map mark_seen s.held; is_over = s.is_over; line = s.line; least = s.least; part = s.part } in
    let m' : Marking _ = record m { rest = cond s.is_over [] c.take_line.new.self.rest; taken = c.take_line.new.self.taken } in
    let was = c.taken-taken.ensures in
    let number : c.taken-taken.result + 1 ≡ suc s.lines.taken = omega (arith, was) in
    rw (← c.self.view_is)
    (next-first remaining m m' None IsNone (c.taken-taken.result + 1) open0 (ap Marking.held c.self.view_is ∙ c.requires.none)
    (λ more _. long-says (m.rest ++ more) (rw open0 (c.in-TooLong.ensures.0 more))) (λ e. absurd (cc (e, open0))) (consumes_none (remaining s.reader.reader)) number (λ above least. refl))

pub returns-in-Whole-clause-keeps : goal.returns-in-Whole-clause-keeps
returns-in-Whole-clause-keeps g c =
    let said = option_map saying_seen c.parse-said.result in
    on_ok_three _ _ _ _ c.hold.result c.hold.ensures.some c.hold.ensures.ok c.hold.ensures.follows
    (λ some held follows. line-keeps c.args.self.now c.hold.new.self said c.requires.goes_on c.requires.none (ap Marking.held held)
    (ap Marking.part held ∙ ap Marking.part c.self.view_is) (rw (← ap Marking.least c.self.view_is) follows))
