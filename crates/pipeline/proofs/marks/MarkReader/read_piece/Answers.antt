use Rattle.std.proofs.Common.{◌≡◌, ◌≤◌, ◌∙◌, Bool, [], false, cond, refl, ap, subst, arith, length, take}
use Rattle.std.proofs.lemmas.List.{length-take}
use Rattle.std.proofs.lemmas.Result.{IfErr-weaker, on_ok_weaker, on_err_weaker}
use Rattle.std.specs.Io.KnownBytes.{Consumes}
use Rattle.std.specs.Option.{option_map}
use Rattle.script_text.specs.Commands.{mark_seen}
use Rattle.pipeline.specs.Marks.{Marking}
use Rattle.pipeline.specs.MarkFaults.{Never}
use Rattle.pipeline.proofs.Reading.{keeps_consumes}
use Rattle.pipeline.proofs.Refusing.{names-then}
use Rattle.pipeline.proofs.Telling.{gives-read-then, gives-then, keeps-then, nothing-gives, nothing-read, piece-gives, room_for, same-keeps}
use Rattle.pipeline.proofs.marks.MarkReader.read_piece.Goals as goal

pub returns-in-Err-clause-err : goal.returns-in-Err-clause-err
returns-in-Err-clause-err g c =
    rw (← c.self.view_is) (nothing-read g.R.Read.remaining _ _ (keeps_consumes _ _ c.in-Err.ensures.bytes))

pub push-requires : goal.push-requires
push-requires g c =
    let s = c.self.inside in
    let open0 : s.is_over ≡ false = ap Marking.is_over c.self.view_is ∙ c.requires.goes_on in
    let rest : s.lines.rest ≡ c.args.self.now.rest = (rw open0 refl) ∙ ap Marking.rest c.self.view_is in
    let few : length (take c.in-Ok.count c.read.new.buf) ≤ 65536 = (let size = length-take c.in-Ok.count c.read.new.buf in omega (arith, size, c.in-Ok.ensures.bound)) in
    rw rest (room_for c.args.self.now.rest (take c.in-Ok.count c.read.new.buf) c.requires.unfinished few)

pub returns-then-count-eq0-clause-ok : goal.returns-then-count-eq0-clause-ok
returns-then-count-eq0-clause-ok g c =
    let remaining = g.R.Read.remaining in
    let s = c.self.inside in
    let open0 : s.is_over ≡ false = ap Marking.is_over c.self.view_is ∙ c.requires.goes_on in
    let m : Marking _ = record { reader = s.reader.reader; has_failed = s.reader.has_failed; rest = cond s.is_over [] s.lines.rest; taken = s.lines.taken; held = option_map mark_seen s.held; is_over = s.is_over; line = s.line; least = s.least; part = s.part } in
    let k : Marking _ = record m { reader = c.read.new.self.reader; has_failed = c.read.new.self.has_failed } in
    let same : k ≡ record m { reader = c.read.new.self.reader } = ap (λ (f : Bool). record m { reader = c.read.new.self.reader; has_failed = f }) c.in-Ok.ensures.noted in
    let read : Consumes (remaining s.reader.reader) (remaining c.read.new.self.reader) [] = subst (λ n. Consumes (remaining s.reader.reader) (remaining c.read.new.self.reader) (take n c.read.new.buf)) c.if-count-eq0.true c.in-Ok.ensures.bytes.0 in
    rw (← c.self.view_is)
    (on_ok_weaker c.end_lines.result (λ gives. gives-then remaining m k c.end_lines.new.self [] (nothing-gives remaining m k open0 same read) [] gives) c.end_lines.ensures.ok)

pub returns-then-count-eq0-clause-err : goal.returns-then-count-eq0-clause-err
returns-then-count-eq0-clause-err g c =
    let remaining = g.R.Read.remaining in
    let s = c.self.inside in
    let open0 : s.is_over ≡ false = ap Marking.is_over c.self.view_is ∙ c.requires.goes_on in
    let m : Marking _ = record { reader = s.reader.reader; has_failed = s.reader.has_failed; rest = cond s.is_over [] s.lines.rest; taken = s.lines.taken; held = option_map mark_seen s.held; is_over = s.is_over; line = s.line; least = s.least; part = s.part } in
    let k : Marking _ = record m { reader = c.read.new.self.reader; has_failed = c.read.new.self.has_failed } in
    let same : k ≡ record m { reader = c.read.new.self.reader } = ap (λ (f : Bool). record m { reader = c.read.new.self.reader; has_failed = f }) c.in-Ok.ensures.noted in
    let read : Consumes (remaining s.reader.reader) (remaining c.read.new.self.reader) [] = subst (λ n. Consumes (remaining s.reader.reader) (remaining c.read.new.self.reader) (take n c.read.new.buf)) c.if-count-eq0.true c.in-Ok.ensures.bytes.0 in
    rw (← c.self.view_is)
    (on_err_weaker c.end_lines.result (λ more. gives-read-then remaining m k c.end_lines.new.self [] (nothing-gives remaining m k open0 same read) more) c.end_lines.ensures.err)

pub returns-clause-ok : goal.returns-clause-ok
returns-clause-ok g c =
    let s = c.self.inside in
    let open0 : s.is_over ≡ false = ap Marking.is_over c.self.view_is ∙ c.requires.goes_on in
    let m : Marking _ = record { reader = s.reader.reader; has_failed = s.reader.has_failed; rest = cond s.is_over [] s.lines.rest; taken = s.lines.taken; held = option_map mark_seen s.held; is_over = s.is_over; line = s.line; least = s.least; part = s.part } in
    let m' : Marking _ = record { reader = c.read.new.self.reader; has_failed = c.read.new.self.has_failed; rest = cond s.is_over [] c.push.new.self.rest; taken = c.push.new.self.taken; held = option_map mark_seen s.held; is_over = s.is_over; line = s.line; least = s.least; part = s.part } in
    rw (← c.self.view_is)
    (piece-gives g.R.Read.remaining m m' (take c.in-Ok.count c.read.new.buf) open0 (rw (open0, c.push.ensures.rest, c.push.ensures.taken, c.in-Ok.ensures.noted) refl) c.in-Ok.ensures.bytes.0)

pub returns-then-count-eq0-clause-first : goal.returns-then-count-eq0-clause-first
returns-then-count-eq0-clause-first g c =
    let remaining = g.R.Read.remaining in
    let s = c.self.inside in
    let open0 : s.is_over ≡ false = ap Marking.is_over c.self.view_is ∙ c.requires.goes_on in
    let m : Marking _ = record { reader = s.reader.reader; has_failed = s.reader.has_failed; rest = cond s.is_over [] s.lines.rest; taken = s.lines.taken; held = option_map mark_seen s.held; is_over = s.is_over; line = s.line; least = s.least; part = s.part } in
    let k : Marking _ = record m { reader = c.read.new.self.reader; has_failed = c.read.new.self.has_failed } in
    let same : k ≡ record m { reader = c.read.new.self.reader } = ap (λ (f : Bool). record m { reader = c.read.new.self.reader; has_failed = f }) c.in-Ok.ensures.noted in
    let read : Consumes (remaining s.reader.reader) (remaining c.read.new.self.reader) [] = subst (λ n. Consumes (remaining s.reader.reader) (remaining c.read.new.self.reader) (take n c.read.new.buf)) c.if-count-eq0.true c.in-Ok.ensures.bytes.0 in
    rw (← c.self.view_is)
    (IfErr-weaker c.end_lines.result _ _ (names-then remaining Never Never (λ _ never. never) m k c.end_lines.new.self [] (nothing-gives remaining m k open0 same read)) c.end_lines.ensures.first)

pub returns-then-count-eq0-clause-keeps : goal.returns-then-count-eq0-clause-keeps
returns-then-count-eq0-clause-keeps g c =
    let s = c.self.inside in
    let open0 : s.is_over ≡ false = ap Marking.is_over c.self.view_is ∙ c.requires.goes_on in
    let m : Marking _ = record { reader = s.reader.reader; has_failed = s.reader.has_failed; rest = cond s.is_over [] s.lines.rest; taken = s.lines.taken; held = option_map mark_seen s.held; is_over = s.is_over; line = s.line; least = s.least; part = s.part } in
    let k : Marking _ = record m { reader = c.read.new.self.reader; has_failed = c.read.new.self.has_failed } in
    rw (← c.self.view_is)
    (on_ok_weaker c.end_lines.result (keeps-then m k c.end_lines.new.self (same-keeps m k open0 refl refl refl)) c.end_lines.ensures.keeps)

pub returns-clause-keeps : goal.returns-clause-keeps
returns-clause-keeps g c =
    let s = c.self.inside in
    let open0 : s.is_over ≡ false = ap Marking.is_over c.self.view_is ∙ c.requires.goes_on in
    let m : Marking _ = record { reader = s.reader.reader; has_failed = s.reader.has_failed; rest = cond s.is_over [] s.lines.rest; taken = s.lines.taken; held = option_map mark_seen s.held; is_over = s.is_over; line = s.line; least = s.least; part = s.part } in
    let m' : Marking _ = record { reader = c.read.new.self.reader; has_failed = c.read.new.self.has_failed; rest = cond s.is_over [] c.push.new.self.rest; taken = c.push.new.self.taken; held = option_map mark_seen s.held; is_over = s.is_over; line = s.line; least = s.least; part = s.part } in
    rw (← c.self.view_is) (same-keeps m m' open0 refl refl refl)
