use Rattle.std.proofs.Common.{◌≡◌, ◌≤◌, [], arith, length, take, refl, sym, subst}
use Rattle.std.proofs.lemmas.List.{length-take}
use Rattle.std.proofs.lemmas.Result.{IfErr-weaker, on_ok_weaker, on_err_weaker}
use Rattle.std.specs.Io.KnownBytes.{Consumes}
use Rattle.flowgraph.specs.Flowgraph.{net_of}
use Rattle.stream_model.specs.Network.{handed_at}
use Rattle.pipeline.specs.Ends.{InputState}
use Rattle.pipeline.specs.Pipeline.{HasRead, MayHaveRead}
use Rattle.pipeline.specs.Steps.{HasFed, TakesIn}
use Rattle.pipeline.proofs.Reading.{fed-read, keeps_consumes, may_read-gone, read-begun, read-then, takes_none, takes_then}
use Rattle.pipeline.proofs.Delivering.{on_err_both}
use Rattle.pipeline.proofs.Telling.{are_read-none}
use Rattle.pipeline.specs.Faults.{IsCut, NotesReads}
use Rattle.pipeline.proofs.Noting.{noted_from}
use Rattle.pipeline.proofs.Refusing.{if_err_with}
use Rattle.pipeline.proofs.end.Input.take_in.Goals as goal

pub returns-in-Err-clause-err : goal.returns-in-Err-clause-err
returns-in-Err-clause-err g c =
    let remaining = g.R.Read.remaining in
    let p = c.args.plant.now in
    let i : InputState _ = record { reader = c.self.inside.reader.reader; has_failed = c.self.inside.reader.has_failed; decoder = c.self.inside.decoder; marks = c.self.inside.marks; is_ended = c.self.inside.is_ended } in
    let k : InputState _ = record { reader = c.read.new.self.reader; has_failed = c.read.new.self.has_failed; decoder = c.self.inside.decoder; marks = c.self.inside.marks; is_ended = c.self.inside.is_ended } in
    rw (← c.self.view_is)
    (takes_none (MayHaveRead remaining c.args.source.0) (net_of g.B.Block.meaning p.plant.graph) p p c.args.source.0 i i k refl
    (may_read-gone remaining c.args.source.0 i k (handed_at p.plant.state.handed c.args.source.0) [] (omega arith) (keeps_consumes _ _ c.in-Err.ensures.bytes) (are_read-none remaining i.marks) c.if-self.false refl))

pub returns-then-count-eq0-clause-ok : goal.returns-then-count-eq0-clause-ok
returns-then-count-eq0-clause-ok g c =
    let remaining = g.R.Read.remaining in
    let p = c.args.plant.now in
    let net = net_of g.B.Block.meaning p.plant.graph in
    let b = c.args.source.0 in
    let i : InputState _ = record { reader = c.self.inside.reader.reader; has_failed = c.self.inside.reader.has_failed; decoder = c.self.inside.decoder; marks = c.self.inside.marks; is_ended = c.self.inside.is_ended } in
    let j : InputState _ = record { reader = c.read.new.self.reader; has_failed = c.read.new.self.has_failed; decoder = c.self.inside.decoder; marks = c.self.inside.marks; is_ended = c.self.inside.is_ended } in
    rw (← c.self.view_is)
    (on_ok_weaker c.end.result
    (λ takes. takes_then (HasRead remaining) net p c.end.new.plant b i j c.end.new.self takes (HasRead remaining)
    (read-then remaining b i j c.end.new.self _ _ _ (read-begun remaining b i j (handed_at p.plant.state.handed b)
    (subst (λ n. Consumes (remaining c.self.inside.reader.reader) (remaining c.read.new.self.reader) (take n c.read.new.buf)) c.if-count-eq0.true c.in-Ok.ensures.bytes.0) refl refl c.if-self.false refl c.in-Ok.ensures.noted)))
    c.end.ensures.ok)

pub returns-then-count-eq0-clause-err : goal.returns-then-count-eq0-clause-err
returns-then-count-eq0-clause-err g c =
    let remaining = g.R.Read.remaining in
    let p = c.args.plant.now in
    let net = net_of g.B.Block.meaning p.plant.graph in
    let b = c.args.source.0 in
    let i : InputState _ = record { reader = c.self.inside.reader.reader; has_failed = c.self.inside.reader.has_failed; decoder = c.self.inside.decoder; marks = c.self.inside.marks; is_ended = c.self.inside.is_ended } in
    rw (← c.self.view_is)
    (on_err_weaker c.end.result
    (λ all. takes_none (MayHaveRead remaining b) net p c.end.new.plant b i i c.end.new.self all.0.0
    (may_read-gone remaining b i c.end.new.self (handed_at p.plant.state.handed b) [] (omega arith) (rw c.end.ensures.reader (subst (λ n. Consumes (remaining c.self.inside.reader.reader) (remaining c.read.new.self.reader) (take n c.read.new.buf)) c.if-count-eq0.true c.in-Ok.ensures.bytes.0)) all.1 c.if-self.false all.0.1))
    (on_err_both _ _ c.end.result (on_err_both _ _ c.end.result c.end.ensures.err c.end.ensures.ended) c.end.ensures.marks))

pub returns-clause-ok : goal.returns-clause-ok
returns-clause-ok g c =
    let remaining = g.R.Read.remaining in
    let p = c.args.plant.now in
    let net = net_of g.B.Block.meaning p.plant.graph in
    let b = c.args.source.0 in
    let i : InputState _ = record { reader = c.self.inside.reader.reader; has_failed = c.self.inside.reader.has_failed; decoder = c.self.inside.decoder; marks = c.self.inside.marks; is_ended = c.self.inside.is_ended } in
    let j : InputState _ = record { reader = c.read.new.self.reader; has_failed = c.read.new.self.has_failed; decoder = c.self.inside.decoder; marks = c.self.inside.marks; is_ended = c.self.inside.is_ended } in
    rw (← c.self.view_is)
    (on_ok_weaker c.feed.result
    (λ takes. takes_then (HasFed remaining (take c.in-Ok.count c.read.new.buf)) net p c.feed.new.plant b i j c.feed.new.self takes (HasRead remaining)
    (fed-read remaining b i j c.feed.new.self _ _ (take c.in-Ok.count c.read.new.buf) (rw c.feed.ensures.reader c.in-Ok.ensures.bytes.0) refl refl c.if-self.false c.if-self.false c.in-Ok.ensures.noted))
    c.feed.ensures.ok)

pub returns-clause-err : goal.returns-clause-err
returns-clause-err g c =
    let remaining = g.R.Read.remaining in
    let p = c.args.plant.now in
    let net = net_of g.B.Block.meaning p.plant.graph in
    let b = c.args.source.0 in
    let i : InputState _ = record { reader = c.self.inside.reader.reader; has_failed = c.self.inside.reader.has_failed; decoder = c.self.inside.decoder; marks = c.self.inside.marks; is_ended = c.self.inside.is_ended } in
    let few : length (take c.in-Ok.count c.read.new.buf) ≤ 65536 = (let size = length-take c.in-Ok.count c.read.new.buf in omega (arith, size, c.in-Ok.ensures.bound)) in
    rw (← c.self.view_is)
    (on_err_weaker c.feed.result
    (λ all. takes_none (MayHaveRead remaining b) net p c.feed.new.plant b i i c.feed.new.self all.0.0
    (may_read-gone remaining b i c.feed.new.self (handed_at p.plant.state.handed b) (take c.in-Ok.count c.read.new.buf) few (rw c.feed.ensures.reader c.in-Ok.ensures.bytes.0) all.1 c.if-self.false all.0.1))
    (on_err_both _ _ c.feed.result (on_err_both _ _ c.feed.result c.feed.ensures.err c.feed.ensures.ended) c.feed.ensures.marks))

pub returns-then-count-eq0-clause-noted : goal.returns-then-count-eq0-clause-noted
returns-then-count-eq0-clause-noted g c =
    let i : InputState _ = record { reader = c.self.inside.reader.reader; has_failed = c.self.inside.reader.has_failed; decoder = c.self.inside.decoder; marks = c.self.inside.marks; is_ended = c.self.inside.is_ended } in
    let j : InputState _ = record { reader = c.read.new.self.reader; has_failed = c.read.new.self.has_failed; decoder = c.self.inside.decoder; marks = c.self.inside.marks; is_ended = c.self.inside.is_ended } in
    rw (← c.self.view_is)
    (IfErr-weaker c.end.result (NotesReads j c.end.new.self) (NotesReads i c.end.new.self) (λ fault. noted_from i j c.end.new.self fault c.in-Ok.ensures.noted refl) c.end.ensures.noted)

pub returns-clause-noted : goal.returns-clause-noted
returns-clause-noted g c =
    let i : InputState _ = record { reader = c.self.inside.reader.reader; has_failed = c.self.inside.reader.has_failed; decoder = c.self.inside.decoder; marks = c.self.inside.marks; is_ended = c.self.inside.is_ended } in
    let j : InputState _ = record { reader = c.read.new.self.reader; has_failed = c.read.new.self.has_failed; decoder = c.self.inside.decoder; marks = c.self.inside.marks; is_ended = c.self.inside.is_ended } in
    rw (← c.self.view_is)
    (IfErr-weaker c.feed.result (NotesReads j c.feed.new.self) (NotesReads i c.feed.new.self) (λ fault. noted_from i j c.feed.new.self fault c.in-Ok.ensures.noted refl) c.feed.ensures.noted)

pub returns-then-count-eq0-clause-cut : goal.returns-then-count-eq0-clause-cut
returns-then-count-eq0-clause-cut g c =
    let remaining = g.R.Read.remaining in
    let p = c.args.plant.now in
    let net = net_of g.B.Block.meaning p.plant.graph in
    let b = c.args.source.0 in
    let i : InputState _ = record { reader = c.self.inside.reader.reader; has_failed = c.self.inside.reader.has_failed; decoder = c.self.inside.decoder; marks = c.self.inside.marks; is_ended = c.self.inside.is_ended } in
    let j : InputState _ = record { reader = c.read.new.self.reader; has_failed = c.read.new.self.has_failed; decoder = c.self.inside.decoder; marks = c.self.inside.marks; is_ended = c.self.inside.is_ended } in
    rw (← c.self.view_is)
    (if_err_with c.end.result (λ fault. IsCut fault → c.end.new.self ≡ j) (λ fault. IsCut fault → TakesIn (HasRead remaining) net p c.end.new.plant b i c.end.new.self) c.end.ensures.err c.end.ensures.cut
    (λ still fault is cut. subst (λ (k : InputState _). TakesIn (HasRead remaining) net p c.end.new.plant b i k) (sym (is cut))
    (takes_none (HasRead remaining) net p c.end.new.plant b i i j still (read-begun remaining b i j (handed_at p.plant.state.handed b)
    (subst (λ n. Consumes (remaining c.self.inside.reader.reader) (remaining c.read.new.self.reader) (take n c.read.new.buf)) c.if-count-eq0.true c.in-Ok.ensures.bytes.0) refl refl c.if-self.false refl c.in-Ok.ensures.noted))))

pub returns-clause-cut : goal.returns-clause-cut
returns-clause-cut g c = IfErr-weaker c.feed.result _ _ (λ fault whole cut. absurd (whole cut)) c.feed.ensures.whole
