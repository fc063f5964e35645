use Rattle.std.proofs.Common.{◌≡◌, ℕ, true, refl, ap, sym, subst, ◌∙◌, Some}
use Rattle.std.specs.Io.KnownBytes.{IsAtEnd}
use Rattle.stream_model.specs.Network.{handed_at}
use Rattle.stream_model.specs.Machine as machine
use Rattle.stream_model.specs.Machine.{Close, close_of}
use Rattle.flowgraph.specs.Flowgraph.{net_of}
use Rattle.pipeline.specs.Ends.{InputState}
use Rattle.pipeline.specs.Pipeline.{HasRead}
use Rattle.pipeline.proofs.Reading.{end-read, not_cut}
use Rattle.pipeline.proofs.TakingIn.{accepted-hands, always_answered, close-hands, close-refused, plant_same, refused-same, takes_in}
use Rattle.pipeline.proofs.end.Input.end.Goals as goal

pub returns-in-Err-clause-err : goal.returns-in-Err-clause-err
returns-in-Err-clause-err g c =
    let p = c.args.plant.now.plant in
    let net = net_of g.B.Block.meaning p.graph in
    let b = c.args.source.0 in
    let same : c.close.new.self.plant ≡ p = refused-same net p c.close.new.self.plant b (record (handed_at p.state.handed b) { closed = true }) (close_of net p.state b) (λ r. (total : ℕ) × (r ≡ machine.Closed total))
    (close-hands net p.state b) _ (λ r closed e. close-refused c.in-Err.fault closed.0 (e ∙ ap Some closed.1)) (always_answered (close_of net p.state b) p c.close.new.self.plant _ c.in-Err.ensures.answered) in
    plant_same c.args.plant.now c.close.new.self same c.in-Err.ensures.kept

pub returns-clause-ok : goal.returns-clause-ok
returns-clause-ok g c =
    let p = c.args.plant.now.plant in
    let net = net_of g.B.Block.meaning p.graph in
    let b = c.args.source.0 in
    let h = record (handed_at p.state.handed b) { closed = true } in
    let closed = accepted-hands net p c.close.new.self.plant b h (close_of net p.state b) (λ r. (total : ℕ) × (r ≡ machine.Closed total)) (close-hands net p.state b) _ (λ code e. cc e) (always_answered (close_of net p.state b) p c.close.new.self.plant (Some (machine.Closed c.in_default.field-0.0)) c.in_default.ensures.answered) in
    let d = c.self.inside.decoder in
    let i : InputState _ = record { reader = c.self.inside.reader.reader; has_failed = c.self.inside.reader.has_failed; decoder = d; marks = c.self.inside.marks; is_ended = c.self.inside.is_ended } in
    let i' : InputState _ = record { reader = c.self.inside.reader.reader; has_failed = c.self.inside.reader.has_failed; decoder = d; marks = c.end_marks.new.marks; is_ended = true } in
    rw (← c.self.view_is)
    (takes_in (HasRead g.R.Read.remaining) net c.args.plant.now c.close.new.self b c.recall.ensures.sound closed.0 h (Close b) closed.2 closed.1 c.in_default.ensures.kept c.recall.ensures.stays i i'
    (end-read g.R.Read.remaining b i i' (handed_at p.state.handed b) refl refl (not_cut _ d.cut c.is_cut.ensures c.if-is_cut.false) refl (ap InputState.is_ended c.self.view_is ∙ c.requires.goes_on)
    (subst (λ (v : InputState _). IsAtEnd (g.R.Read.remaining v.reader)) (sym c.self.view_is) c.requires.at_end) c.in_ok-end_marks.ensures.ok c.in_ok-end_marks.ensures.over refl c.in_ok-end_marks.ensures.stays))
