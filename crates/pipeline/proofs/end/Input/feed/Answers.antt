use Rattle.std.proofs.Common.{◌≡◌, ℕ, ℤ, List, [], ◌++◌, refl, ap, subst, sym, ◌∙◌}
use Rattle.stream_model.specs.Network.{Handed, handed_at}
use Rattle.stream_model.specs.Machine as machine
use Rattle.stream_model.specs.Machine.{Feed, feed_of, with_tape}
use Rattle.flowgraph.specs.Flowgraph.{net_of}
use Rattle.items.specs.Items.{type_of, numbers_of}
use Rattle.raw_items.specs.Values.{items_of}
use Rattle.pipeline.specs.Ends.{InputState}
use Rattle.pipeline.specs.Marks.{FindsMarks}
use Rattle.pipeline.specs.Steps.{HasFed, TakesIn}
use Rattle.script_text.specs.Commands.{marks_seen}
use Rattle.pipeline.proofs.Reading.{has_fed, takes_none}
use Rattle.pipeline.proofs.TakingIn.{accepted-hands, feed-hands, nothing-fed, takes_in}
use Rattle.pipeline.proofs.Telling.{finds-none}
use Rattle.pipeline.proofs.end.Input.feed.Goals as goal

pub returns-then-is_empty-clause-ok : goal.returns-then-is_empty-clause-ok
returns-then-is_empty-clause-ok g c =
    let remaining = g.R.Read.remaining in
    let p = c.args.plant.now in
    let net = net_of g.B.Block.meaning p.plant.graph in
    let b = c.args.source.0 in
    let h = handed_at p.plant.state.handed b in
    let d = c.self.inside.decoder in
    let i : InputState _ = record { reader = c.self.inside.reader.reader; has_failed = c.self.inside.reader.has_failed; decoder = d; marks = c.self.inside.marks; is_ended = c.self.inside.is_ended } in
    let i' : InputState _ = record { reader = c.self.inside.reader.reader; has_failed = c.self.inside.reader.has_failed; decoder = c.push.new.self; marks = c.self.inside.marks; is_ended = c.self.inside.is_ended } in
    let none : numbers_of c.push.new.out ≡ [] = c.is_empty.ensures.0 c.if-is_empty.true in
    let items : [] ≡ items_of d.item_type d.order (d.cut ++ c.args.bytes.now) = sym none ∙ c.in_ok-push.ensures.items ∙ ap (λ (zs : List ℤ). zs ++ items_of d.item_type d.order (d.cut ++ c.args.bytes.now)) c.clear.ensures.numbers in
    rw (← c.self.view_is)
    (takes_none (HasFed remaining c.args.bytes.now) net p p b i i i' refl
    (subst (λ (x : Handed). HasFed remaining c.args.bytes.now b i i' h x) (nothing-fed h b)
    (has_fed remaining i i' b c.args.bytes.now [] [] h c.in_ok-push.ensures.layout items c.in_ok-push.ensures.cut refl (finds-none remaining i.marks) refl refl)))

pub returns-clause-ok : goal.returns-clause-ok
returns-clause-ok g c =
    let p = c.args.plant.now.plant in
    let net = net_of g.B.Block.meaning p.graph in
    let b = c.args.source.0 in
    let xs = numbers_of c.push.new.out in
    let ms = marks_seen c.deref.result.now in
    let t = type_of c.push.new.out in
    let h = with_tape (handed_at p.state.handed b) b xs ms in
    let fed = accepted-hands net p c.hand.new.plant.plant b h (feed_of net p.state b t xs ms) (λ r. (total : ℕ) × (r ≡ machine.Fed total)) (feed-hands net p.state b t xs ms) _ (λ code e. cc e) c.in_ok-_fed.ensures.answered in
    let d = c.self.inside.decoder in
    let items = c.in_ok-push.ensures.items ∙ ap (λ (zs : List ℤ). zs ++ items_of d.item_type d.order (d.cut ++ c.args.bytes.now)) c.clear.ensures.numbers in
    let finds : FindsMarks g.R.Read.remaining c.self.inside.marks c.find_marks.new.marks ms = rw c.deref.ensures.value c.in_ok-find_marks.ensures.ok in
    let i : InputState _ = record { reader = c.self.inside.reader.reader; has_failed = c.self.inside.reader.has_failed; decoder = d; marks = c.self.inside.marks; is_ended = c.self.inside.is_ended } in
    let i' : InputState _ = record { reader = c.self.inside.reader.reader; has_failed = c.self.inside.reader.has_failed; decoder = c.push.new.self; marks = c.find_marks.new.marks; is_ended = c.self.inside.is_ended } in
    rw (← c.self.view_is)
    (takes_in (HasFed g.R.Read.remaining c.args.bytes.now) net c.args.plant.now c.hand.new.plant b c.recall.ensures.sound fed.0 h (Feed b t xs ms) fed.2 fed.1 c.hand.ensures.kept c.recall.ensures.stays i i'
    (has_fed g.R.Read.remaining i i' b c.args.bytes.now xs ms (handed_at p.state.handed b) c.in_ok-push.ensures.layout items c.in_ok-push.ensures.cut refl finds refl c.in_ok-find_marks.ensures.stays))
