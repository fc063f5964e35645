use Rattle.std.proofs.Common.{◌++◌, ◌+◌, map, vec_len, vec_capacity, take, drop, length, ◌-◌, ap, sym, ◌∙◌, append_assoc}
use Rattle.std.specs.Prelude.{flat_map}
use Rattle.items.specs.Items.{numbers_of}
use Rattle.items.specs.Tags.{tag_of}
use Rattle.tags.specs.TagList.{insert_tags}
use Rattle.plant_storage.specs.Marks.{mark_of, stamped}
use Rattle.plant_storage.specs.Tapes.{TapeState, longer_tape}
use Rattle.plant_storage.proofs.Feeding.{behind, fed_longer}
use Rattle.plant_storage.proofs.tape.Tape.feed.Goals as goal

pub returns-clause-ok : goal.returns-clause-ok
returns-clause-ok c =
    fed_longer c.self.inside.recording c.push.new.self (flat_map (λ p. take p.1 p.0.items) c.self.inside.forgotten.pieces ++ c.self.inside.marks.items) (flat_map (λ p. take p.1 p.0.items) c.self.inside.forgotten.pieces ++ c.push_stamped.new.tags.items)
    (vec_len c.self.inside.marks) (vec_len c.push_stamped.new.tags) (vec_capacity c.self.inside.marks) (vec_capacity c.push_stamped.new.tags) c.args.source (numbers_of c.args.items.now) c.args.marks.now
    (take (length c.deref.result.now - c.len-before.result) (drop c.len-before.result c.deref.result.now))
    (c.push.ensures.item ∙ c.in_ok-reserve.ensures.item)
    (c.push.ensures.from ∙ c.in_ok-reserve.ensures.from)
    (c.push.ensures.items ∙ ap (λ l. l ++ numbers_of c.args.items.now) c.in_ok-reserve.ensures.items)
    (c.push.ensures.tags ∙ ap (insert_tags (map tag_of (take (length c.deref.result.now - c.len-before.result) (drop c.len-before.result c.deref.result.now)))) c.in_ok-reserve.ensures.tags)
    (behind c.deref.result.now c.make_room.new.tags.items (map (stamped c.args.source) c.args.marks.now) c.len-before.result (c.deref.ensures.value ∙ c.push_stamped.ensures.items) (c.len-before.ensures ∙ c.make_room.new.tags.ok.0))
    (ap (λ l. flat_map (λ p. take p.1 p.0.items) c.self.inside.forgotten.pieces ++ l) (c.push_stamped.ensures.items ∙ ap (λ l. l ++ map (stamped c.args.source) c.args.marks.now) c.in_ok-make_room.ensures.items)
    ∙ sym (append_assoc (flat_map (λ p. take p.1 p.0.items) c.self.inside.forgotten.pieces) c.self.inside.marks.items (map (stamped c.args.source) c.args.marks.now)))
    (c.push_stamped.ensures.len ∙ ap (λ n. n + length c.args.marks.now) c.in_ok-make_room.ensures.len)
    (c.push_stamped.ensures.capacity ∙ c.in_ok-make_room.ensures.room)
    ∙ ap (λ (t : TapeState). longer_tape t c.args.source (numbers_of c.args.items.now) (map mark_of c.args.marks.now)) c.self.view_is
