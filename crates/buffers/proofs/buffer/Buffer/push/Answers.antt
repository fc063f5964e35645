use Rattle.std.proofs.Common.{◌≡◌, ◌≤◌, ◌∙◌, ap, sym, subst, List, map, All, IfSome}
use Rattle.std.specs.Option.{option_map_or}
use Rattle.std.proofs.lemmas.List.Elements.{All-map}
use Rattle.stream_model.specs.Tags as model
use Rattle.items.specs.Tags.{tag_of}
use Rattle.ring_readers.specs.State.{slowest_of}
use Rattle.tags.specs.TagList.{insert_tags}
use Rattle.buffers.specs.Buffer.{ring_of}
use Rattle.buffers.proofs.Wanted.{from_place, from_place-same, pushed_tags}
use Rattle.buffers.proofs.buffer.Buffer.push.Goals as goal

-- what the buffer keeps after the push, of all tags of the stream
kept : (c : goal.After-push_slice) (whole : List model.Tag) → c.self.inside.tags.tags ≡ from_place (slowest_of (ring_of c.self.inside.rings).readers) whole
    → c.insert_wanted.new.tags.tags ≡ from_place (slowest_of (ring_of c.self.inside.rings).readers) (insert_tags (map tag_of c.args.tags.now) whole)
kept c whole k =
    let o = slowest_of (ring_of c.self.inside.rings).readers in
    let ahead = All-map (λ t. (ring_of c.self.inside.rings).written ≤ t.offset) tag_of c.args.tags.now (subst (λ v. All (λ t. v.ring.written ≤ t.offset) c.args.tags.now) (sym c.self.view_is) c.requires.tags_ahead) in
    c.insert_wanted.ensures.tags
    ∙ (ap (λ s. option_map_or (λ _. insert_tags (map tag_of c.args.tags.now) c.self.inside.tags.tags) s c.self.inside.tags.tags) c.slowest.ensures.value
    ∙ pushed_tags o (ring_of c.self.inside.rings).written (map tag_of c.args.tags.now) c.self.inside.tags.tags whole
    (subst (λ s. IfSome s (λ place. place ≤ (ring_of c.self.inside.rings).written)) c.slowest.ensures.value c.slowest.ensures.reached) ahead k)

same_readers : (c : goal.After-push_slice) → slowest_of (ring_of c.push_slice.new.self).readers ≡ slowest_of (ring_of c.self.inside.rings).readers
same_readers c = ap (λ r. slowest_of r.readers) c.push_slice.ensures.value

pub invariant_of-self : goal.invariant_of-self
invariant_of-self c =
    let o = slowest_of (ring_of c.self.inside.rings).readers in
    let now = kept c c.self.inside.tags.tags (sym c.self.invariant) in
    ap (λ s. from_place s c.insert_wanted.new.tags.tags) (same_readers c)
    ∙ (ap (from_place o) now ∙ (from_place-same o (insert_tags (map tag_of c.args.tags.now) c.self.inside.tags.tags) ∙ sym now))

pub returns-clause-tags : goal.returns-clause-tags
returns-clause-tags c =
    kept c c.self.inside.tags.tags (sym c.self.invariant)
    ∙ ap (λ v. from_place (slowest_of v.ring.readers) (insert_tags (map tag_of c.args.tags.now) v.tags)) c.self.view_is

pub returns-clause-stream_tags : goal.returns-clause-stream_tags
returns-clause-stream_tags c whole k =
    kept c whole (subst (λ v. v.tags ≡ from_place (slowest_of v.ring.readers) whole) (sym c.self.view_is) k)
    ∙ ap (λ s. from_place s (insert_tags (map tag_of c.args.tags.now) whole)) (sym (same_readers c))
