use Rattle.std.proofs.Common.{◌≡◌, ◌∙◌, ap, sym, subst}
use Rattle.ring_readers.specs.State.{slowest_of, with_taken}
use Rattle.buffers.specs.Buffer.{ring_of}
use Rattle.buffers.proofs.Readers.{NoLess, taken_goes_on}
use Rattle.buffers.proofs.Wanted.{from_place, from_place-same, from_place-twice}
use Rattle.buffers.proofs.buffer.Buffer.advance.Goals as goal

kept : (c : goal.After-prune) → c.prune.new.tags.tags ≡ from_place (slowest_of (ring_of c.advance.new.self).readers) c.self.inside.tags.tags
kept c = c.prune.ensures.tags ∙ ap (λ o. from_place o c.self.inside.tags.tags) c.slowest.ensures.value

pub invariant_of-self : goal.invariant_of-self
invariant_of-self c = let o = slowest_of (ring_of c.advance.new.self).readers in ap (from_place o) (kept c) ∙ (from_place-same o c.self.inside.tags.tags ∙ sym (kept c))

pub returns-clause-stream_tags : goal.returns-clause-stream_tags
returns-clause-stream_tags c whole k =
    let o = slowest_of (ring_of c.advance.new.self).readers in
    let value : ring_of c.advance.new.self ≡ with_taken c.args.self.now.ring c.args.reader c.args.count = c.advance.ensures.value ∙ ap (λ v. with_taken v.ring c.args.reader c.args.count) c.self.view_is in
    let on : NoLess (slowest_of c.args.self.now.ring.readers) o = subst (λ r. NoLess (slowest_of c.args.self.now.ring.readers) (slowest_of r.readers)) (sym value) (taken_goes_on c.args.self.now.ring c.args.reader c.args.count c.requires.live.there) in
    kept c ∙ (ap (from_place o) (ap (λ v. v.tags) c.self.view_is ∙ k) ∙ from_place-twice (slowest_of c.args.self.now.ring.readers) o on whole)
