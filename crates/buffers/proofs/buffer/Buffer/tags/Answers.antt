use Rattle.std.proofs.Common.{◌≡◌, ◌+◌, ◌∙◌, ap, arith}
use Rattle.stream_model.specs.Tags.{tags_within}
use Rattle.ring_readers.specs.State.{slowest_of, reader_at, nobody}
use Rattle.ring_readers.proofs.SlowestReader.{slowest-least}
use Rattle.buffers.proofs.Wanted.{within_wanted}
use Rattle.buffers.proofs.buffer.Buffer.tags.Goals as goal

pub overflow_add-place : goal.overflow_add-place
overflow_add-place c =
    let place = ap (λ v. (reader_at v.ring c.args.reader).place) c.self.view_is in
    let written = ap (λ v. v.ring.written) c.self.view_is in
    omega (arith, c.requires.unread, c.place-place.ensures.value, c.place-place.ensures.reached, c.place-place.ensures.small, place, written)

pub returns-clause-stream_tags : goal.returns-clause-stream_tags
returns-clause-stream_tags c whole k =
    let reader = reader_at c.args.self.now.ring c.args.reader in
    let place : c.place-place.result ≡ reader.place = c.place-place.ensures.value ∙ ap (λ v. (reader_at v.ring c.args.reader).place) c.self.view_is in
    let within = slowest-least c.args.self.now.ring.readers c.args.reader nobody c.requires.live.there c.requires.live.live in
    c.range.ensures
    ∙ (ap (λ p. tags_within p (p + c.args.count) c.self.inside.tags.tags) place
    ∙ (ap (tags_within reader.place (reader.place + c.args.count)) (ap (λ v. v.tags) c.self.view_is ∙ k)
    ∙ within_wanted (slowest_of c.args.self.now.ring.readers) reader.place (reader.place + c.args.count) whole within))
