use Rattle.std.proofs.Common.{◌≡◌, ◌<◌, ◌≤◌, ◌∙◌, ap, sym, arith, length, get_or}
use Rattle.std.proofs.Math.Seq.{map-set_same}
use Rattle.std.proofs.lemmas.List.{get_or_read}
use Rattle.buffers.specs.Buffer.{BufferState}
use Rattle.plant_storage.specs.Stores.{buffer_of}
use Rattle.plant_storage.specs.Lending.{no_buffer}
use Rattle.plant_transfers.proofs.Rooms.{set_keeps, set_room, same_buffer}
use Rattle.plant_transfers.proofs.room.reserve_tags.Goals as goal

pub loop-buffer-preserved : goal.loop-buffer-preserved
loop-buffer-preserved c =
    let bs = c.loop-buffer.buffers in
    let i = c.loop-buffer.buffer-index in
    let item = c.buffer-item.result in
    let new = c.reserve.new.self in
    let inside : i < length bs = omega arith in
    let here : (get_or bs i no_buffer).spare ≤ new.spare =
    (let same : (get_or bs i item).spare ≡ (get_or bs i no_buffer).spare = ap (λ (b : BufferState). b.spare) (sym c.buffer-item.is ∙ get_or_read bs i item inside c.buffer-item.is no_buffer) in
    let more = c.reserve.ensures.spare in
    omega arith) in
    record {
      stored = map-set_same buffer_of bs i new item (same_buffer new (get_or bs i item) c.reserve.ensures.item c.reserve.ensures.ring c.reserve.ensures.tags) ∙ c.loop-buffer.invariant.stored;
      room = set_room (λ (b : BufferState). b.spare) c.args.tags bs i new inside c.in_ok-reserve.ensures.ok c.loop-buffer.invariant.room;
      keeps = λ p. let kept = c.loop-buffer.invariant.keeps p in let more = set_keeps (λ (b : BufferState). b.spare) bs i new no_buffer here p in omega arith;
    }
