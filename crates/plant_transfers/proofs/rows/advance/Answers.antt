use Rattle.std.proofs.Common.{◌≤◌, arith, sym, ◌∙◌, ap, subst}
use Rattle.ring_readers.specs.State.{RingState, IsLive, unread_of}
use Rattle.buffers.specs.Buffer.{BufferState}
use Rattle.plant_laws.specs.Changes.{advanced}
use Rattle.plant_storage.specs.Stores.{buffer_of}
use Rattle.plant_transfers.proofs.States as states
use Rattle.plant_transfers.proofs.rows.advance.Goals as goal

pub index_mut-requires : goal.index_mut-requires
index_mut-requires c =
    let at = states.there c.args.buffers.now c.args.input.now.connection.from.0 c.args.input.now.connection.out_port c.args.input.now.reader c.index-buffers-input.result c.requires.live in
    let row = states.long_row c.args.buffers.now c.args.input.now.connection.from.0 c.index-buffers-input.result in
    omega (arith, row, at.long)

pub advance-requires-clause-live : goal.advance-requires-clause-live
advance-requires-clause-live c =
    let ring = states.found_ring c.args.buffers.now c.args.input.now.connection.from.0 c.args.input.now.connection.out_port c.args.input.now.reader c.index-buffers-input.result c.index_mut.result.now c.requires.live c.index_mut.ensures.value in
    subst (IsLive c.index_mut.result.now.ring) (sym c.numbered.ensures) (subst (λ (z : RingState). IsLive z c.args.input.now.reader) ring c.requires.live)

pub advance-requires-clause-unread : goal.advance-requires-clause-unread
advance-requires-clause-unread c =
    let ring = states.found_ring c.args.buffers.now c.args.input.now.connection.from.0 c.args.input.now.connection.out_port c.args.input.now.reader c.index-buffers-input.result c.index_mut.result.now c.requires.live c.index_mut.ensures.value in
    subst (λ r. c.args.count ≤ unread_of c.index_mut.result.now.ring r) (sym c.numbered.ensures) (subst (λ (z : RingState). c.args.count ≤ unread_of z c.args.input.now.reader) ring c.requires.unread)

pub returns-clause-outputs : goal.returns-clause-outputs
returns-clause-outputs c =
    let at = states.there c.args.buffers.now c.args.input.now.connection.from.0 c.args.input.now.connection.out_port c.args.input.now.reader c.index-buffers-input.result c.requires.live in
    let found = states.found c.args.buffers.now c.args.input.now.connection.from.0 c.args.input.now.connection.out_port c.args.input.now.reader c.index-buffers-input.result c.index_mut.result.now c.requires.live c.index_mut.ensures.value in
    let is = states.advanced_is c.index_mut.result.now c.advance.new.self c.numbered.result c.args.input.now.reader c.numbered.ensures c.advance.ensures.item c.advance.ensures.tags c.args.count c.advance.ensures.ring in
    states.changed c.args.buffers.now c.args.input.now.connection.from.0 c.index-buffers-input.result at.block c.args.input.now.connection.out_port c.advance.new.self (λ buffer. advanced buffer c.args.input.now.reader c.args.count)
    (is ∙ ap (λ (s : BufferState). advanced (buffer_of s) c.args.input.now.reader c.args.count) found)

pub returns-clause-room : goal.returns-clause-room
returns-clause-room c =
    let at = states.there c.args.buffers.now c.args.input.now.connection.from.0 c.args.input.now.connection.out_port c.args.input.now.reader c.index-buffers-input.result c.requires.live in
    let found = states.found c.args.buffers.now c.args.input.now.connection.from.0 c.args.input.now.connection.out_port c.args.input.now.reader c.index-buffers-input.result c.index_mut.result.now c.requires.live c.index_mut.ensures.value in
    let more = states.room_is c.index_mut.result.now c.advance.new.self c.numbered.result c.args.input.now.reader c.numbered.ensures c.advance.ensures.item c.advance.ensures.tags c.advance.ensures.spare in
    states.room_stays c.args.buffers.now c.args.input.now.connection.from.0 c.index-buffers-input.result at.block c.args.input.now.connection.out_port c.advance.new.self at.port (subst (λ (s : BufferState). s.spare ≤ c.advance.new.self.spare) found more)
