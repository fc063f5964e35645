use Rattle.std.proofs.Common.{◌≤◌, arith, sym, ◌∙◌, ap, subst}
use Rattle.ring_readers.specs.State.{RingState, IsLive}
use Rattle.buffers.specs.Buffer.{BufferState}
use Rattle.plant_laws.specs.Changes.{released}
use Rattle.plant_storage.specs.Stores.{buffer_of}
use Rattle.plant_transfers.proofs.States as states
use Rattle.plant_transfers.proofs.rows.release.Goals as goal

pub index_mut-requires : goal.index_mut-requires
index_mut-requires c =
    let at = states.there c.args.buffers.now c.args.input.now.connection.from.0 c.args.input.now.connection.out_port c.args.input.now.reader c.index-buffers-input.result c.requires in
    let row = states.long_row c.args.buffers.now c.args.input.now.connection.from.0 c.index-buffers-input.result in
    omega (arith, row, at.long)

pub drop_reader-requires : goal.drop_reader-requires
drop_reader-requires c =
    let ring = states.found_ring c.args.buffers.now c.args.input.now.connection.from.0 c.args.input.now.connection.out_port c.args.input.now.reader c.index-buffers-input.result c.index_mut.result.now c.requires c.index_mut.ensures.value in
    subst (IsLive c.index_mut.result.now.ring) (sym c.numbered.ensures) (subst (λ (z : RingState). IsLive z c.args.input.now.reader) ring c.requires)

pub returns-clause-outputs : goal.returns-clause-outputs
returns-clause-outputs c =
    let at = states.there c.args.buffers.now c.args.input.now.connection.from.0 c.args.input.now.connection.out_port c.args.input.now.reader c.index-buffers-input.result c.requires in
    let found = states.found c.args.buffers.now c.args.input.now.connection.from.0 c.args.input.now.connection.out_port c.args.input.now.reader c.index-buffers-input.result c.index_mut.result.now c.requires c.index_mut.ensures.value in
    let is = states.released_is c.index_mut.result.now c.drop_reader.new.self c.numbered.result c.args.input.now.reader c.numbered.ensures c.drop_reader.ensures.item c.drop_reader.ensures.tags c.drop_reader.ensures.ring in
    states.changed c.args.buffers.now c.args.input.now.connection.from.0 c.index-buffers-input.result at.block c.args.input.now.connection.out_port c.drop_reader.new.self (λ buffer. released buffer c.args.input.now.reader)
    (is ∙ ap (λ (s : BufferState). released (buffer_of s) c.args.input.now.reader) found)

pub returns-clause-room : goal.returns-clause-room
returns-clause-room c =
    let at = states.there c.args.buffers.now c.args.input.now.connection.from.0 c.args.input.now.connection.out_port c.args.input.now.reader c.index-buffers-input.result c.requires in
    let found = states.found c.args.buffers.now c.args.input.now.connection.from.0 c.args.input.now.connection.out_port c.args.input.now.reader c.index-buffers-input.result c.index_mut.result.now c.requires c.index_mut.ensures.value in
    let more = states.room_is c.index_mut.result.now c.drop_reader.new.self c.numbered.result c.args.input.now.reader c.numbered.ensures c.drop_reader.ensures.item c.drop_reader.ensures.tags c.drop_reader.ensures.spare in
    states.room_stays c.args.buffers.now c.args.input.now.connection.from.0 c.index-buffers-input.result at.block c.args.input.now.connection.out_port c.drop_reader.new.self at.port (subst (λ (s : BufferState). s.spare ≤ c.drop_reader.new.self.spare) found more)
