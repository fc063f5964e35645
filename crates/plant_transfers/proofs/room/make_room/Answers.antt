use Rattle.std.proofs.Common.{◌≡◌, ◌≤◌, ◌∙◌, List, [], map, length, get_or, refl, ap, sym, subst, arith}
use Rattle.std.specs.List.{All}
use Rattle.std.specs.Vec.{with_items}
use Rattle.std.proofs.lemmas.List.{with_items_is, length-map}
use Rattle.buffers.specs.Buffer.{BufferState}
use Rattle.flowgraph.specs.Flowgraph.{net_of, node_of}
use Rattle.recordings.specs.Recording.{RecordingState}
use Rattle.plant_storage.specs.Stores.{buffer_of, collected_of, rows_in}
use Rattle.plant_storage.specs.Lending.{no_sink}
use Rattle.plant_transfers.specs.Spare.{HasSpare}
use Rattle.plant_transfers.proofs.States.{Row, rows}
use Rattle.plant_transfers.proofs.Rooms.{has_room, RowsStay, rows_stay, SinksStay, sinks_stay, stored_again}
use Rattle.plant_transfers.proofs.room.make_room.Given.{Over}
use Rattle.plant_transfers.proofs.room.make_room.Goals.{After-reserve_outputs, After-reserve_sink, In_ok-reserve_outputs}
use Rattle.plant_transfers.proofs.room.make_room.Goals as goal

-- the rows after their room is made, and the sinks
rows_back : (g : Over) (c : After-reserve_outputs g) → (with_items c.args.stores.now.buffers c.reserve_outputs.new.rows).items ≡ c.reserve_outputs.new.rows
rows_back g c = with_items_is c.args.stores.now.buffers c.reserve_outputs.new.rows (c.reserve_outputs.auto.rows ∙ c.deref_mut.ensures.len)

rows_after : (g : Over) (c : After-reserve_outputs g) → RowsStay c.args.stores.now.buffers.items (with_items c.args.stores.now.buffers c.reserve_outputs.new.rows).items
rows_after g c =
    rows_stay c.args.stores.now.buffers.items c.deref_mut.result.now c.reserve_outputs.new.rows (with_items c.args.stores.now.buffers c.reserve_outputs.new.rows).items
    c.deref_mut.ensures.value (rows_back g c) c.reserve_outputs.ensures.stored c.reserve_outputs.ensures.keeps

sinks_back : (g : Over) (c : After-reserve_sink g) → (with_items c.args.stores.now.sinks c.reserve_sink.new.sinks).items ≡ c.reserve_sink.new.sinks
sinks_back g c = with_items_is c.args.stores.now.sinks c.reserve_sink.new.sinks (c.reserve_sink.auto.sinks ∙ c.deref_mut-then-is_keeper.ensures.len)

sinks_after : (g : Over) (c : After-reserve_sink g) → SinksStay c.args.stores.now.sinks.items (with_items c.args.stores.now.sinks c.reserve_sink.new.sinks).items
sinks_after g c =
    sinks_stay c.args.stores.now.sinks.items c.deref_mut-then-is_keeper.result.now c.reserve_sink.new.sinks (with_items c.args.stores.now.sinks c.reserve_sink.new.sinks).items
    c.deref_mut-then-is_keeper.ensures.value (sinks_back g c) c.reserve_sink.ensures.stored c.reserve_sink.ensures.keeps

-- each output's buffer has room for the tags
outputs_have : (g : Over) (c : In_ok-reserve_outputs g) → All (λ (s : BufferState). c.in_ok-tags.tags ≤ s.spare) (get_or (rows (with_items c.args.stores.now.buffers c.reserve_outputs.new.rows).items) c.args.block.0 [])
outputs_have g c =
    subst (λ (vs : List Row). All (λ (s : BufferState). c.in_ok-tags.tags ≤ s.spare) (get_or (rows vs) c.args.block.0 [])) (sym (rows_back g (goal.at.In_ok-reserve_outputs g c).After-reserve_outputs)) c.in_ok-reserve_outputs.ensures.room

pub returns-in_ok-reserve_sink-clause-room : goal.returns-in_ok-reserve_sink-clause-room
returns-in_ok-reserve_sink-clause-room g c =
    let at = goal.at.returns-in_ok-reserve_sink-clause-room g c in
    has_room (net_of g.B.Block.meaning c.args.graph.now) c.recall.ensures.runs c.args.stores.now _ c.args.block.0 c.args.first c.args.count c.in_ok-tags.tags c.requires
    (stored_again c.args.stores.now.handed.items c.args.stores.now.words.items _ _ _ _ (rows_after g at.After-reserve_outputs).stored (sinks_after g at.After-reserve_sink).stored) c.in_ok-tags.ensures.sum
    (outputs_have g at.In_ok-reserve_outputs) (omega (arith, c.in_ok-reserve.ensures.ok))
    (λ keeper. subst (λ (rs : List RecordingState). HasSpare c.args.count c.in_ok-tags.tags (get_or rs c.args.block.0 no_sink)) (sym (sinks_back g at.After-reserve_sink)) c.in_ok-reserve_sink.ensures.room)

pub returns-else-is_keeper-clause-room : goal.returns-else-is_keeper-clause-room
returns-else-is_keeper-clause-room g c =
    let at = goal.at.returns-else-is_keeper-clause-room g c in
    has_room (net_of g.B.Block.meaning c.args.graph.now) c.recall.ensures.runs c.args.stores.now _ c.args.block.0 c.args.first c.args.count c.in_ok-tags.tags c.requires
    (stored_again c.args.stores.now.handed.items c.args.stores.now.words.items _ _ _ _ (rows_after g at.After-reserve_outputs).stored refl) c.in_ok-tags.ensures.sum
    (outputs_have g at.In_ok-reserve_outputs) (omega (arith, c.in_ok-reserve.ensures.ok))
    (λ keeper. absurd (let no = c.is_keeper.ensures in let off = c.if-is_keeper.false in cc))

pub returns-in_err-reserve_outputs-clause-stored : goal.returns-in_err-reserve_outputs-clause-stored
returns-in_err-reserve_outputs-clause-stored g c =
    let at = goal.at.returns-in_err-reserve_outputs-clause-stored g c in
    stored_again c.args.stores.now.handed.items c.args.stores.now.words.items _ _ _ _ (rows_after g at.After-reserve_outputs).stored refl

pub returns-in_err-reserve-clause-stored : goal.returns-in_err-reserve-clause-stored
returns-in_err-reserve-clause-stored g c =
    let at = goal.at.returns-in_err-reserve-clause-stored g c in
    stored_again c.args.stores.now.handed.items c.args.stores.now.words.items _ _ _ _ (rows_after g at.After-reserve_outputs).stored refl

pub returns-in_err-reserve_sink-clause-stored : goal.returns-in_err-reserve_sink-clause-stored
returns-in_err-reserve_sink-clause-stored g c =
    let at = goal.at.returns-in_err-reserve_sink-clause-stored g c in
    stored_again c.args.stores.now.handed.items c.args.stores.now.words.items _ _ _ _ (rows_after g at.After-reserve_outputs).stored (sinks_after g at.After-reserve_sink).stored

pub returns-in_ok-reserve_sink-clause-stored : goal.returns-in_ok-reserve_sink-clause-stored
returns-in_ok-reserve_sink-clause-stored g c =
    let at = goal.at.returns-in_ok-reserve_sink-clause-stored g c in
    stored_again c.args.stores.now.handed.items c.args.stores.now.words.items _ _ _ _ (rows_after g at.After-reserve_outputs).stored (sinks_after g at.After-reserve_sink).stored

pub returns-else-is_keeper-clause-stored : goal.returns-else-is_keeper-clause-stored
returns-else-is_keeper-clause-stored g c =
    let at = goal.at.returns-else-is_keeper-clause-stored g c in
    stored_again c.args.stores.now.handed.items c.args.stores.now.words.items _ _ _ _ (rows_after g at.After-reserve_outputs).stored refl

pub returns-in_err-reserve_outputs-clause-keeps : goal.returns-in_err-reserve_outputs-clause-keeps
returns-in_err-reserve_outputs-clause-keeps g c =
    let at = goal.at.returns-in_err-reserve_outputs-clause-keeps g c in
    record { buffers = (rows_after g at.After-reserve_outputs).room; brought = omega arith; sinks = λ a. (omega arith, omega arith) }

pub returns-in_err-reserve-clause-keeps : goal.returns-in_err-reserve-clause-keeps
returns-in_err-reserve-clause-keeps g c =
    let at = goal.at.returns-in_err-reserve-clause-keeps g c in
    record { buffers = (rows_after g at.After-reserve_outputs).room; brought = omega (arith, c.clear.ensures.capacity, c.in_err-reserve.ensures.capacity); sinks = λ a. (omega arith, omega arith) }

pub returns-in_err-reserve_sink-clause-keeps : goal.returns-in_err-reserve_sink-clause-keeps
returns-in_err-reserve_sink-clause-keeps g c =
    let at = goal.at.returns-in_err-reserve_sink-clause-keeps g c in
    record { buffers = (rows_after g at.After-reserve_outputs).room; brought = omega (arith, c.clear.ensures.capacity, c.in_ok-reserve.ensures.capacity); sinks = λ a. (let kept = (sinks_after g at.After-reserve_sink).room a in (kept.more_items, kept.more_tags)) }

pub returns-in_ok-reserve_sink-clause-keeps : goal.returns-in_ok-reserve_sink-clause-keeps
returns-in_ok-reserve_sink-clause-keeps g c =
    let at = goal.at.returns-in_ok-reserve_sink-clause-keeps g c in
    record { buffers = (rows_after g at.After-reserve_outputs).room; brought = omega (arith, c.clear.ensures.capacity, c.in_ok-reserve.ensures.capacity); sinks = λ a. (let kept = (sinks_after g at.After-reserve_sink).room a in (kept.more_items, kept.more_tags)) }

pub returns-else-is_keeper-clause-keeps : goal.returns-else-is_keeper-clause-keeps
returns-else-is_keeper-clause-keeps g c =
    let at = goal.at.returns-else-is_keeper-clause-keeps g c in
    record { buffers = (rows_after g at.After-reserve_outputs).room; brought = omega (arith, c.clear.ensures.capacity, c.in_ok-reserve.ensures.capacity); sinks = λ a. (omega arith, omega arith) }

pub reserve_outputs-requires : goal.reserve_outputs-requires
reserve_outputs-requires g c =
    let stored = length-map (rows_in c.args.stores.now) (map buffer_of) in
    let long = length-map c.args.stores.now.buffers.items (λ (row : Row). row.items) in
    let lent = ap length c.deref_mut.ensures.value in
    omega (arith, c.requires.inside, c.requires.places.buffers, stored, long, lent)

pub is_keeper-requires : goal.is_keeper-requires
is_keeper-requires g c = omega (arith, c.requires.inside, length-map c.args.graph.now.blocks (node_of g.B.Block.meaning))

pub reserve_sink-requires : goal.reserve_sink-requires
reserve_sink-requires g c =
    let stored = length-map c.args.stores.now.sinks.items collected_of in
    let lent = ap length c.deref_mut-then-is_keeper.ensures.value in
    omega (arith, c.requires.inside, c.requires.places.sinks, stored, lent)
