-- The room for a claim in flight stays while what it brings does, and no place has less room.
use Rattle.std.proofs.Common.{◌≡◌, ℕ, ◌+◌, ◌<◌, ◌≤◌, true, [], length, get_or, arith, ap}
use Rattle.std.specs.Prelude.{vec_capacity}
use Rattle.std.proofs.lemmas.List.{get_or-map}
use Rattle.stream_model.specs.Tags.{tags_within}
use Rattle.stream_model.specs.Network.{Network, Connection, no_connection, node_at, role_at, is_keeper, writers_of}
use Rattle.stream_laws.specs.CanRun.{CanRun}
use Rattle.machine_laws.proofs.Ports.{keeper_takes_all, keeper_takes_each}
use Rattle.machine_laws.proofs.Wholes.{keeper_inside}
use Rattle.plant_laws.specs.Stored.{Stored, buffer_at}
use Rattle.plant_laws.specs.Changes.{tags_waiting}
use Rattle.plant_laws.specs.Claims.{input_buffer}
use Rattle.plant_laws.specs.Flights.{BringsTheSame}
use Rattle.plant_storage.specs.declared.stores.Stores.{Stores}
use Rattle.plant_storage.specs.Stores.{stored_in}
use Rattle.plant_storage.specs.Lending.{buffer_state, sink_state, HasRoom, KeepsRoom, KeepsAllRoom}

module _ (net : Network) (can : CanRun net) (old new : Stores) (b k count : ℕ) (same : BringsTheSame net (stored_in old) (stored_in new) b k (k + count)) (has : HasRoom net old b k count) where
  -- the tags that wait on what a sink takes
  waiting_same : is_keeper (role_at net b) ≡ true → tags_within k (k + count) (get_or (tags_waiting net (stored_in new) b) 0 []) ≡ tags_within k (k + count) (get_or (tags_waiting net (stored_in old) b) 0 [])
  waiting_same keeper =
      let n = node_at net b in
      let used : 0 < length (writers_of net b) = can.fed b (keeper_inside net b keeper) (keeper_takes_all (role_at net b) keeper) in
      let at : (stored : Stored) → get_or (tags_waiting net stored b) 0 [] ≡ (input_buffer net stored b 0).tags =
      λ stored. get_or-map (λ (c : Connection). (buffer_at stored c.from c.out_port).tags) (writers_of net b) 0 no_connection [] used in
      rw (at (stored_in new), at (stored_in old)) (rw (keeper_takes_each net can b keeper k, keeper_takes_each net can b keeper (k + count)) at (same.taken 0 used))

  room_kept : ((p : ℕ) → (buffer_state old b p).spare ≤ (buffer_state new b p).spare) → vec_capacity old.brought ≤ vec_capacity new.brought →
      ((sink_state old b).spare_items ≤ (sink_state new b).spare_items) × ((sink_state old b).spare_tags ≤ (sink_state new b).spare_tags) → HasRoom net new b k count
  room_kept buffers brought sinks =
      let items = sinks.0 in
      let tags = sinks.1 in
      record {
        tags = λ p used. (let had = has.tags p used in let is = ap length (same.brought p used) in let more = buffers p in omega arith);
        brought = λ p used. (let had = has.brought p used in let is = ap length (same.brought p used) in omega arith);
        sink_items = λ keeper. (let had = has.sink_items keeper in omega arith);
        sink_tags = λ keeper. (let had = has.sink_tags keeper in let is = ap length (waiting_same keeper) in omega arith);
      }

  -- where no place has less room
  pub room_stays : KeepsAllRoom old new → HasRoom net new b k count
  room_stays keeps = room_kept (keeps.buffers b) keeps.brought (keeps.sinks b)

  -- and where only places of another block have
  pub room_stays-other : (a : ℕ) → (b ≡ a → ⊥) → KeepsRoom net a old new → HasRoom net new b k count
  room_stays-other a ne keeps = room_kept (λ p. keeps.buffers b p ne) keeps.brought (keeps.sinks b ne)
