-- What is stored before anything happens.
use Rattle.std.proofs.Common.{◌≡◌, ℕ, Bool, zero, suc, ◌+◌, ◌<◌, ◌≤◌, max, List, [], ◌∷◌, length, map, take, get_or, refl, arith, ap, sym, subst, ◌∙◌}
use Rattle.std.specs.Prelude.{fold}
use Rattle.std.specs.Prelude.{◌==◌, ◌&&◌, Vec}
use Rattle.std.specs.Global.{Global}
use Rattle.std.proofs.lemmas.Simd.{map-map}
use Rattle.std.proofs.lemmas.List.{length-map, get_or-map}
use Rattle.std.proofs.lemmas.List.Elements.{All-filter}
use Rattle.stream_model.specs.declared.vocabulary.ItemType.{ItemType}
use Rattle.stream_model.specs.Network as model
use Rattle.stream_model.specs.Lists.{below}
use Rattle.stream_model.specs.Network.{Network, Node, node_at, no_connection, readers_of, used_outputs}
use Rattle.stream_model.specs.Machine.{Capacities}
use Rattle.stream_laws.specs.CanRun.{CanRun}
use Rattle.flowgraph.specs.declared.parts.Connection.{Connection}
use Rattle.flowgraph.specs.Flowgraph.{Flowgraph, net_of, node_of, connection_of}
use Rattle.stream_model.specs.Meaning.{Meaning}
use Rattle.ring_readers.specs.declared.reader.ReaderState.{ReaderState}
use Rattle.ring_readers.specs.State.{ring_state, with_reader}
use Rattle.buffers.specs.Buffer.{BufferState}
use Rattle.plant_laws.specs.Stored.{OutputBuffer}
use Rattle.plant_laws.specs.Opening.{first_place, empty_buffer, empty_sink, stored_opening}
use Rattle.plant_storage.specs.declared.stores.Stores.{Stores}
use Rattle.plant_storage.specs.Stores.{buffer_of, collected_of, stored_in}
use Rattle.plant_storage.specs.Opening.{LeadInside, AreUnhanded, history_among}
use Rattle.plant_storage.proofs.Growing.{map_more}

-- what a place without a connection reads as
abbrev pub nothing_there : Connection
nothing_there = record { from = record { 0 = 0 }; out_port = 0; to = record { 0 = 0 }; in_port = 0 }

-- a connection that leads inside leads to a block
pub to_a_block : {B : Type 0} (meaning : B → Meaning) (g : Flowgraph B) (cs : List Connection) (k : ℕ) → LeadInside (net_of meaning g) (map connection_of cs) → k < length cs →
    (get_or cs k nothing_there).to.0 < length g.blocks
to_a_block meaning g cs k inside lt =
    let wide = length-map cs connection_of in
    let in' : k < length (map connection_of cs) = omega arith in
    let there = inside k no_connection in' in
    let at = ap (λ (c : model.Connection). c.to) (get_or-map connection_of cs k nothing_there no_connection lt) in
    let blocks = length-map g.blocks (node_of meaning) in
    omega arith

-- the readers of an output are blocks
pub readers_inside : (net : Network) → CanRun net → (b p : ℕ) → LeadInside net (readers_of net b p)
readers_inside net can b p =
    All-filter (λ (c : model.Connection). c.from == b && c.out_port == p) (λ (c : model.Connection). c.to < length net.nodes) net.connections (λ k d lt. (can.levels.rises k d lt).1)

module _ (net : Network) where
  from-least : (cs : List model.Connection) (h : ℕ) → h ≤ fold (λ h (c : model.Connection). max h (node_at net c.to).meaning.history) h cs
  from-least [] h = omega arith
  from-least (c ∷ cs) h = let rest = from-least cs (max h (node_at net c.to).meaning.history) in omega arith

  from-each : (cs : List model.Connection) (h k : ℕ) → k < length cs →
      (node_at net (get_or cs k no_connection).to).meaning.history ≤ fold (λ h (c : model.Connection). max h (node_at net c.to).meaning.history) h cs
  from-each [] h k lt = absurd (omega arith)
  from-each (c ∷ cs) h zero lt = let rest = from-least cs (max h (node_at net c.to).meaning.history) in omega arith
  from-each (c ∷ cs) h (suc k) lt = from-each cs (max h (node_at net c.to).meaning.history) k (omega arith)

  -- the greatest history is at least 1 and at least that of each
  pub some_history : (cs : List model.Connection) → 1 ≤ history_among net cs
  some_history cs = from-least cs 1

  pub each_history : (cs : List Connection) (k : ℕ) → k < length cs → (node_at net (get_or cs k nothing_there).to.0).meaning.history ≤ history_among net (map connection_of cs)
  each_history cs k lt =
      subst (λ (c : model.Connection). (node_at net c.to).meaning.history ≤ history_among net (map connection_of cs)) (get_or-map connection_of cs k nothing_there no_connection lt)
      (from-each (map connection_of cs) 1 k (rw length-map lt))

  -- an empty buffer with these readers
  abbrev pub buffer_with : ItemType → ℕ → ℕ → List model.Connection → OutputBuffer
  buffer_with item capacity greatest cs = record { item = item; ring = ring_state 0 [] capacity greatest (map (first_place net) cs); tags = [] }

  module _ (item : ItemType) (capacity greatest : ℕ) where
    pub reader_added : (cs : List Connection) (k history : ℕ) (old new : BufferState) → k < length cs → buffer_of old ≡ buffer_with item capacity greatest (take k (map connection_of cs)) →
        history ≡ (node_at net (get_or cs k nothing_there).to.0).meaning.history → new ≡ record old { ring = with_reader old.ring history } →
        buffer_of new ≡ buffer_with item capacity greatest (take (k + 1) (map connection_of cs))
    reader_added cs k history old new lt before reads is =
        ap buffer_of is
        ∙ ap (λ (b : OutputBuffer). record b { ring = with_reader b.ring history }) before
        ∙ ap (λ h. (let b = buffer_with item capacity greatest (take k (map connection_of cs)) in record b { ring = with_reader b.ring h })) reads
        ∙ ap (λ (c : model.Connection). (let b = buffer_with item capacity greatest (take k (map connection_of cs)) in record b { ring = with_reader b.ring (node_at net c.to).meaning.history }))
        (sym (get_or-map connection_of cs k nothing_there no_connection lt))
        ∙ ap (λ (ps : List ReaderState). (let b : OutputBuffer = record { item = item; ring = ring_state 0 [] capacity greatest ps; tags = [] } in b))
        (sym (map_more (first_place net) (map connection_of cs) k no_connection (rw length-map lt)))

-- each part is as it is when a plant is opened, and so is the whole
pub opened : (net : Network) (caps : Capacities) (s : Stores) (longest : ℕ) (alone : Bool) → AreUnhanded longest alone net.nodes s.handed.items → s.words.items ≡ map (λ (n : Node). n.meaning.start) net.nodes →
    map (λ (row : Vec BufferState Global). map buffer_of row.items) s.buffers.items ≡ map (λ b. map (empty_buffer net caps b) (below (used_outputs net b))) (below (length net.nodes)) →
    map collected_of s.sinks.items ≡ map empty_sink net.nodes → stored_in s ≡ stored_opening net caps
opened net caps s longest alone handed words buffers sinks = rw (handed.tapes, handed.timelines, words, map-map, buffers, sinks) refl
