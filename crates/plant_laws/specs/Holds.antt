-- What is stored is what the streams of a state say.
use Rattle.std.specs.Prelude.{ℕ, ◌*◌, ◌<◌, ◌≤◌, ◌≡◌, max, List, [], length, map, fold, take, Option, Some, None, Bool, true, false, not}
use Rattle.circular_buffer.specs.Buffer.{keep_last}
use Rattle.stream_model.specs.declared.vocabulary.ItemType.{ItemType}
use Rattle.stream_model.specs.Tags.{Tag, sorted_tags, tags_within}
use Rattle.stream_model.specs.Settings.{Value, Held}
use Rattle.stream_model.specs.Meaning.{input}
use Rattle.stream_model.specs.Network.{Network, Connection, Handed, State, node_at, handed_at, progress_at, role_at, is_source, is_keeper, readers_of, used_outputs, taken_by, given_by, items_of, entering, tags_entering}
use Rattle.stream_model.specs.Claims.{is_abandoned}
use Rattle.stream_model.specs.Machine.{Capacities, capacity_at, output_counts}
use Rattle.stream_laws.specs.Tags.{tags_in, brought}
use Rattle.machine_laws.specs.Sound.{fired}
use Rattle.recordings.specs.Recent.{SettingsState}
use Rattle.ring_readers.specs.declared.reader.ReaderState.{ReaderState}
use Rattle.ring_readers.specs.State.{most_kept}
use Rattle.buffers.specs.Buffer.{wanted_tags}
use Rattle.plant_laws.specs.Stored.{Tape, OutputBuffer, Collected, Stored, tape_at, timeline_at, settings_from, word_at, buffers_in, buffer_at, sink_at}

-- a source's tape, with its tags put in order
pub record IsTape (item : ItemType) (handed : Handed) (tape : Tape) : Type 0 where
  pub type : tape.item ≡ item
  pub items : tape.items ≡ handed.tape
  pub tags : tape.tags ≡ sorted_tags handed.tags
  pub closed : tape.closed ≡ handed.closed

-- a timeline where the block has a parameter of its own: that, and the settings
abbrev pub IsTimeline : Option Value → List Held → Option SettingsState → Type 0
IsTimeline None ts None = ts ≡ []
IsTimeline None ts (Some s) = ⊥
IsTimeline (Some own) ts None = ⊥
IsTimeline (Some own) ts (Some s) = (s.own ≡ own) × (s.settings ≡ ts)

-- the state word after the committed firings of block b
abbrev pub word_of : Network → State → ℕ → ℕ
word_of net st b =
    let n = node_at net b in
    n.meaning.word (handed_at st.handed b).settings (entering net st.handed b) (n.multiple * fired st b)

-- where a reader stands: behind the items that its committed firings took, until it is done
abbrev pub place_of : Network → State → Connection → ReaderState
place_of net st c = record {
  place = taken_by (node_at net c.to) c.in_port (fired st c.to);
  history = (node_at net c.to).meaning.history;
  live = not (progress_at st.progress c.to).done;
}

-- the greatest history of the readers of output p of block b
abbrev pub greatest_history : Network → ℕ → ℕ → ℕ
greatest_history net b p = fold (λ h (c : Connection). max h (node_at net c.to).meaning.history) 1 (readers_of net b p)

-- nobody reads output p of block b any more
abbrev pub has_no_reader : Network → Capacities → State → ℕ → ℕ → Bool
has_no_reader net caps st b p = is_abandoned (output_counts net caps st b p)

-- the tags that the first k firings of block b added to output p, in order: a source's are those on its first k items
abbrev pub tags_given : Network → List Handed → ℕ → ℕ → ℕ → List Tag
tags_given net hs b p k =
    elim (is_source (role_at net b)) [
      | true ↦ tags_within 0 k (sorted_tags (handed_at hs b).tags)
      | false ↦ sorted_tags (brought (node_at net b) p 0 k (tags_in net hs b))
    ]

-- a buffer shows the items that its block's committed firings gave: their number, the last of them, and the tags that
-- these firings added, from the slowest reader's place on
pub record ShowsOutput (net : Network) (st : State) (b p : ℕ) (buffer : OutputBuffer) : Type 0 where
  pub written : buffer.ring.written ≡ given_by (node_at net b) (fired st b)
  pub items : buffer.ring.kept ≡ keep_last (most_kept buffer.ring.capacity buffer.ring.greatest)
      (take (given_by (node_at net b) (fired st b)) (items_of net st.handed b p))
  pub tags : buffer.tags ≡ wanted_tags buffer.ring (tags_given net st.handed b p (fired st b))

-- the buffer of output p of block b: of its type, as great as it must be, with each reader at its place. Once nobody
-- reads it any more, it need not show anything
pub record IsBuffer (net : Network) (caps : Capacities) (st : State) (b p : ℕ) (buffer : OutputBuffer) : Type 0 where
  pub type : buffer.item ≡ (node_at net b).meaning.outputs.item
  pub capacity : buffer.ring.capacity ≡ capacity_at caps b p
  pub greatest : buffer.ring.greatest ≡ greatest_history net b p
  pub readers : buffer.ring.readers ≡ map (place_of net st) (readers_of net b p)
  pub shows : has_no_reader net caps st b p ≡ false → ShowsOutput net st b p buffer

-- a sink has the items of the stream that enters it that it took, one a firing, and the tags on them; what it forgot it
-- took
pub record HasCollected (net : Network) (st : State) (b : ℕ) (sink : Collected) : Type 0 where
  pub type : sink.item ≡ (node_at net b).meaning.inputs.item
  pub items : sink.items ≡ take (fired st b) (input (entering net st.handed b) 0)
  pub tags : sink.tags ≡ tags_within 0 (fired st b) (tags_entering net st.handed b 0)
  pub kept : sink.from ≤ fired st b

-- what is stored has a place for each block and each used output
pub record HasPlaces (net : Network) (stored : Stored) : Type 0 where
  pub tapes : length stored.tapes ≡ length net.nodes
  pub timelines : length stored.timelines ≡ length net.nodes
  pub words : length stored.words ≡ length net.nodes
  pub buffers : length stored.buffers ≡ length net.nodes
  pub outputs : (b : ℕ) → b < length net.nodes → length (buffers_in stored.buffers b) ≡ used_outputs net b
  pub sinks : length stored.sinks ≡ length net.nodes

-- what is stored is what the state's streams say, each thing by itself; what a tape forgot, its source took, and
-- settings may be read from the items on that their block did not take
pub record Holds (net : Network) (caps : Capacities) (st : State) (stored : Stored) : Type 0 where
  pub places : HasPlaces net stored
  pub tapes : (b : ℕ) → b < length net.nodes → is_source (role_at net b) ≡ true
      → IsTape (node_at net b).meaning.outputs.item (handed_at st.handed b) (tape_at stored b)
  pub kept : (b : ℕ) → b < length net.nodes → is_source (role_at net b) ≡ true → (tape_at stored b).from ≤ fired st b
  pub timelines : (b : ℕ) → b < length net.nodes → IsTimeline (node_at net b).meaning.own
      (handed_at st.handed b).settings (timeline_at stored b)
  pub unread : (b : ℕ) → b < length net.nodes → settings_from (timeline_at stored b) ≤ taken_by (node_at net b) 0
      (fired st b)
  pub words : (b : ℕ) → b < length net.nodes → word_at stored b ≡ word_of net st b
  pub buffers : (b p : ℕ) → b < length net.nodes → p < used_outputs net b
      → IsBuffer net caps st b p (buffer_at stored b p)
  pub sinks : (b : ℕ) → b < length net.nodes → is_keeper (role_at net b) ≡ true
      → HasCollected net st b (sink_at stored b)
