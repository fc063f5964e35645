-- What a claim takes from what is stored, and the room that it makes for its commit.
use Rattle.std.specs.Prelude.{ℕ, ◌+◌, ◌-◌, ◌*◌, ◌^◌, ◌<◌, ◌≤◌, ◌≡◌, ℤ, List, [], length, map, All, true, false, slice_index_or, vec_capacity}
use Rattle.stream_model.specs.declared.vocabulary.ItemType.TheVariants.{Byte}
use Rattle.stream_model.specs.Tags.{tags_within}
use Rattle.stream_model.specs.Settings as model
use Rattle.stream_model.specs.Meaning.{input}
use Rattle.stream_model.specs.Network.{Network, node_at, role_at, is_source, is_keeper, writers_of, used_outputs, taken_by, given_by}
use Rattle.items.specs.declared.stream_items.Items.{Items}
use Rattle.items.specs.Items.{type_of, numbers_of}
use Rattle.settings.specs.declared.value.Held.{Held}
use Rattle.settings.specs.Values.{held_of}
use Rattle.ring_readers.specs.State.{IsLive, empty_ring, reader_at, unread_of}
use Rattle.buffers.specs.Buffer.{BufferState}
use Rattle.recordings.specs.Recording.{RecordingState}
use Rattle.block_trait.specs.Work.{IsReady}
use Rattle.plant_laws.specs.Stored.{Stored, tape_at, timeline_at, settings_from, word_at}
use Rattle.plant_laws.specs.Holds.{HasPlaces}
use Rattle.plant_laws.specs.Changes.{tags_waiting, tags_brought}
use Rattle.plant_laws.specs.Claims.{IsSeen, input_buffer, input_reader, tape_windows, held_over}
use Rattle.plant_storage.specs.declared.stores.Stores.{Stores}
use Rattle.plant_storage.specs.Stores.{rows_in, stored_in}

-- how many items of input p firings from k up to the next ones take
abbrev pub takes_between : Network → ℕ → ℕ → ℕ → ℕ → ℕ
takes_between net b p k next = taken_by (node_at net b) p next - taken_by (node_at net b) p k

-- an input's buffer has the items that firings from k up to the next ones take, unread by its reader, which stands at
-- the first of them
pub record HasInput (net : Network) (stored : Stored) (b p k next : ℕ) : Type 0 where
  pub live : IsLive (input_buffer net stored b p).ring (input_reader net b p)
  pub place : (reader_at (input_buffer net stored b p).ring (input_reader net b p)).place ≡ taken_by (node_at net b) p k
  pub history : (reader_at (input_buffer net stored b p).ring (input_reader net b p)).history
      ≡ (node_at net b).meaning.history
  pub unread : takes_between net b p k next ≤ unread_of (input_buffer net stored b p).ring (input_reader net b p)
  pub rises : taken_by (node_at net b) p k ≤ taken_by (node_at net b) p next
  pub type : (input_buffer net stored b p).item ≡ (node_at net b).meaning.inputs.item

-- a source's tape has the items of the firings
pub record HasTapeItems (net : Network) (stored : Stored) (b first next : ℕ) : Type 0 where
  pub kept : (tape_at stored b).from ≤ first
  pub long : next ≤ length (tape_at stored b).items
  pub type : (tape_at stored b).item ≡ (node_at net b).meaning.inputs.item

-- counts that fit a word: of the firings up to the next ones, one by one, of the items that they take and give, and of
-- the offsets that tags on these are moved to
pub record FitsWords (net : Network) (b next : ℕ) : Type 0 where
  pub firings : (node_at net b).multiple * next < 2 ^ 62
  pub takes : (p : ℕ) → p < length (writers_of net b) → taken_by (node_at net b) p next < 2 ^ 62
  pub gives : given_by (node_at net b) next < 2 ^ 62
  pub places : (p offset : ℕ) → p < length (writers_of net b) → offset < taken_by (node_at net b) p next
      → (node_at net b).meaning.place p offset < 2 ^ 63

-- count firings of block b, from the first on, can be taken from what is stored
pub record CanLend (net : Network) (stored : Stored) (b first count : ℕ) : Type 0 where
  pub inside : b < length net.nodes
  pub places : HasPlaces net stored
  pub tape : is_source (role_at net b) ≡ true → HasTapeItems net stored b first (first + count)
  pub settings : settings_from (timeline_at stored b) ≤ taken_by (node_at net b) 0 first
  pub inputs : (p : ℕ) → p < length (writers_of net b) → HasInput net stored b p first (first + count)
  pub words : FitsWords net b (first + count)

-- the windows of these firings: a source's is cut out of its tape, any other's are what its readers see
pub record AreWindows (net : Network) (stored : Stored) (b first count : ℕ) (windows : List (List ℤ)) : Type 0 where
  pub tape : is_source (role_at net b) ≡ true → windows ≡ tape_windows stored b first count
  pub many : is_source (role_at net b) ≡ false → length windows ≡ length (writers_of net b)
  pub seen : is_source (role_at net b) ≡ false → (p : ℕ) → p < length (writers_of net b) →
      IsSeen (input_buffer net stored b p).ring (input_reader net b p) (takes_between net b p first (first + count))
      (input windows p)

-- windows, settings and state word are those of these firings
pub record IsLentFor (net : Network) (stored : Stored) (b first count : ℕ) (ws : List (List ℤ)) (hs : List model.Held)
    (w : ℕ) : Type 0 where
  pub windows : AreWindows net stored b first count ws
  pub held : hs ≡ held_over (timeline_at stored b) (taken_by (node_at net b) 0 first)
      (taken_by (node_at net b) 0 (first + count))
  pub word : w ≡ word_at stored b

-- what a job of these firings is lent: its windows and settings, and empty places for what it gives
pub record IsLent (net : Network) (stored : Stored) (b first count : ℕ) (windows : List Items) (held : List Held)
    (places : List Items) : Type 0 where
  pub lent : IsLentFor net stored b first count (map numbers_of windows) (map held_of held) (word_at stored b)
  pub types : All (λ w. type_of w ≡ (node_at net b).meaning.inputs.item) windows
  pub outputs : length places ≡ used_outputs net b
  pub ready : All (IsReady (node_at net b).meaning ((node_at net b).multiple * first)
      ((node_at net b).multiple * count)) places

-- what a place without a buffer, or without a sink, reads as
abbrev pub no_buffer : BufferState
no_buffer = record { item = Byte; ring = empty_ring 0 0; tags = []; spare = 0 }

abbrev pub no_sink : RecordingState
no_sink = record { item = Byte; items = []; tags = []; from = 0; spare_items = 0; spare_tags = 0; capacity = 0 }

abbrev pub buffer_state : Stores → ℕ → ℕ → BufferState
buffer_state s b p = slice_index_or (slice_index_or (rows_in s) b []) p no_buffer

abbrev pub sink_state : Stores → ℕ → RecordingState
sink_state s b = slice_index_or s.sinks.items b no_sink

-- there is room for all that the commit of these firings stores: for the tags that they add to each output, and, of a
-- sink, for their items and the tags on them
pub record HasRoom (net : Network) (s : Stores) (b first count : ℕ) : Type 0 where
  pub tags : (p : ℕ) → p < used_outputs net b → length (tags_brought net (stored_in s) b p first
      (first + count)) ≤ (buffer_state s b p).spare
  pub brought : (p : ℕ) → p < used_outputs net b → length (tags_brought net (stored_in s) b p first
      (first + count)) ≤ vec_capacity s.brought
  pub sink_items : is_keeper (role_at net b) ≡ true → count ≤ (sink_state s b).spare_items
  pub sink_tags : is_keeper (role_at net b) ≡ true →
      length (tags_within first (first + count) (slice_index_or (tags_waiting net (stored_in s) b) 0 [])) ≤ (sink_state
      s b).spare_tags

-- no place has less room than before, but those of block b
pub record KeepsRoom (net : Network) (b : ℕ) (old new : Stores) : Type 0 where
  pub buffers : (a p : ℕ) → (a ≡ b → ⊥) → (buffer_state old a p).spare ≤ (buffer_state new a p).spare
  pub brought : vec_capacity old.brought ≤ vec_capacity new.brought
  pub sinks : (a : ℕ) → (a ≡ b → ⊥) → ((sink_state old a).spare_items ≤ (sink_state new a).spare_items)
      × ((sink_state old a).spare_tags ≤ (sink_state new a).spare_tags)

-- no place at all has
pub record KeepsAllRoom (old new : Stores) : Type 0 where
  pub buffers : (a p : ℕ) → (buffer_state old a p).spare ≤ (buffer_state new a p).spare
  pub brought : vec_capacity old.brought ≤ vec_capacity new.brought
  pub sinks : (a : ℕ) → ((sink_state old a).spare_items ≤ (sink_state new a).spare_items)
      × ((sink_state old a).spare_tags ≤ (sink_state new a).spare_tags)
