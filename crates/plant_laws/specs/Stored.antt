-- What a plant stores, in plain lists.
use Rattle.std.specs.Prelude.{ℕ, ℤ, List, [], map, Option, Some, None, Bool, false, slice_index_or}
use Rattle.stream_model.specs.declared.vocabulary.ItemType.{ItemType}
use Rattle.stream_model.specs.declared.vocabulary.ItemType.TheVariants.{Byte}
use Rattle.stream_model.specs.Tags.{Tag}
use Rattle.recordings.specs.Recent.{SettingsState}
use Rattle.ring_readers.specs.State.{RingState, empty_ring}

-- a source's tape: its items with their type, its tags in order, whether it is closed, and the first item that is kept
-- in memory
pub record Tape : Type 0 where
  pub item : ItemType
  pub items : List ℤ
  pub tags : List Tag
  pub closed : Bool
  pub from : ℕ

-- an output's buffer: the type of its items, the ring that has them, with a place for each reader, and its tags in
-- order
pub record OutputBuffer : Type 0 where
  pub item : ItemType
  pub ring : RingState
  pub tags : List Tag

-- what a sink has collected: items with their type, their tags in order, and the first item that is kept in memory
pub record Collected : Type 0 where
  pub item : ItemType
  pub items : List ℤ
  pub tags : List Tag
  pub from : ℕ

-- block by block: tapes, which are those of sources, settings where the block has one, state words, a buffer for each
-- used output, and what the sinks that keep their items have collected
pub record Stored : Type 0 where
  pub tapes : List Tape
  pub timelines : List (Option SettingsState)
  pub words : List ℕ
  pub buffers : List (List OutputBuffer)
  pub sinks : List Collected

-- what a place where nothing is stored reads as
abbrev pub no_tape : Tape
no_tape = record { item = Byte; items = []; tags = []; closed = false; from = 0 }

abbrev pub no_buffer : OutputBuffer
no_buffer = record { item = Byte; ring = empty_ring 0 0; tags = [] }

abbrev pub nothing_collected : Collected
nothing_collected = record { item = Byte; items = []; tags = []; from = 0 }

abbrev pub tape_at : Stored → ℕ → Tape
tape_at stored b = slice_index_or stored.tapes b no_tape

abbrev pub timeline_at : Stored → ℕ → Option SettingsState
timeline_at stored b = slice_index_or stored.timelines b None

abbrev pub word_at : Stored → ℕ → ℕ
word_at stored b = slice_index_or stored.words b 0

-- the buffers of block b, and the buffer of its output p, among all and in what is stored
abbrev pub buffers_in : List (List OutputBuffer) → ℕ → List OutputBuffer
buffers_in buffers b = slice_index_or buffers b []

abbrev pub buffer_in : List (List OutputBuffer) → ℕ → ℕ → OutputBuffer
buffer_in buffers b p = slice_index_or (buffers_in buffers b) p no_buffer

abbrev pub buffer_at : Stored → ℕ → ℕ → OutputBuffer
buffer_at stored b p = buffer_in stored.buffers b p

abbrev pub sink_at : Stored → ℕ → Collected
sink_at stored b = slice_index_or stored.sinks b nothing_collected

-- the first item at which settings may still be read, where there are any
abbrev pub settings_from : Option SettingsState → ℕ
settings_from None = 0
settings_from (Some s) = s.from

-- the first item that is kept of each tape, and of what each sink has collected, and the first at which the settings of
-- each block may still be read
pub record Firsts : Type 0 where
  pub tapes : List ℕ
  pub sinks : List ℕ
  pub settings : List ℕ

abbrev pub firsts_of : Stored → Firsts
firsts_of stored = record {
  tapes = map (λ (t : Tape). t.from) stored.tapes;
  sinks = map (λ (s : Collected). s.from)
      stored.sinks;
  settings = map settings_from stored.timelines;
}
