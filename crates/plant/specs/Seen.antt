-- What the readers at a block's inputs see, input by input.
use Rattle.std.specs.Prelude.{ℕ, ◌+◌, ◌-◌, ◌*◌, ◌^◌, ◌<◌, ◌≤◌, ◌≡◌, ℤ, List, [], length, slice_index_or}
use Rattle.stream_model.specs.Lists.{window}
use Rattle.stream_model.specs.Meaning.{input}
use Rattle.stream_model.specs.Network.{Node, taken_by}
use Rattle.flowgraph.specs.declared.parts.Input.{Input}
use Rattle.ring_readers.specs.State.{RingState, IsLive, IsEndOf, reader_at, unread_of, past_of}
use Rattle.buffers.specs.Buffer.{BufferState}
use Rattle.plant_storage.specs.Lending.{no_buffer}

-- the buffer that an input reads, and its ring
abbrev pub buffer_behind : List (List BufferState) → Input → BufferState
buffer_behind rows i = slice_index_or (slice_index_or rows i.connection.from.0 []) i.connection.out_port no_buffer

abbrev pub ring_behind : List (List BufferState) → Input → RingState
ring_behind rows i = (buffer_behind rows i).ring

-- input p of a block has a buffer with the items of firings first to below next, unread, over counts that fit a word
pub record CanSee (rows : List (List BufferState)) (n : Node) (first next p : ℕ) (i : Input) : Type 0 where
  pub block : i.connection.from.0 < length rows
  pub port : i.connection.out_port < length (slice_index_or rows i.connection.from.0 [])
  pub type : (buffer_behind rows i).item ≡ n.meaning.inputs.item
  pub live : IsLive (ring_behind rows i) i.reader
  pub unread : taken_by n p next - taken_by n p first ≤ unread_of (ring_behind rows i) i.reader
  pub firings : n.multiple * next < 2 ^ 62
  pub small : taken_by n p next < 2 ^ 62

-- so has each
abbrev pub CanSeeAll : List (List BufferState) → Node → ℕ → ℕ → List Input → Type 0
CanSeeAll rows n first next is = (p : ℕ) (d : Input) → p < length is
    → CanSee rows n first next p (slice_index_or is p d)

-- the buffers at the inputs hold the ends of these streams
abbrev pub AreEnds : List (List BufferState) → List Input → (ℕ → List ℤ) → Type 0
AreEnds rows is streams = (p : ℕ) (d : Input) → p < length is → IsEndOf (ring_behind rows (slice_index_or is p d))
    (streams p)

-- what the reader at input p sees of a stream with the items of these firings
abbrev pub seen_of : List (List BufferState) → Node → ℕ → ℕ → ℕ → Input → List ℤ → List ℤ
seen_of rows n first next p i stream =
    let ring = ring_behind rows i in
    let place = (reader_at ring i.reader).place in
    window stream (past_of ring i.reader) place (place + (taken_by n p next - taken_by n p first))

-- a window for each input: what its reader sees
pub record AreSeen (rows : List (List BufferState)) (n : Node) (first next : ℕ) (is : List Input) (streams : ℕ → List ℤ)
    (windows : List (List ℤ)) : Type 0 where
  pub many : length windows ≡ length is
  pub seen : (p : ℕ) (d : Input) → p < length is → input windows p ≡ seen_of rows n first next p (slice_index_or is p d)
      (streams p)
