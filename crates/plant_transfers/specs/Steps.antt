-- What the steps of a commit need.
use Rattle.std.specs.Prelude.{ℕ, ◌+◌, ◌<◌, ◌≤◌, ◌≡◌, List, [], length, take, true, slice_index_or}
use Rattle.std.specs.List.{AllZip}
use Rattle.stream_model.specs.Lists.{below}
use Rattle.stream_model.specs.Tags.{tags_within}
use Rattle.stream_model.specs.Network.{Network, node_at, role_at, is_source, writers_of, writer_of, used_outputs, taken_by}
use Rattle.items.specs.declared.stream_items.Items.{Items}
use Rattle.buffers.specs.Buffer.{BufferState}
use Rattle.plant_laws.specs.Stored.{OutputBuffer, Stored, tape_at}
use Rattle.recordings.specs.Recording.{RecordingState}
use Rattle.plant_laws.specs.Changes.{taken_buffers, released_buffers, tags_waiting, tags_brought}
use Rattle.plant_laws.specs.Turns.{CanTake}
use Rattle.plant_storage.specs.declared.intake.Intake.{Intake}
use Rattle.plant_storage.specs.Stores.{stored_of}
use Rattle.plant_storage.specs.Lending.{HasInput, FitsWords, takes_between, no_sink}
use Rattle.plant_storage.specs.Delivery.{CanGive, CanCollect}
use Rattle.plant_transfers.specs.Rows.{state_in}

-- what is stored, where only tapes and buffers are looked at
abbrev pub stored_with : List Intake → List (List BufferState) → Stored
stored_with handed rows = stored_of handed [] rows []

-- the items that firings of block b from k up to the next ones take are there, with the tags on them
pub record CanRead (net : Network) (stored : Stored) (b k next : ℕ) : Type 0 where
  pub inside : b < length net.nodes
  pub rises : k ≤ next
  pub words : FitsWords net b next
  pub kept : is_source (role_at net b) ≡ true → (tape_at stored b).from ≤ k
  pub inputs : (p : ℕ) → p < length (writers_of net b) → HasInput net stored b p k next

-- each input's reader can take what these firings take, one after the other
pub record CanTakeAll (net : Network) (buffers : List (List OutputBuffer)) (b k next : ℕ) : Type 0 where
  pub inside : b < length net.nodes
  pub rises : k ≤ next
  pub words : FitsWords net b next
  pub counts : (p : ℕ) → p < length (writers_of net b) → taken_by (node_at net b) p k ≤ taken_by (node_at net b) p next
  pub turns : (q : ℕ) → q < length (writers_of net b) → CanTake net
      (taken_buffers net b k next (take q (writers_of net b)) buffers) (writer_of net b q)
      (takes_between net b q k next)

-- each input's reader can leave, one after the other
pub record CanLeaveAll (net : Network) (buffers : List (List OutputBuffer)) (b : ℕ) : Type 0 where
  pub inside : b < length net.nodes
  pub turns : (q : ℕ) → q < length (writers_of net b) → CanTake net
      (released_buffers net (take q (writers_of net b)) buffers) (writer_of net b q) 0

-- output p can be given these items with the tags that the firings add, which have room in the buffer and in a list of
-- this capacity
pub record CanGiveTo (net : Network) (hs : List Intake) (rows : List (List BufferState)) (capacity b p k next : ℕ)
    (out : Items) : Type 0 where
  pub block : b < length rows
  pub port : p < length (slice_index_or rows b [])
  pub gives : CanGive net (stored_with hs rows) b p k next out
  pub room : length (tags_brought net (stored_with hs rows) b p k next) ≤ (state_in rows b p).spare
  pub list : length (tags_brought net (stored_with hs rows) b p k next) ≤ capacity

-- so can each used output
pub record CanGiveAll (net : Network) (hs : List Intake) (rows : List (List BufferState)) (capacity b k next : ℕ)
    (outs : List Items) : Type 0 where
  pub blocks : length rows ≡ length net.nodes
  pub handed : length hs ≡ length net.nodes
  pub ports : length (slice_index_or rows b []) ≡ used_outputs net b
  pub reads : CanRead net (stored_with hs rows) b k next
  pub gives : AllZip (λ p out. CanGive net (stored_with hs rows) b p k next out) (below (used_outputs net b)) outs
  pub room : (p : ℕ) → p < used_outputs net b → length (tags_brought net (stored_with hs rows) b p k next) ≤ (state_in
      rows b p).spare
  pub list : (p : ℕ) → p < used_outputs net b → length (tags_brought net (stored_with hs rows) b p k next) ≤ capacity

-- the sink of block b, and what it needs to take the window of these firings with the tags on it
abbrev pub sink_in : List RecordingState → ℕ → RecordingState
sink_in sinks b = slice_index_or sinks b no_sink

pub record CanKeep (net : Network) (rows : List (List BufferState)) (sinks : List RecordingState) (b k next : ℕ)
    (windows : List Items) : Type 0 where
  pub collects : CanCollect net (stored_of [] [] rows sinks) b k next windows
  pub room : next ≤ k + (sink_in sinks b).spare_items
  pub tags_room : length (tags_within k next (slice_index_or (tags_waiting net (stored_of [] [] rows sinks) b) 0
      [])) ≤ (sink_in sinks b).spare_tags
