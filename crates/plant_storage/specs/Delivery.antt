-- What a commit, and the end of a block, make of what is stored, without a look at the state.
use Rattle.std.specs.Prelude.{ℕ, ◌+◌, ◌*◌, ◌^◌, ◌<◌, ◌≤◌, ◌≡◌, ℤ, List, [], length, map, take, All, Bool, true, if◌then◌else◌, is_some, slice_index_or, slice_set}
use Rattle.std.specs.List.{AllZip}
use Rattle.stream_model.specs.Lists.{below}
use Rattle.stream_model.specs.Tags.{Tag, tags_within}
use Rattle.stream_model.specs.Meaning.{input}
use Rattle.stream_model.specs.Network.{Network, node_at, role_at, is_keeper, writers_of, writer_of, used_outputs}
use Rattle.items.specs.declared.stream_items.Items.{Items}
use Rattle.items.specs.Items.{type_of, numbers_of}
use Rattle.ring_readers.specs.State.{slowest_of, room_of}
use Rattle.plant_laws.specs.Stored.{OutputBuffer, Collected, Stored, buffer_at, sink_at}
use Rattle.plant_laws.specs.Changes.{pushed, collected, taken_buffers, released_buffers, tags_waiting, tags_brought}
use Rattle.plant_laws.specs.Turns.{CanTake}
use Rattle.plant_storage.specs.declared.stores.Stores.{Stores}
use Rattle.plant_storage.specs.Stores.{stored_in}
use Rattle.plant_storage.specs.Lending.{takes_between, CanLend, HasRoom}

-- a reader of the buffer is left
abbrev pub is_read : OutputBuffer → Bool
is_read buffer = is_some (slowest_of buffer.ring.readers)

-- an output's buffer with what a commit gives it, where it is still read
abbrev pub delivered_to : OutputBuffer → List ℤ → List Tag → OutputBuffer
delivered_to buffer xs ts = if is_read buffer then pushed buffer xs ts else buffer

-- the buffers, where the outputs of block b got these items and the tags that firings from k up to the next ones add
abbrev pub delivered_buffers : Network → Stored → ℕ → ℕ → ℕ → List (List ℤ) → List (List OutputBuffer)
delivered_buffers net stored b k next outputs =
    slice_set stored.buffers b (map (λ p. delivered_to (buffer_at stored b p) (input outputs p)
    (tags_brought net stored b p k next)) (below (used_outputs net b)))

-- a sink that keeps its items has those of its window too, and the tags on them
abbrev pub delivered_sinks : Network → Stored → ℕ → ℕ → ℕ → List (List ℤ) → List Collected
delivered_sinks net stored b k next windows =
    if is_keeper (role_at net b)
    then slice_set stored.sinks b (collected (sink_at stored b) (input windows 0)
    (tags_within k next (slice_index_or (tags_waiting net stored b) 0 [])))
    else stored.sinks

-- what is stored after the commit of firings from k up to the next ones, with these windows and outputs and the state
-- word after them
abbrev pub delivered : Network → Stored → ℕ → ℕ → ℕ → List (List ℤ) → List (List ℤ) → ℕ → Stored
delivered net stored b k next windows outputs word = record stored {
  words = slice_set stored.words b word;
  buffers = taken_buffers net b k next (writers_of net b) (delivered_buffers net stored b k next outputs);
  sinks = delivered_sinks net stored b k next windows;
}

-- an output that is still read takes these items and the tags that the firings add
pub record CanGive (net : Network) (stored : Stored) (b p k next : ℕ) (out : Items) : Type 0 where
  pub type : type_of out ≡ (buffer_at stored b p).item
  pub room : is_read (buffer_at stored b p) ≡ true → length (numbers_of out) ≤ room_of (buffer_at stored b p).ring
  pub small : is_read (buffer_at stored b p) ≡ true → (buffer_at stored b p).ring.written + length
      (numbers_of out) < 2 ^ 62
  pub ahead : is_read (buffer_at stored b p) ≡ true → All (λ t. (buffer_at stored b p).ring.written ≤ t.offset)
      (tags_brought net stored b p k next)

-- a sink takes the items of its one window, one a firing
pub record CanCollect (net : Network) (stored : Stored) (b k next : ℕ) (windows : List Items) : Type 0 where
  pub one : length windows ≡ 1
  pub types : All (λ w. type_of w ≡ (sink_at stored b).item) windows
  pub many : All (λ w. length (numbers_of w) + k ≡ next) windows
  -- (its firings take an item each)
  pub input : (j : ℕ) → (node_at net b).meaning.taken 0 ((node_at net b).multiple * j) ≡ j

-- the work of these firings can be stored without more memory
pub record CanDeliver (net : Network) (s : Stores) (b first count : ℕ) (windows outputs : List Items) : Type 0 where
  pub lends : CanLend net (stored_in s) b first count
  pub room : HasRoom net s b first count
  pub gives : AllZip (λ p out. CanGive net (stored_in s) b p first (first + count) out) (below (used_outputs net b))
      outputs
  pub takes : (q : ℕ) → q < length (writers_of net b) →
      CanTake net (taken_buffers net b first (first + count) (take q (writers_of net b))
      (delivered_buffers net (stored_in s) b first (first + count) (map numbers_of outputs)))
      (writer_of net b q) (takes_between net b q first (first + count))
  pub collects : is_keeper (role_at net b) ≡ true → CanCollect net (stored_in s) b first (first + count) windows

-- no buffer has to wait for block b any longer
pub record CanRelease (net : Network) (stored : Stored) (b : ℕ) : Type 0 where
  pub inside : b < length net.nodes
  pub readers : (q : ℕ) → q < length (writers_of net b) → CanTake net
      (released_buffers net (take q (writers_of net b)) stored.buffers) (writer_of net b q) 0
