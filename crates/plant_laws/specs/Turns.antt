-- A block's inputs, one after the other: each reader is there in its turn.
use Rattle.std.specs.Prelude.{ℕ, ◌-◌, ◌<◌, ◌≤◌, ◌≡◌, ℤ, List, [], length, take, false, slice_index_or}
use Rattle.stream_model.specs.Network.{Network, Connection, node_at, progress_at, writers_of, writer_of, taken_by}
use Rattle.machine_laws.specs.Sound.{fired, reached}
use Rattle.ring_readers.specs.State.{IsLive, unread_of}
use Rattle.plant_laws.specs.Stored.{OutputBuffer, buffer_in}
use Rattle.plant_laws.specs.Changes.{reader_number, released_buffers, taken_buffers, given_buffers, tags_brought}
use Rattle.plant_laws.specs.Calls.{WhereHolds, IsWorked}

-- the reader of the connection is live, and has so many unread items
pub record CanTake (net : Network) (buffers : List (List OutputBuffer)) (c : Connection) (count : ℕ) : Type 0 where
  pub live : IsLive (buffer_in buffers c.from c.out_port).ring (reader_number net c)
  pub unread : count ≤ unread_of (buffer_in buffers c.from c.out_port).ring (reader_number net c)

-- where the buffers at a live block's first inputs no longer wait for it, that at the next still does
abbrev pub ReadersLeaveInTurn : Type 0
ReadersLeaveInTurn = WhereHolds (λ net caps st stored. (b q : ℕ) → b < length net.nodes
    → (progress_at st.progress b).done ≡ false → q < length (writers_of net b) →
    CanTake net (released_buffers net (take q (writers_of net b)) stored.buffers) (writer_of net b q) 0)

-- and as a commit takes at the first inputs what its firings take, the next has what they take
abbrev pub ReadersTakeInTurn : Type 0
ReadersTakeInTurn = WhereHolds (λ net caps st stored. (b q : ℕ) (outputs : List (List ℤ)) (word : ℕ)
    → b < length net.nodes → 0 < (progress_at st.progress b).claimed → IsWorked net st b outputs word
    → q < length (writers_of net b) →
    let given = given_buffers net caps st stored b (λ p. slice_index_or outputs p [])
    (λ p. tags_brought net stored b p (fired st b) (reached st b)) in
    CanTake net (taken_buffers net b (fired st b) (reached st b) (take q (writers_of net b)) given) (writer_of net b q)
    (taken_by (node_at net b) q (reached st b) - taken_by (node_at net b) q (fired st b)))
