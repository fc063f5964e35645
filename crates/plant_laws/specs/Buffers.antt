-- What a buffer holds: all that its live readers may still take, and no more than it must.
use Rattle.std.specs.Prelude.{ℕ, ◌+◌, ◌-◌, ◌<◌, ◌≤◌, ◌≡◌, min, length, map, take, ℤ, List, All, false}
use Rattle.std.specs.Option.{IfSome}
use Rattle.stream_model.specs.Tags.{tags_within}
use Rattle.stream_model.specs.Network.{Network, State, node_at, progress_at, readers_of, used_outputs, given_by, items_of, tags_of}
use Rattle.stream_model.specs.Machine.{Capacities, capacity_at}
use Rattle.machine_laws.specs.Sound.{fired}
use Rattle.ring_readers.specs.declared.reader.ReaderState.{ReaderState}
use Rattle.ring_readers.specs.State.{IsEndOf, most_kept, slowest_of}
use Rattle.plant_laws.specs.Stored.{OutputBuffer, buffer_at}
use Rattle.plant_laws.specs.Holds.{place_of, has_no_reader}
use Rattle.plant_laws.specs.Calls.{WhereHolds}

-- the items that the committed firings of block b gave on output p
abbrev pub given_so_far : Network → State → ℕ → ℕ → List ℤ
given_so_far net st b p = take (given_by (node_at net b) (fired st b)) (items_of net st.handed b p)

-- a reader at this place finds in the buffer its unread items with the past that it reads before them, no more than the
-- capacity unread, and the tags on them
pub record Finds (net : Network) (caps : Capacities) (st : State) (b p : ℕ) (buffer : OutputBuffer)
    (reader : ReaderState) : Type 0 where
  pub items : IsEndOf buffer.ring (given_so_far net st b p)
  pub reaches : buffer.ring.written - length buffer.ring.kept ≤ reader.place - (reader.history - 1)
  pub near : buffer.ring.written ≤ reader.place + capacity_at caps b p
  pub tags : tags_within reader.place buffer.ring.written buffer.tags
      ≡ tags_within reader.place buffer.ring.written (tags_of net st.handed b p)

-- each live reader does
abbrev pub ReadersFindTheirItems : Type 0
ReadersFindTheirItems = WhereHolds (λ net caps st stored. (b p : ℕ) → b < length net.nodes → p < used_outputs net b →
    All (λ c. (progress_at st.progress c.to).done ≡ false → Finds net caps st b p (buffer_at stored b p)
    (place_of net st c)) (readers_of net b p))

-- how much a buffer that is still read keeps: of items the last, as many as its capacity and the greatest past need; of
-- the stream's tags those on items from the slowest live reader's place on
pub record KeepsNoMore (net : Network) (st : State) (b p : ℕ) (buffer : OutputBuffer) : Type 0 where
  pub items : length buffer.ring.kept ≡ min buffer.ring.written (most_kept buffer.ring.capacity buffer.ring.greatest)
  pub tags : IfSome (slowest_of (map (place_of net st) (readers_of net b p))) (λ place.
      tags_within 0 buffer.ring.written buffer.tags ≡ tags_within place buffer.ring.written (tags_of net st.handed b p))

abbrev pub BuffersKeepNoMore : Type 0
BuffersKeepNoMore = WhereHolds (λ net caps st stored. (b p : ℕ) → b < length net.nodes → p < used_outputs net b
    → has_no_reader net caps st b p ≡ false →
    KeepsNoMore net st b p (buffer_at stored b p))
