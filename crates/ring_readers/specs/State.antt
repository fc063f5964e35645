-- What a contract sees of a ring, and what every ring keeps.
use Rattle.std.specs.Prelude.{◌≡◌, ℕ, ◌+◌, ◌-◌, ◌^◌, ◌<◌, ◌≤◌, min, ℤ, List, [], ◌∷◌, ◌++◌, length, drop, fold, true, false, if◌then◌else◌, Option, Some, None, IsTrue, All, slice_index_or, slice_set}
use Rattle.std.specs.Option.{option_map_or}
use Rattle.circular_buffer.specs.Buffer.{keep_last}
use Rattle.ring_readers.specs.declared.reader.ReaderState.{ReaderState}

-- a buffer with places for its readers: how many items have been written, the last of them, which are kept, how many
-- unread items a reader may have, the greatest history that a reader may have, and the readers
pub record RingState : Type 0 where
  pub written : ℕ
  pub kept : List ℤ
  pub capacity : ℕ
  pub greatest : ℕ
  pub readers : List ReaderState

abbrev pub ring_state : ℕ → List ℤ → ℕ → ℕ → List ReaderState → RingState
ring_state written kept capacity greatest readers =
    record { written = written; kept = kept; capacity = capacity; greatest = greatest; readers = readers }

-- how many items are kept at most: so many that each reader's history and unread items are among them
abbrev pub most_kept : ℕ → ℕ → ℕ
most_kept capacity greatest = capacity + greatest - 1

-- a live reader has read no more than was written, and lags no further than the capacity
pub record IsWithin (written capacity greatest : ℕ) (p : ReaderState) : Type 0 where
  pub some : 1 ≤ p.history
  pub short : p.history ≤ greatest
  pub reached : IsTrue p.live → p.place ≤ written
  pub near : IsTrue p.live → written ≤ p.place + capacity

-- what every ring keeps
pub record IsRing (ring : RingState) : Type 0 where
  pub some_capacity : 1 ≤ ring.capacity
  pub some_history : 1 ≤ ring.greatest
  pub narrow : (ring.capacity < 2 ^ 32) × (ring.greatest < 2 ^ 32)
  pub kept : length ring.kept ≡ min ring.written (most_kept ring.capacity ring.greatest)
  pub small : ring.written < 2 ^ 62
  pub readers : All (IsWithin ring.written ring.capacity ring.greatest) ring.readers

-- a place that no reader has
abbrev pub nobody : ReaderState
nobody = record { place = 0; history = 1; live = false }

-- the place of reader n, among all and in a ring
abbrev pub place_in : List ReaderState → ℕ → ReaderState
place_in readers n = slice_index_or readers n nobody

abbrev pub reader_at : RingState → ℕ → ReaderState
reader_at ring n = place_in ring.readers n

-- reader n was added and not dropped, among all and in a ring
pub record IsLiveAmong (readers : List ReaderState) (n : ℕ) : Type 0 where
  pub there : n < length readers
  pub live : IsTrue (place_in readers n).live

abbrev pub IsLive : RingState → ℕ → Type 0
IsLive ring n = IsLiveAmong ring.readers n

-- how many items reader n has not taken
abbrev pub unread_of : RingState → ℕ → ℕ
unread_of ring n = ring.written - (reader_at ring n).place

-- how many items before its place reader n sees again
abbrev pub past_of : RingState → ℕ → ℕ
past_of ring n = (reader_at ring n).history - 1

-- the lesser of a place found so far, if any, and that of a reader, if it is live
abbrev pub slower : Option ℕ → ReaderState → Option ℕ
slower found p = if p.live then Some (option_map_or (min p.place) found p.place) else found

-- the least place of a live reader, if one is left
abbrev pub slowest_of : List ReaderState → Option ℕ
slowest_of readers = fold slower None readers

-- how many more items may be written: the capacity less the unread items of the slowest live reader
abbrev pub room_of : RingState → ℕ
room_of ring = option_map_or (λ place. ring.capacity - (ring.written - place)) (slowest_of ring.readers) ring.capacity

-- the stream has so many items and ends with the kept ones
pub record EndsWith (written : ℕ) (kept stream : List ℤ) : Type 0 where
  pub all : length stream ≡ written
  pub end : kept ≡ drop (written - length kept) stream

-- the stream is what was written to the ring, which keeps its end
abbrev pub IsEndOf : RingState → List ℤ → Type 0
IsEndOf ring stream = EndsWith ring.written ring.kept stream

-- a ring to which nothing has been written, without readers
abbrev pub empty_ring : ℕ → ℕ → RingState
empty_ring capacity greatest = ring_state 0 [] capacity greatest []

-- the ring with one more reader, before the first item
abbrev pub with_reader : RingState → ℕ → RingState
with_reader ring history = record ring {
  readers = ring.readers ++ record {
    place = 0;
    history = history;
    live = true;
  } ∷ [];
}

-- the ring after these items
abbrev pub with_items : RingState → List ℤ → RingState
with_items ring xs = record ring {
  written = ring.written + length xs;
  kept = keep_last (most_kept ring.capacity ring.greatest) (ring.kept ++ xs);
}

-- the ring after reader n has taken so many items
abbrev pub with_taken : RingState → ℕ → ℕ → RingState
with_taken ring n count =
    let p = reader_at ring n in
    record ring { readers = slice_set ring.readers n (record p { place = p.place + count }) }

-- the ring that no longer waits for reader n
abbrev pub without_reader : RingState → ℕ → RingState
without_reader ring n = let p = reader_at ring n in record ring {
  readers = slice_set ring.readers n
      (record p { live = false });
}
