-- How tapes are cut in pieces.
use Rattle.std.specs.Prelude.{ℕ, ◌≡◌, ◌⊎◌, ◌<◌, ◌≤◌, ◌+◌, ◌-◌, ◌*◌, ◌/◌, ◌^◌, List, Some, min, max, length, drop, nat_lt, nat_eq, slice_get, slice_index, if◌then◌else◌}
use Rattle.pipeline.specs.declared.part.StreamPart.{StreamPart}
use Rattle.slice_threads.specs.declared.feed.Feed.{Feed}
use Rattle.slice_threads.specs.declared.feed.Stride.{Stride}
use Rattle.slice_threads.specs.declared.feeds.Feeds.{Feeds}
use Rattle.slice_threads.specs.declared.piece.Share.{Share}

-- a count, or the greatest that is counted
abbrev pub counted : ℕ → ℕ
counted n = min n (2 ^ 64 - 1)

-- the bytes of so many iterations of a source
abbrev pub bytes_of : Stride → ℕ → ℕ
bytes_of s iterations = counted (counted (iterations * s.period) * s.item_size)

-- how many of these bytes a piece of so many iterations has
abbrev pub piece_of : Stride → ℕ → List ℕ → ℕ
piece_of s iterations bytes = min (bytes_of s iterations) (length bytes)

-- what is left of them for the next piece, which has so many of these iterations too
abbrev pub left_of : Stride → ℕ → ℕ → List ℕ → List ℕ
left_of s iterations kept bytes = drop (piece_of s iterations bytes - bytes_of s kept) bytes

-- how many whole iterations these bytes of a source are
abbrev pub iterations_in : Stride → List ℕ → ℕ
iterations_in s bytes = length bytes / max (bytes_of s 1) 1

-- how many iterations stand before a piece's own that begins at this one, with such an overlap
abbrev pub front_of : ℕ → ℕ → ℕ
front_of begins overlap = min begins overlap

-- at which iteration such a piece begins with these
abbrev pub first_of : ℕ → ℕ → ℕ
first_of begins overlap = begins - front_of begins overlap

-- how many iterations the next piece has at most
abbrev pub longest_of : Feeds → ℕ
longest_of f = counted (front_of f.begins f.overlap + f.most)

-- a feed has all items of a piece with so many iterations of its own, and of those before them; none may be of its own
abbrev pub HasWhole : ℕ → ℕ → Feed → Type 0
HasWhole front own f = (own ≡ 0) ⊎ (front + own ≤ iterations_in f.stride f.room)

-- the next piece begins where it would have begun, and may be as long
pub record CutsAlike (old new : Feeds) : Type 0 where
  pub begins : new.begins ≡ old.begins
  pub overlap : new.overlap ≡ old.overlap
  pub most : new.most ≡ old.most

-- how many items that a sink gets of a piece are not its own: none of the first; behind the overlap those that come of
-- it; within it those that the pieces before gave, and those before the first that is wanted
abbrev pub drop_of : ℕ → ℕ → Share → ℕ → ℕ
drop_of begins overlap s before =
    if nat_lt begins overlap then counted (s.from + before) else (if nat_eq begins 0 then 0 else s.drop)

-- which part of its stream a piece gives a sink, that was given so many items of those before
abbrev pub part_of : ℕ → ℕ → Share → ℕ → StreamPart
part_of begins overlap s before =
    let origin = counted (first_of begins overlap * s.period) in
    record { origin = origin; drop = max (drop_of begins overlap s before) (s.from - origin) }

-- the same of each sink; none was given items where nothing is said of it
pub record AreParts (begins overlap : ℕ) (shares : List Share) (given : List ℕ) (parts : List StreamPart) : Type 0 where
  pub long : length parts ≡ length shares
  pub each : (at : ℕ) (s : Share) → slice_get shares at ≡ Some s → slice_get parts at
      ≡ Some (part_of begins overlap s (slice_index given at))
