use Rattle.std.proofs.Common.{◌≡◌, ◌<◌, ℕ, Some, length}
use Rattle.std.specs.List.{slice_get, slice_index}
use Rattle.slice_threads.specs.declared.piece.Share.{Share}
use Rattle.slice_threads.specs.Cutting.{part_of}
use Rattle.slice_threads.proofs.feeds.Feeds.parts.Given as goal

abbrev pub invariant-loop-at : goal.invariant-loop-at
invariant-loop-at l =
    (length l.parts.items ≡ l.at)
    × ((i : ℕ) (s : Share) → i < l.at → slice_get l.shares i ≡ Some s → slice_get l.parts.items i ≡ Some (part_of l.self.begins l.self.overlap s (slice_index l.given i)))
