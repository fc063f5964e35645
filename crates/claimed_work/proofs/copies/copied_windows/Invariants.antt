use Rattle.std.proofs.Common.{◌≡◌, ◌≤◌, map, take, length, vec_len, vec_capacity}
use Rattle.items.specs.Items.{numbers_of, type_of}
use Rattle.claimed_work.proofs.copies.copied_windows.Given as goal

abbrev pub invariant-loop-window : goal.invariant-loop-window
invariant-loop-window l =
    (map numbers_of l.copies.items ≡ map numbers_of (take l.window-index l.windows))
    × (map type_of l.copies.items ≡ map type_of (take l.window-index l.windows))
    × (vec_len l.copies ≡ l.window-index)
    × (length l.windows ≤ vec_capacity l.copies)
