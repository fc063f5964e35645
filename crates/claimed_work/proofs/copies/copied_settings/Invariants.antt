use Rattle.std.proofs.Common.{◌≡◌, ◌≤◌, map, take, length, vec_len, vec_capacity}
use Rattle.settings.specs.Values.{held_of}
use Rattle.claimed_work.proofs.copies.copied_settings.Given as goal

abbrev pub invariant-loop-one : goal.invariant-loop-one
invariant-loop-one l =
    (map held_of l.copies.items ≡ map held_of (take l.one-index l.held)) × (vec_len l.copies ≡ l.one-index) × (length l.held ≤ vec_capacity l.copies)
