use Rattle.std.proofs.Common.{◌≡◌, ◌≤◌, take, length, vec_len, vec_capacity}
use Rattle.claimed_work.specs.Copies.{AreLike}
use Rattle.claimed_work.proofs.copies.like_outputs.Given as goal

abbrev pub invariant-loop-output : goal.invariant-loop-output
invariant-loop-output l = AreLike l.copies.items (take l.output-index l.outputs) × (vec_len l.copies ≡ l.output-index) × (length l.outputs ≤ vec_capacity l.copies)
