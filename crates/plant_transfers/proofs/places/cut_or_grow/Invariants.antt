use Rattle.std.proofs.Common.{◌≡◌, ◌≤◌, vec_len}
use Rattle.plant_transfers.proofs.places.cut_or_grow.Given as goal

abbrev pub invariant-loop : goal.invariant-loop
invariant-loop l = (vec_len l.places ≡ l.counter) × (l.counter ≤ l.count)
