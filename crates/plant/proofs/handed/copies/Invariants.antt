use Rattle.std.proofs.Common.{◌≡◌, ◌≤◌, map, take, length, vec_len, vec_capacity}
use Rattle.plant_storage.specs.Stores.{handed_of}
use Rattle.plant.proofs.handed.copies.Given as goal

abbrev pub invariant-loop-intake : goal.invariant-loop-intake
invariant-loop-intake l = record {
  copied : l.copies.items ≡ map handed_of (take l.intake-index l.handed);
  many : vec_len l.copies ≡ l.intake-index;
  room : length l.handed ≤ vec_capacity l.copies;
}
