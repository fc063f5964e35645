use Rattle.std.proofs.Common.{◌≡◌, take}
use Rattle.items.specs.Items.{numbers_of}
use Rattle.plant_storage.proofs.tape.same_numbers.Given as goal

abbrev pub invariant-loop-place : goal.invariant-loop-place
invariant-loop-place l = take l.place (numbers_of l.one) ≡ take l.place (numbers_of l.other)
