use Rattle.std.proofs.Common.{◌≡◌, length, map, take}
use Rattle.bit_blocks.specs.Jumps.{product}
use Rattle.bit_blocks.proofs.jump.squared.Given as goal

abbrev pub invariant-loop-place : goal.invariant-loop-place
invariant-loop-place l = (take l.place l.squared ≡ map (product l.columns) (take l.place l.columns)) × (length l.squared ≡ 32)
