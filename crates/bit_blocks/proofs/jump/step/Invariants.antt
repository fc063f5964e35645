use Rattle.std.proofs.Common.{◌≡◌, ◌^◌, length, map, take}
use Rattle.stream_model.specs.Lists.{below}
use Rattle.bit_blocks.specs.Jumps.{stepped}
use Rattle.bit_blocks.proofs.jump.step.Given as goal

abbrev pub invariant-loop-place : goal.invariant-loop-place
invariant-loop-place l = (take l.place l.columns ≡ map (λ place. stepped l.taps.bits l.taps.mask (2 ^ place)) (below l.place)) × (length l.columns ≡ 32)
