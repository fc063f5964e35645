use Rattle.std.proofs.Common.{◌≡◌, ℕ, ◌+◌, ◌%◌, ◌<◌, pos, length, map, get_or}
use Rattle.kind_model.specs.Bits.{low_bit}
use Rattle.bit_blocks.specs.Codes.{masked_before}
use Rattle.bit_blocks.proofs.sums.masked_sums.Given as goal

abbrev pub invariant-loop-place : goal.invariant-loop-place
invariant-loop-place l = record {
  same_length : length l.sums ≡ length l.fn.sums;
  sums : (k : ℕ) → k < length l.fn.sums → get_or l.sums k 0 % 2
      ≡ (low_bit (map pos l.bytes) (32 + k) + masked_before l.place l.register.mask (map pos l.bytes) (32 + k)) % 2;
}
