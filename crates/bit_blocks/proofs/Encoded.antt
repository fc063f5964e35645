-- The sum of all bytes so far, as a code.
use Rattle.std.proofs.Common.{ℕ, ◌<◌, ◌≤◌, pos, refl, ap}
use Rattle.stream_model.specs.Meaning.{input}
use Rattle.kind_model.specs.Bits.{diff_encoder}
use Rattle.kind_laws.specs.Bits.{running_sum-more}
use Rattle.shape_laws.specs.Shaped.{residue-less}
use Rattle.bit_blocks.specs.Codes.{summed, IsCode}

pub encoder-coded : (m : ℕ) → 1 ≤ m → IsCode (diff_encoder m) 0 (λ word. word < m) (summed m) (summed m)
encoder-coded m some =
    record {
      of_bytes = refl;
      words = λ ts xs a. residue-less _ m some;
      given = λ ts xs a h. ap pos (running_sum-more m (input xs 0) a some h);
      stepped = λ ts xs a h. running_sum-more m (input xs 0) a some h;
    }
