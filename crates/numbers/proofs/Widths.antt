-- Which widths of signed numbers the items of a type fit.
use Rattle.std.proofs.Common.{ℕ, ◌<◌, ◌≤◌, ◌^◌, List, [], ◌∷◌, map, arith, w16, w32, w64, ℤ, pos, negsuc, of_z, to_z, SFits, unsigned_abs}
use Rattle.std.specs.Int.{Width}
use Rattle.std.specs.Simd.Lanes.{Each1}
use Rattle.std.proofs.lemmas.Int.{ints, to_z-of_z, fits_signed_from_abs}
use Rattle.stream_model.specs.Numbers.{IsItem}
use Rattle.stream_model.specs.declared.vocabulary.ItemType.TheVariants.{Byte, Short, Int}

pub byte_below : (x : ℕ) → IsItem Byte (pos x) → x < 256
byte_below x h = omega (arith, ints, h.above, h.below)

-- how far from 0 an item is
pub short_near : (z : ℤ) → IsItem Short z → unsigned_abs z ≤ 2 ^ 15
short_near z h = omega (arith, ints, h.above, h.below)

pub int_near : (z : ℤ) → IsItem Int z → unsigned_abs z ≤ 2 ^ 31
int_near z h = omega (arith, ints, h.above, h.below)

-- its own width
pub short_fits : (z : ℤ) → IsItem Short z → SFits w16 z
short_fits (pos n) h = record { sfits = omega (arith, ints, h.above, h.below) }
short_fits (negsuc n) h = record { sfits = omega (arith, ints, h.above, h.below) }

pub int_fits : (z : ℤ) → IsItem Int z → SFits w32 z
int_fits (pos n) h = record { sfits = omega (arith, ints, h.above, h.below) }
int_fits (negsuc n) h = record { sfits = omega (arith, ints, h.above, h.below) }

-- wider ones
pub short_in_32 : (z : ℤ) → IsItem Short z → SFits w32 z
short_in_32 z h = fits_signed_from_abs w32 z (omega (arith, short_near z h))

pub short_in_64 : (z : ℤ) → IsItem Short z → SFits w64 z
short_in_64 z h = fits_signed_from_abs w64 z (omega (arith, short_near z h))

pub int_in_64 : (z : ℤ) → IsItem Int z → SFits w64 z
int_in_64 z h = fits_signed_from_abs w64 z (omega (arith, int_near z h))

-- a cast between signed lanes asks that each number fits the width that it is cast to
pub cast_asks : (w v : Width) (zs : List ℤ) → Each1 (SFits w) zs → Each1 (SFits v) zs → Each1 (λ u. SFits v (to_z w u)) (map (of_z w) zs)
cast_asks w v [] h k = tt
cast_asks w v (z ∷ zs) h k = (rw (to_z-of_z w z h.0) k.0, cast_asks w v zs h.1 k.1)
