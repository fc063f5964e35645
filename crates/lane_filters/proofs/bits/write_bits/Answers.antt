use Rattle.std.proofs.Common.{arith, refl}
use Rattle.lane_filters.specs.Words.{bit_of}
use Rattle.lane_filters.proofs.PackedBits.{bit_more}
use Rattle.lane_filters.proofs.bits.write_bits.Goals as goal

pub loop-j-preserved : goal.loop-j-preserved
loop-j-preserved c = bit_more (bit_of c.args.k c.args.byte) c.loop-j.out c.args.out.now c.args.at c.loop-j.j _ (omega arith) refl c.loop-j.invariant
