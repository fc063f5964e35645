use Rattle.std.proofs.Common.{refl}
use Rattle.fir_blocks.proofs.Filtered.{interp_fir-each}
use Rattle.fir_blocks.proofs.interp_fir.InterpolationFilterRate.polyphase.Goals as goal

pub returns : goal.returns
returns c t = record { shaped = refl; each = interp_fir-each t c.args.taps.now c.args.rate c.args.shift }
