use Rattle.std.proofs.Common.{refl}
use Rattle.fir_blocks.proofs.Filtered.{fir-each}
use Rattle.fir_blocks.proofs.fir.DecimationFilterRate.polyphase.Goals as goal

pub returns : goal.returns
returns c t = record { shaped = refl; each = fir-each t c.args.taps.now c.args.rate c.args.shift }
