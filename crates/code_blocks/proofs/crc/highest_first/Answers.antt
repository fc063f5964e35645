use Rattle.std.proofs.Common.{ap, ◌∙◌}
use Rattle.code_blocks.specs.Divided.{bits_of_byte}
use Rattle.code_blocks.proofs.Checks.{turned-byte}
use Rattle.code_blocks.proofs.crc.highest_first.Goals as goal

pub returns-in-LsbFirst : goal.returns-in-LsbFirst
returns-in-LsbFirst c = rw c.in-LsbFirst.is (ap bits_of_byte c.reverse_bits.ensures ∙ turned-byte c.args.byte)
