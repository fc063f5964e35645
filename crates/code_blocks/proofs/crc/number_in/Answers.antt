use Rattle.std.proofs.Common.{sym}
use Rattle.code_blocks.proofs.Checks.{own-number}
use Rattle.code_blocks.proofs.crc.number_in.Goals as goal

pub returns-in-MsbFirst-clause-value : goal.returns-in-MsbFirst-clause-value
returns-in-MsbFirst-clause-value c = rw c.in-MsbFirst.is (sym (own-number c.args.bits c.args.register c.requires.register))
