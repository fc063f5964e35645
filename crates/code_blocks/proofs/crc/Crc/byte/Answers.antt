use Rattle.std.proofs.Common.{arith}
use Rattle.code_blocks.proofs.Bytes.{byte-at}
use Rattle.code_blocks.proofs.crc.Crc.byte.Goals as goal
use Rattle.code_blocks.proofs.crc.Crc.byte.Goals.{in-MsbFirst, in-LsbFirst}

pub returns : goal.returns
returns c =
    elim c.match-self.branch [
      | in-MsbFirst w ↦ rw w.in-MsbFirst.is (byte-at c.args.sum c.match-self.place _ (omega (arith, w.place-is, w.bytes.ensures)))
      | in-LsbFirst w ↦ rw w.in-LsbFirst.is (byte-at c.args.sum c.match-self.place c.args.j (omega (arith, w.place-is)))
    ]
