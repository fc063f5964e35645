use Rattle.std.proofs.Common.{◌≡◌, ℕ, ◌+◌, ◌*◌, ◌<◌, map, pos}
use Rattle.stream_model.specs.Lists.{item}
use Rattle.kind_model.specs.Codes.{bytes_of, is_checked}
use Rattle.code_blocks.proofs.crc_check.CrcCheckByteWork.make.Given as goal

abbrev pub invariant-loop-k : goal.invariant-loop-k
invariant-loop-k l = (j : ℕ) → j < l.k
    → item (map pos l.out) j ≡ pos (is_checked l.self.crc.rule l.self.crc.length (map pos l.items) (j * (l.self.crc.length + bytes_of l.self.crc.rule)))
