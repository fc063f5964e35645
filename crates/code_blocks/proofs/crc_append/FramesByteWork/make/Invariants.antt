use Rattle.std.proofs.Common.{◌≡◌, ℕ, ◌+◌, ◌*◌, ◌/◌, ◌%◌, ◌<◌, length, map, pos}
use Rattle.stream_model.specs.Lists.{item}
use Rattle.kind_model.specs.Codes.{bytes_of, with_checksum}
use Rattle.code_blocks.proofs.crc_append.FramesByteWork.make.Given as goal

abbrev pub invariant-loop-k : goal.invariant-loop-k
invariant-loop-k l = record {
  len : length l.out ≡ length l.fn.out;
  written : (j : ℕ) → j < l.k * (l.self.crc.now.length + bytes_of l.self.crc.now.rule)
      → item (map pos l.out) j
      ≡ with_checksum l.self.crc.now.rule l.self.crc.now.length (map pos l.items)
      (j / (l.self.crc.now.length + bytes_of l.self.crc.now.rule) * l.self.crc.now.length) (j % (l.self.crc.now.length + bytes_of l.self.crc.now.rule));
}
