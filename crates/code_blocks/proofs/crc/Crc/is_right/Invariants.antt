use Rattle.std.proofs.Common.{◌≡◌, ℕ, ◌+◌, ◌<◌, map, pos, true}
use Rattle.std.specs.Ordering.{int_eq}
use Rattle.stream_model.specs.Lists.{item}
use Rattle.kind_model.specs.Codes.{checksum, checksum_byte}
use Rattle.code_blocks.proofs.crc.Crc.is_right.Given as goal

abbrev pub invariant-loop-j : goal.invariant-loop-j
invariant-loop-j l =
    (i : ℕ) → i < l.j → int_eq (item (map pos l.frame) (0 + l.self.length + i)) (checksum_byte l.self.rule (checksum l.self.rule (map pos l.frame) 0 l.self.length) i) ≡ true
