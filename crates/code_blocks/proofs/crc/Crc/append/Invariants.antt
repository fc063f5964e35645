use Rattle.std.proofs.Common.{◌≡◌, ◌⊎◌, ℕ, ◌+◌, ◌<◌, ◌≤◌, length, map, pos}
use Rattle.stream_model.specs.Lists.{item}
use Rattle.kind_model.specs.Codes.{bytes_of, with_checksum}
use Rattle.code_blocks.proofs.crc.Crc.append.Given as goal

abbrev pub invariant-loop-r : goal.invariant-loop-r
invariant-loop-r l = record {
  len : length l.out ≡ length l.fn.out;
  stays : (i : ℕ) → (i < l.at) ⊎ (l.at + l.self.length + bytes_of l.self.rule ≤ i) → item (map pos l.out) i ≡ item (map pos l.fn.out) i;
  written : (i : ℕ) → i < l.r → item (map pos l.out) (l.at + i) ≡ with_checksum l.self.rule l.self.length (map pos l.frame) 0 i;
}

abbrev pub invariant-loop-j : goal.invariant-loop-j
invariant-loop-j l = record {
  len : length l.out ≡ length l.fn.out;
  stays : (i : ℕ) → (i < l.at) ⊎ (l.at + l.self.length + bytes_of l.self.rule ≤ i) → item (map pos l.out) i ≡ item (map pos l.fn.out) i;
  written : (i : ℕ) → i < length l.frame + l.j → item (map pos l.out) (l.at + i) ≡ with_checksum l.self.rule l.self.length (map pos l.frame) 0 i;
}
