use Rattle.std.proofs.Common.{◌≡◌, ◌*◌, ◌^◌, ◌<◌, map, pos}
use Rattle.kind_model.specs.BitStreams.{stream_bit}
use Rattle.kind_model.specs.Codes.{remainder}
use Rattle.stream_model.specs.Lists.{numbers_from}
use Rattle.code_blocks.proofs.crc.Crc.checksum.Given as goal

abbrev pub invariant-loop-byte : goal.invariant-loop-byte
invariant-loop-byte l = record {
  register : l.register ≡ remainder l.self.rule.bits l.self.rule.polynomial l.self.rule.init (map (stream_bit l.self.rule.order 8 (map pos l.frame)) (numbers_from 0 (8 * l.byte-index)));
  less : l.register < 2 ^ l.self.rule.bits;
}
