use Rattle.std.proofs.Common.{◌≡◌, pos, map, take}
use Rattle.bit_blocks.specs.Codes.{word_after}
use Rattle.bit_blocks.proofs.code.follow.Given as goal

abbrev pub invariant-loop-byte : goal.invariant-loop-byte
invariant-loop-byte g l = record {
  is_word : g.C.Coder.is_word l.coder l.word;
  word : l.word ≡ word_after (g.C.Coder.next l.coder) l.start (map pos (take l.byte-index l.items));
}
