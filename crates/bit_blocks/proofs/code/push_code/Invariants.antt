use Rattle.std.proofs.Common.{◌≡◌, ◌+◌, pos, map, take, vec_len, vec_capacity}
use Rattle.bit_blocks.specs.Codes.{coded, word_after}
use Rattle.bit_blocks.proofs.code.push_code.Given as goal

abbrev pub invariant-loop-byte : goal.invariant-loop-byte
invariant-loop-byte g l = record {
  is_word : g.C.Coder.is_word l.coder l.word;
  items : map pos l.made.items ≡ coded (g.C.Coder.gives l.coder) (g.C.Coder.next l.coder) l.start (map pos (take l.byte-index l.items));
  word : l.word ≡ word_after (g.C.Coder.next l.coder) l.start (map pos (take l.byte-index l.items));
  len : vec_len l.made ≡ vec_len l.fn.made + l.byte-index;
  capacity : vec_capacity l.made ≡ vec_capacity l.fn.made;
}
