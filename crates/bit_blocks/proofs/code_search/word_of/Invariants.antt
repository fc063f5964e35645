use Rattle.std.proofs.Common.{◌≡◌, map, pos}
use Rattle.bit_blocks.specs.Marked.{word_at}
use Rattle.bit_blocks.proofs.code_search.word_of.Given as goal

abbrev pub invariant-loop-k : goal.invariant-loop-k
invariant-loop-k l = l.word ≡ word_at l.k (map pos l.bytes) 0
