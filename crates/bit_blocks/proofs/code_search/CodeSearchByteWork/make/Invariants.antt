use Rattle.std.proofs.Common.{◌≡◌, ℕ, ◌<◌, map, pos}
use Rattle.stream_model.specs.Lists.{item}
use Rattle.bit_blocks.specs.Marked.{word_at, marked}
use Rattle.bit_blocks.proofs.code_search.CodeSearchByteWork.make.Given as goal

abbrev pub invariant-loop-k : goal.invariant-loop-k
invariant-loop-k l = record {
  word : l.word ≡ word_at l.self.length (map pos l.items) l.k;
  written : (j : ℕ) → j < l.k → item (map pos l.out) j ≡ marked l.self.code l.self.length l.self.threshold l.self.first (map pos l.items) j;
}
