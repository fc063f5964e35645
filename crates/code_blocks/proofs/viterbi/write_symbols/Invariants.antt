use Rattle.std.proofs.Common.{◌≡◌, ℕ, ◌*◌, ◌/◌, ◌%◌, ◌<◌, length, map, pos}
use Rattle.stream_model.specs.Lists.{item}
use Rattle.kind_model.specs.Trellis.{decoded}
use Rattle.viterbi_decoder.specs.Model.{trellis_of}
use Rattle.code_blocks.proofs.viterbi.write_symbols.Given as goal

abbrev pub invariant-loop-block : goal.invariant-loop-block
invariant-loop-block g l = record {
  len : length l.out ≡ length l.fn.out;
  written : (j : ℕ) → j < l.block * l.decoder.steps
      → item (map pos l.out) j
      ≡ pos (decoded (trellis_of l.decoder) (map g.T.Number.number l.items) (j / l.decoder.steps * (l.decoder.steps * l.decoder.outputs)) (j % l.decoder.steps));
}
