use Rattle.std.proofs.Common.{◌≡◌, ℕ, ◌<◌, length, pos}
use Rattle.std.specs.Prelude.{slice_index_or}
use Rattle.viterbi_decoder.proofs.decoder.Decoder.keep.Given as goal

abbrev pub invariant-loop-state : goal.invariant-loop-state
invariant-loop-state l = record {
  len : length l.to ≡ length l.fn.to;
  same : (s : ℕ) → s < l.state → slice_index_or l.to s (pos 0) ≡ slice_index_or l.from s (pos 0);
}
