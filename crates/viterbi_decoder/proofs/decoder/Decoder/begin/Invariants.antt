use Rattle.std.proofs.Common.{◌≡◌, ℕ, ◌<◌, length, pos}
use Rattle.std.specs.Prelude.{slice_index_or, if◌then◌else◌}
use Rattle.kind_model.specs.Trellis.{may_be}
use Rattle.viterbi_decoder.specs.Found.{far}
use Rattle.viterbi_decoder.proofs.decoder.Decoder.begin.Given as goal

abbrev pub invariant-loop-state : goal.invariant-loop-state
invariant-loop-state l = record {
  len : length l.sums ≡ length l.fn.sums;
  written : (s : ℕ) → s < l.state → slice_index_or l.sums s (pos 0) ≡ (if may_be l.self.start s then pos 0 else far);
}
