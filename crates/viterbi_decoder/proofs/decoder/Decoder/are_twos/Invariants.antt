use Rattle.std.proofs.Common.{◌≡◌, ℕ, ◌<◌}
use Rattle.std.specs.Prelude.{slice_index_or}
use Rattle.viterbi_decoder.proofs.decoder.Decoder.are_twos.Given as goal

abbrev pub invariant-loop-state : goal.invariant-loop-state
invariant-loop-state l = record { twos : (s : ℕ) → s < l.state → slice_index_or l.counts s 0 ≡ 2 }
