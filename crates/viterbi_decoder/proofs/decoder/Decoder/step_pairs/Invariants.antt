use Rattle.std.proofs.Common.{◌≡◌, ℕ, ◌*◌, ◌<◌, false, length, map}
use Rattle.std.specs.Prelude.{slice_index_or}
use Rattle.kind_model.specs.Trellis.{states_of}
use Rattle.viterbi_decoder.specs.Found.{row_of_two, AreTaken}
use Rattle.viterbi_decoder.specs.Model.{trellis_of}
use Rattle.viterbi_decoder.proofs.decoder.Decoder.step_pairs.Given as goal

abbrev pub invariant-loop-state : goal.invariant-loop-state
invariant-loop-state g l = record {
  len : length l.after ≡ length l.fn.after;
  late_len : length l.are_late ≡ length l.fn.are_late;
  taken : AreTaken (trellis_of l.self) (map g.T.Number.number l.metrics) l.step l.state l.after
      (row_of_two (trellis_of l.self) l.early.rows l.late.rows l.are_late l.step);
  stays : (i : ℕ) → i < l.step * states_of (trellis_of l.self) → slice_index_or l.are_late i false
      ≡ slice_index_or l.fn.are_late i false;
}
