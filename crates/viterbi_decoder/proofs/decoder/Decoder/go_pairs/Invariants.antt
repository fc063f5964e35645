use Rattle.std.proofs.Common.{◌≡◌, ◌*◌, length, map}
use Rattle.viterbi_decoder.specs.Found.{row_of_two, AreSums, AreLastRows}
use Rattle.viterbi_decoder.specs.Model.{trellis_of}
use Rattle.viterbi_decoder.proofs.decoder.Decoder.go_pairs.Given as goal

abbrev pub invariant-loop-two : goal.invariant-loop-two
invariant-loop-two g l = record {
  len : length l.sums ≡ length l.fn.sums;
  after_len : length l.after ≡ length l.fn.after;
  late_len : length l.are_late ≡ length l.fn.are_late;
  sums : AreSums (trellis_of l.self) (map g.T.Number.number l.metrics) (2 * l.two) l.sums;
  last : AreLastRows (trellis_of l.self) (map g.T.Number.number l.metrics) (2 * l.two)
      (row_of_two (trellis_of l.self) l.early.rows l.late.rows l.are_late);
}
