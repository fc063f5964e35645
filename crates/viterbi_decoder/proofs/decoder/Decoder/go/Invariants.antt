use Rattle.std.proofs.Common.{◌≡◌, length, map}
use Rattle.viterbi_decoder.specs.Found.{row_in, AreSums, AreLastRows, AreRows}
use Rattle.viterbi_decoder.specs.Model.{trellis_of}
use Rattle.viterbi_decoder.proofs.decoder.Decoder.go.Given as goal

abbrev pub invariant-loop-step : goal.invariant-loop-step
invariant-loop-step g l = record {
  len : length l.sums ≡ length l.fn.sums;
  after_len : length l.after ≡ length l.fn.after;
  rows_len : length l.rows ≡ length l.fn.rows;
  sums : AreSums (trellis_of l.self) (map g.T.Number.number l.metrics) l.step l.sums;
  last : AreLastRows (trellis_of l.self) (map g.T.Number.number l.metrics) l.step (row_in (trellis_of l.self) l.rows);
  rows : AreRows (trellis_of l.self) l.rows;
}
