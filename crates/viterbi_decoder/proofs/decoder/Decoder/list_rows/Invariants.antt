use Rattle.std.proofs.Common.{◌≡◌, length}
use Rattle.viterbi_decoder.specs.Found.{AreRows, AreListed}
use Rattle.viterbi_decoder.specs.Model.{trellis_of}
use Rattle.viterbi_decoder.proofs.decoder.Decoder.list_rows.Given as goal

abbrev pub invariant-loop-row : goal.invariant-loop-row
invariant-loop-row l = record {
  counts_len : length l.counts ≡ length l.fn.counts;
  early_len : length l.early ≡ length l.fn.early;
  late_len : length l.late ≡ length l.fn.late;
  listed : AreListed (trellis_of l.self) l.row l.counts l.early l.late;
  early_rows : AreRows (trellis_of l.self) l.early;
  late_rows : AreRows (trellis_of l.self) l.late;
}
