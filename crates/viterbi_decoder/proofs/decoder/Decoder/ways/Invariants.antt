use Rattle.std.proofs.Common.{◌≡◌, length}
use Rattle.viterbi_decoder.specs.Found.{AreWays}
use Rattle.viterbi_decoder.specs.Model.{trellis_of}
use Rattle.viterbi_decoder.proofs.decoder.Decoder.ways.Given as goal

abbrev pub invariant-loop-state : goal.invariant-loop-state
invariant-loop-state l = record {
  from_len : length l.from ≡ 1024;
  outputs_len : length l.outputs ≡ 1024;
  symbols_len : length l.symbols ≡ 1024;
  ways : AreWays (trellis_of l.self) l.state l.rows l.from l.outputs l.symbols;
}
