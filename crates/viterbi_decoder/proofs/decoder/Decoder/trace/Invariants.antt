use Rattle.std.proofs.Common.{◌≡◌, ℕ, ℤ, List, ◌-◌, ◌<◌, ◌≤◌, length, drop, Some}
use Rattle.std.specs.Prelude.{slice_index_or}
use Rattle.kind_model.specs.Trellis.{states_of, symbol_at}
use Rattle.viterbi_decoder.specs.Found.{found, row_in, AreLastRows}
use Rattle.viterbi_decoder.specs.Model.{trellis_of}
use Rattle.viterbi_decoder.proofs.decoder.Decoder.trace.Given as goal

abbrev pub invariant-loop-back : goal.invariant-loop-back
invariant-loop-back l = record {
  len : length l.out ≡ length l.fn.out;
  within : l.state < states_of (trellis_of l.self);
  path : (x : List ℤ) (p : List ℕ) → AreLastRows (trellis_of l.self) x l.self.steps (row_in (trellis_of l.self) l.rows)
      → found (trellis_of l.self) x l.self.steps l.last ≡ Some p →
      found (trellis_of l.self) x (l.self.steps - l.back) l.state ≡ Some (drop l.back p);
  written : (x : List ℤ) (p : List ℕ) → AreLastRows (trellis_of l.self) x l.self.steps
      (row_in (trellis_of l.self) l.rows) → found (trellis_of l.self) x l.self.steps l.last ≡ Some p →
      (j : ℕ) → l.self.steps - l.back ≤ j → j < l.self.steps → slice_index_or l.out j 0
      ≡ symbol_at (trellis_of l.self) (Some p) j;
}
