use Rattle.std.proofs.Common.{◌≡◌, ℕ, ℤ, List, ◌<◌, Some}
use Rattle.std.specs.Option.{option_map}
use Rattle.kind_model.specs.Trellis.{states_of, cost}
use Rattle.viterbi_decoder.specs.Found.{found, found_below, AreSums}
use Rattle.viterbi_decoder.specs.Model.{trellis_of}
use Rattle.viterbi_decoder.proofs.decoder.Decoder.last_state.Given as goal

abbrev pub invariant-loop-state : goal.invariant-loop-state
invariant-loop-state l = record {
  within : l.last < states_of (trellis_of l.self);
  least : (x : List ℤ) → AreSums (trellis_of l.self) x l.self.steps l.sums → l.least ≡ option_map (cost (trellis_of l.self) x 0 l.self.steps) (found_below (trellis_of l.self) x l.state);
  path : (x : List ℤ) → AreSums (trellis_of l.self) x l.self.steps l.sums → (p : List ℕ) → found_below (trellis_of l.self) x l.state ≡ Some p → found (trellis_of l.self) x l.self.steps l.last ≡ Some p;
}
