use Rattle.std.proofs.Common.{◌≡◌, pos, arith}
use Rattle.std.specs.Prelude.{slice_index_or}
use Rattle.kind_model.specs.Trellis.{states_of}
use Rattle.viterbi_decoder.specs.Model.{trellis_of}
use Rattle.viterbi_decoder.proofs.Compared.{first-sum}
use Rattle.viterbi_decoder.proofs.decoder.Decoder.begin.Goals as goal

pub returns-clause-sums : goal.returns-clause-sums
returns-clause-sums c =
    let d = c.args.self.now in
    let m = trellis_of d in
    let all : c.loop-state.state ≡ states_of m = omega (arith, d.states_are) in
    λ x. record {
      each = λ s h. first-sum m x s (slice_index_or c.loop-state.sums s (pos 0))
          (c.loop-state.invariant.written s (omega (arith, h, all)));
    }
