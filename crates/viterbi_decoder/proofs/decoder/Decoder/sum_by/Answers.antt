use Rattle.std.proofs.Common.{◌≡◌, ◌+◌, ◌*◌, ◌/◌, ◌+ℤ◌, ◌<◌, ◌≤◌, suc, pos, w64, to_z, of_z, map, arith, ap, sym, subst, ◌∙◌}
use Rattle.std.specs.Prelude.{slice_index_or}
use Rattle.std.proofs.lemmas.Int.{to_z-of_z}
use Rattle.stream_model.specs.Lists.{item}
use Rattle.kind_model.specs.Trellis.{states_of, metric}
use Rattle.viterbi_decoder.specs.Found.{found, behind, IsWithin, IsNumber, IsSum}
use Rattle.viterbi_decoder.specs.Model.{trellis_of}
use Rattle.viterbi_decoder.proofs.Compared.{sum-number, sum-same, sum-behind}
use Rattle.viterbi_decoder.proofs.Costs.{few-steps}
use Rattle.viterbi_decoder.proofs.TwoWays.{from-within}
use Rattle.viterbi_decoder.proofs.decoder.Decoder.sum_by.Goals as goal

pub added-requires-clause-sum : goal.added-requires-clause-sum
added-requires-clause-sum g c =
    let d = c.args.self.now in
    let m = trellis_of d in
    let x = map g.T.Number.number c.args.metrics.now in
    let k = c.args.step in
    let from = c.from-from.result in
    let within : from < states_of m = subst (λ n. n < states_of m) (sym c.from-from.ensures)
    (from-within m c.args.state _ _ _ _ d.is c.requires.ways c.requires.state) in
    let most = few-steps m d.is in
    let few : k ≤ 1024 = omega (arith, most, c.requires.step) in
    let z = slice_index_or c.args.before.now from (pos 0) in
    let is = c.requires.sums.each from within in
    subst IsNumber (sym (sum-same m x k (found m x k from) z few is)) (sum-number m x k (found m x k from) z few is)

pub returns : goal.returns
returns g c =
    let d = c.args.self.now in
    let m = trellis_of d in
    let x = map g.T.Number.number c.args.metrics.now in
    let k = c.args.step in
    let state = c.args.state in
    let row = slice_index_or c.args.ways.now.rows state 0 in
    let from = c.from-from.result in
    let from_is : from ≡ row / m.symbols = c.from-from.ensures ∙ c.requires.ways.from_are state c.requires.state in
    let output_is = c.from-output.ensures ∙ c.requires.ways.outputs_are state c.requires.state in
    let within : from < states_of m = subst (λ n. n < states_of m) (sym c.from-from.ensures)
    (from-within m c.args.state _ _ _ _ d.is c.requires.ways c.requires.state) in
    let most = few-steps m d.is in
    let few : k ≤ 1024 = omega (arith, most, c.requires.step) in
    let z = slice_index_or c.args.before.now from (pos 0) in
    let is = c.requires.sums.each from within in
    let same = sum-same m x k (found m x k from) z few is in
    let metric_is : c.metric_of.result ≡ metric m x 0 k row = c.metric_of.ensures.value ∙ ap
    (λ n. item x (0 + k * d.outputs + n)) output_is in
    let passed = to_z-of_z w64 c.metric_of.result (record { sfits = c.metric_of.type_inv }) ∙ metric_is in
    let value : to_z w64 (of_z w64 c.added.result) ≡ z +ℤ metric m x 0 k row =
    to_z-of_z w64 c.added.result (record { sfits = c.added.type_inv }) ∙ c.added.ensures ∙ (λ i. same i +ℤ passed i)
    in
    subst (IsSum m x (suc k) (behind m x k row)) (sym value)
    (sum-behind m x k row z (subst (λ s. IsSum m x k (found m x k s) z) from_is is)
    (subst (IsWithin 1) metric_is c.metric_of.ensures.within))
