use Rattle.std.proofs.Common.{◌≡◌, ◌+◌, ◌*◌, ◌/◌, ◌+ℤ◌, ◌<◌, ◌≤◌, suc, w64, to_z, of_z, length, map, arith, ap, sym, subst, ◌∙◌}
use Rattle.std.proofs.lemmas.Int.{to_z-of_z}
use Rattle.std.proofs.lemmas.List.{get_or_read}
use Rattle.stream_model.specs.Lists.{item}
use Rattle.kind_model.specs.Trellis.{metric}
use Rattle.viterbi_decoder.specs.Found.{found, behind, IsWithin, IsNumber, IsSum}
use Rattle.viterbi_decoder.specs.Model.{trellis_of}
use Rattle.viterbi_decoder.proofs.Compared.{sum-number, sum-same, sum-behind}
use Rattle.viterbi_decoder.proofs.Costs.{few-steps}
use Rattle.viterbi_decoder.proofs.decoder.Decoder.sum_behind.Goals as goal

pub metric_of-requires-clause-output : goal.metric_of-requires-clause-output
metric_of-requires-clause-output g c =
    let d = c.args.self.now in
    let row = c.args.row in
    let in_table : row < length d.output.items = omega (arith, d.is.rows, c.requires.row) in
    let read = c.from-output.ensures ∙ get_or_read d.output.items row c.index.result.now in_table c.index.ensures 0 in
    subst (λ n. n < d.outputs) (sym read) (d.is.given row 0 in_table)

pub added-requires-clause-sum : goal.added-requires-clause-sum
added-requires-clause-sum g c =
    let d = c.args.self.now in
    let m = trellis_of d in
    let x = map g.T.Number.number c.args.metrics.now in
    let k = c.args.step in
    let most = few-steps m d.is in
    let few : k ≤ 1024 = omega (arith, most, c.requires.step) in
    let path = found m x k (c.args.row / m.symbols) in
    subst IsNumber (sym (sum-same m x k path c.args.sum few c.requires.sum))
    (sum-number m x k path c.args.sum few c.requires.sum)

pub returns : goal.returns
returns g c =
    let d = c.args.self.now in
    let m = trellis_of d in
    let x = map g.T.Number.number c.args.metrics.now in
    let k = c.args.step in
    let row = c.args.row in
    let z = c.args.sum in
    let in_table : row < length d.output.items = omega (arith, d.is.rows, c.requires.row) in
    let read = c.from-output.ensures ∙ get_or_read d.output.items row c.index.result.now in_table c.index.ensures 0 in
    let most = few-steps m d.is in
    let few : k ≤ 1024 = omega (arith, most, c.requires.step) in
    let same = sum-same m x k (found m x k (row / m.symbols)) z few c.requires.sum in
    let metric_is : c.metric_of.result ≡ metric m x 0 k row = c.metric_of.ensures.value ∙ ap
    (λ n. item x (0 + k * d.outputs + n)) read in
    let passed = to_z-of_z w64 c.metric_of.result (record { sfits = c.metric_of.type_inv }) ∙ metric_is in
    let value : to_z w64 (of_z w64 c.added.result) ≡ z +ℤ metric m x 0 k row =
    to_z-of_z w64 c.added.result (record { sfits = c.added.type_inv }) ∙ c.added.ensures ∙ (λ i. same i +ℤ passed i)
    in
    subst (IsSum m x (suc k) (behind m x k row)) (sym value) (sum-behind m x k row z c.requires.sum
    (subst (IsWithin 1) metric_is c.metric_of.ensures.within))
