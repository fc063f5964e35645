use Rattle.std.proofs.Common.{◌≡◌, ◌+◌, ◌*◌, ◌<◌, length, map, pos, w64, arith, ap, sym, ◌∙◌}
use Rattle.std.proofs.lemmas.Int.{to_z-of_z}
use Rattle.std.proofs.lemmas.List.{get_or-map}
use Rattle.stream_model.specs.Lists.{item}
use Rattle.viterbi_decoder.specs.Model.{trellis_of}
use Rattle.viterbi_decoder.proofs.Costs.{metric-place}
use Rattle.viterbi_decoder.proofs.decoder.Decoder.metric_of.Goals as goal

pub returns-clause-value : goal.returns-clause-value
returns-clause-value g c =
    let d = c.args.self.now in
    let number = g.T.Number.number in
    let metrics = c.args.metrics.now in
    let k = c.args.step in
    let o = c.args.output in
    let there = metric-place (trellis_of d) k o c.requires.step c.requires.output in
    let place : k * d.outputs + o < length metrics = omega (arith, there, c.requires.metrics) in
    let from : k * d.outputs + o ≡ 0 + k * d.outputs + o = omega arith in
    to_z-of_z w64 c.widen.result (record { sfits = c.widen.type_inv })
    ∙ c.widen.ensures.value
    ∙ ap number c.index-metrics-step.is
    ∙ sym (get_or-map number metrics (k * d.outputs + o) c.index-metrics-step.result (pos 0) place)
    ∙ ap (item (map number metrics)) from
