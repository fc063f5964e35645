use Rattle.std.proofs.Common.{◌≡◌, ℕ, ◌<◌, length, arith, ap, sym, ◌∙◌}
use Rattle.std.proofs.lemmas.List.{length-map}
use Rattle.stream_model.specs.declared.vocabulary.Shift.{Shift}
use Rattle.stream_model.specs.Firings.{gives}
use Rattle.stream_model.specs.Meaning.{Meaning}
use Rattle.stream_model.specs.Network.{node_at, writers_of}
use Rattle.flowgraph.specs.declared.parts.Input.{Input}
use Rattle.flowgraph.specs.Flowgraph.{connection_of, net_of}
use Rattle.kinds.specs.Kind.{meaning_of}
use Rattle.rates.proofs.Valid.{has_rates}
use Rattle.magbelu_c.specs.BlockRates.{RatesTold, rates_told}
use Rattle.magbelu_c.specs.CallAnswers.{shown}
use Rattle.magbelu_c.proofs.block_rates.show_rates.Goals as goal

pub gives-requires-clause-rates : goal.gives-requires-clause-rates
gives-requires-clause-rates c = has_rates c.args.graph.now.names (net_of meaning_of c.args.graph.now) c.recall.ensures.valid c.recall.ensures.runs c.recall.ensures.counts

pub returns : goal.returns
returns c =
    let g = c.args.graph.now in
    let b = c.args.number in
    let net = net_of meaning_of g in
    let there : b < length g.blocks = (let no = c.if-len-number.false in let long = c.len.ensures.blocks in omega arith) in
    let inputs : length c.inputs.result.now ≡ length (writers_of net b) = sym (length-map c.inputs.result.now (λ (i : Input). connection_of i.connection)) ∙ ap length c.inputs.ensures.writers in
    RatesTold there (c.show.ensures ∙ ap (λ rs. shown rs c.args.table.now) (c.deref.ensures.value ∙ c.in-Ok.ensures))
    (c.rates_told.ensures ∙ ap (λ (s : Shift). rates_told s c.gives.result (length c.inputs.result.now)) (c.shift.ensures ∙ ap (λ (m : Meaning). m.shift) c.block.ensures.meaning)
    ∙ ap (λ (given : ℕ). rates_told (node_at net b).meaning.shift given (length c.inputs.result.now)) c.gives.ensures
    ∙ ap (λ (count : ℕ). rates_told (node_at net b).meaning.shift (gives (node_at net b)) count) inputs)
