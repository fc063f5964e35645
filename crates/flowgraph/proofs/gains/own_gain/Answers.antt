use Rattle.std.proofs.Common.{◌≡◌, max, ap₂, sym, ◌∙◌, arith}
use Rattle.std.proofs.lemmas.Grind.{common_steps}
use Rattle.graph_model.specs.Graphs.{gain_at}
use Rattle.graph_laws.proofs.Members.{greatest_of-more}
use Rattle.flowgraph.proofs.gains.own_gain.Goals as goal

pub loop-input-preserved : goal.loop-input-preserved
loop-input-preserved g c =
    let more = greatest_of-more (λ p. gain_at ((g.B.Block.meaning c.args.block.now).rate p)) c.loop-input.input in
    let each : max c.loop-input.gain c.gain_on.result ≡ _ = ap₂ max c.loop-input.invariant c.gain_on.ensures ∙ sym more in
    let greater : c.max-gain.result ≡ max c.loop-input.gain c.gain_on.result = grind (arith, common_steps, c.max-gain.ensures) in
    greater ∙ each
