use Rattle.std.proofs.Common.{rules, ◌≡◌, length, ap, ◌∙◌}
use Rattle.graph_model.specs.Rates.{Balanced, balance_of}
use Rattle.flowgraph.specs.Flowgraph.{net_of}
use Rattle.kinds.specs.Kind.{meaning_of}
use Rattle.magbelu_c.specs.BlockRates.{FiringsTold}
use Rattle.magbelu_c.specs.CallAnswers.{shown}
use Rattle.magbelu_c.specs.Replies.{done}
use Rattle.magbelu_c.proofs.block_rates.show_firings.Goals as goal

pub returns-in-Ok-Balanced : goal.returns-in-Ok-Balanced
returns-in-Ok-Balanced c =
    let q = c.in-Ok-Balanced.balanced.firings.items in
    let is : balance_of (net_of meaning_of c.args.graph.now) ≡ Balanced q = search rules in
    FiringsTold q is (c.show.ensures ∙ ap (λ rs. shown rs c.args.firings.now) c.firings.ensures) (c.done.ensures ∙ ap (λ rs. done 0 (length rs)) c.firings-in-Ok-Balanced.ensures)
