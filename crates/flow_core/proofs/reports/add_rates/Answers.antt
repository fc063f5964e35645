use Rattle.std.proofs.Common.{◌≡◌, ◌++◌, ◌∙◌, ap, sym, List, ℕ, length, subst, OnOk, append_assoc}
use Rattle.std.proofs.lemmas.List.{length-map}
use Rattle.flowgraph.specs.Flowgraph.{net_of, node_of}
use Rattle.kinds.specs.Kind.{meaning_of}
use Rattle.rates.specs.Answer.{answer_of}
use Rattle.rates.specs.declared.answers.Rates.{Rates}
use Rattle.graph_file.specs.Blocks.{drafted}
use Rattle.script_text.specs.Replies.{line_text}
use Rattle.script_text.specs.Reports.{balanced_text}
use Rattle.flow_core.specs.Reports.{each_block, firings_line, rates_text}
use Rattle.flow_core.proofs.Reporting.{firings_each}
use Rattle.flow_core.proofs.reports.add_rates.Goals as goal

pub add_firings-requires : goal.add_firings-requires
add_firings-requires c =
    let g = c.args.graph.now in
    ap length c.firings.ensures
    ∙ firings_each g.names (net_of meaning_of g) c.args.rates.now c.in-Balanced.balanced.firings.items c.recall.ensures.valid c.recall.ensures.lawful c.requires (ap answer_of c.in-Balanced.is)
    ∙ length-map g.blocks (node_of meaning_of)

pub returns-in_ok-add-in-Balanced : goal.returns-in_ok-add-in-Balanced
returns-in_ok-add-in-Balanced c =
    let d = drafted c.args.graph.now in
    let text = c.args.text.now.items in
    let whole : c.add.new.text.items ++ each_block d (firings_line d c.firings.result.now) ≡ text ++ rates_text d (answer_of c.args.rates.now) =
    ap (λ (l : List ℕ). l ++ each_block d (firings_line d c.firings.result.now)) c.in_ok-add-in-Balanced.ensures
    ∙ append_assoc text (line_text balanced_text) (each_block d (firings_line d c.firings.result.now))
    ∙ ap (λ (q : List ℕ). text ++ (line_text balanced_text ++ each_block d (firings_line d q))) c.firings.ensures
    ∙ ap (λ (r : Rates). text ++ rates_text d (answer_of r)) (sym c.in-Balanced.is) in
    subst (λ (l : List ℕ). OnOk c.add_firings.result (c.add_firings.new.text.items ≡ l)) whole c.add_firings.ensures
