use Rattle.std.proofs.Common.{ap, sym, ◌∙◌, ◌++◌, List, ℕ, [], slice_index}
use Rattle.std.proofs.lemmas.Option.{get_or_from_slice_get}
use Rattle.graph_file.specs.Blocks.{drafted}
use Rattle.script_text.specs.Replies.{line_text}
use Rattle.script_text.specs.Reports.{firings_text}
use Rattle.flow_core.specs.Reports.{firings_line}
use Rattle.flow_core.proofs.Reporting.{grown}
use Rattle.flow_core.proofs.reports.add_firings.Goals as goal

pub loop-block-preserved : goal.loop-block-preserved
loop-block-preserved c =
    let b = c.loop-block.block in
    let q = c.args.firings.now in
    let named = get_or_from_slice_get c.args.graph.now.names b _ [] c.name-name.ensures in
    grown c.args.text.now.items c.loop-block.text.items c.add.new.text.items (firings_line (drafted c.args.graph.now) q) b c.loop-block.invariant
    (c.in_ok-add.ensures ∙ ap (λ (name : List ℕ). c.loop-block.text.items ++ line_text (firings_text name (slice_index q b))) (sym named))
