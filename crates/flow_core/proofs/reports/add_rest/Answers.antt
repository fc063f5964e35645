use Rattle.std.proofs.Common.{◌≡◌, ◌++◌, ◌∙◌, ap, sym, List, ℕ, subst, map, OnOk, arith, append-nil, slice_index_or}
use Rattle.std.proofs.lemmas.List.{length-map}
use Rattle.items.specs.Items.{numbers_of}
use Rattle.items.specs.Tags.{tag_of}
use Rattle.flowgraph.specs.Flowgraph.{net_of, node_of}
use Rattle.kinds.specs.Kind.{meaning_of}
use Rattle.graph_file.specs.Blocks.{drafted}
use Rattle.flow_core.proofs.Naming.{name_is}
use Rattle.flow_core.proofs.Reporting.{no_rest, rest_none, rest_piece}
use Rattle.flow_core.proofs.reports.add_rest.Goals as goal

pub returns-in-Ok : goal.returns-in-Ok
returns-in-Ok c =
    let p = c.args.plant.now.plant in
    let drained = c.args.plant.now.kept.sinks in
    let named = name_is _ p.graph c.args.block.0 c.name-name.result.now c.graph.ensures c.name-name.ensures in
    let line =
    rest_piece (drafted p.graph) p.state drained c.args.block.0 18446744073709551615 c.in-Ok.piece.from c.in-Ok.piece.held (numbers_of c.in-Ok.piece.items) (map tag_of c.in-Ok.piece.tags.items) c.in-Ok.piece.done c.name-name.result.now
    (omega (arith, c.add_held.ensures.small)) named c.in-Ok.ensures.answered in
    subst (λ (l : List ℕ). OnOk c.add_held.result (c.add_held.new.text.items ≡ c.args.text.now.items ++ l)) line c.add_held.ensures.shown

pub returns-in-Err-NotSink : goal.returns-in-Err-NotSink
returns-in-Err-NotSink c =
    let p = c.args.plant.now.plant in
    let drained = c.args.plant.now.kept.sinks in
    let refused = rw c.in-Err-NotSink.field-0-is at c.in-Err-NotSink.ensures.answered in
    let none = no_rest (net_of meaning_of p.graph) p.state c.args.block.0 (slice_index_or drained c.args.block.0 0) 18446744073709551615 (omega (arith, c.requires, length-map p.graph.blocks (node_of meaning_of))) refused in
    sym (ap (λ (l : List ℕ). c.args.text.now.items ++ l) (rest_none (drafted p.graph) p.state drained c.args.block.0 none) ∙ append-nil c.args.text.now.items)
