use Rattle.std.proofs.Common.{rules, ◌≡◌, Some, subst}
use Rattle.flowgraph.specs.Flowgraph.{Flowgraph}
use Rattle.kinds.specs.declared.kind.Kind.{Kind}
use Rattle.drawings.specs.declared.drawing.Format.{Format}
use Rattle.magbelu_c.specs.Listing.{Draws, format_of}
use Rattle.magbelu_c.specs.Slicing.{Held}
use Rattle.magbelu_c.proofs.graph_calls.magbelu_bytes_draw.Goals as goal

pub returns : goal.returns
returns c =
    let p = c.deref.result.now in
    let told = c.show_drawing-answer in
    let held : c.args.plant.now.plant ≡ Some p = search rules in
    let kept : c.put.new.self.plant ≡ Some p = search rules in
    Held p held kept
    (subst (λ (g : Flowgraph Kind). Draws g (format_of c.args.mermaid) c.args.output.now told.new.output told.result) c.graph.ensures
    (subst (λ (f : Format). Draws c.graph.result.now f c.args.output.now told.new.output told.result) c.format.ensures told.ensures))
