use Rattle.std.proofs.Common.{rules, ◌≡◌, Some, subst}
use Rattle.flowgraph.specs.Flowgraph.{Flowgraph}
use Rattle.kinds.specs.declared.kind.Kind.{Kind}
use Rattle.magbelu_c.specs.BlockRates.{TellsFirings}
use Rattle.magbelu_c.specs.Slicing.{Held}
use Rattle.magbelu_c.proofs.graph_calls.magbelu_bytes_firings.Goals as goal

pub returns : goal.returns
returns c =
    let p = c.deref.result.now in
    let told = c.show_firings-reply in
    let held : c.args.plant.now.plant ≡ Some p = search rules in
    let kept : c.put.new.self.plant ≡ Some p = search rules in
    Held p held kept (subst (λ (g : Flowgraph Kind). TellsFirings g c.args.firings.now told.new.firings told.result) c.graph.ensures told.ensures)
