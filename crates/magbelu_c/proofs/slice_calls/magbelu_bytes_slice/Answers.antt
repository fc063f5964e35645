use Rattle.std.proofs.Common.{rules, ◌≡◌, Some, subst}
use Rattle.flowgraph.specs.Flowgraph.{Flowgraph}
use Rattle.kinds.specs.declared.kind.Kind.{Kind}
use Rattle.slices.specs.declared.plan.Asks.{Asks}
use Rattle.magbelu_c.specs.Slicing.{Held, Slices, asks_of}
use Rattle.magbelu_c.proofs.slice_calls.magbelu_bytes_slice.Goals as goal

pub returns : goal.returns
returns c =
    let p = c.deref.result.now in
    let told = c.show_slice-slicing in
    let held : c.args.plant.now.plant ≡ Some p = search rules in
    let kept : c.put.new.self.plant ≡ Some p = search rules in
    Held p held kept
    (subst (λ (g : Flowgraph Kind). Slices g (asks_of c.args.tags) c.args.begins c.args.parts.now told.new.parts told.result) c.graph.ensures
    (subst (λ (a : Asks). Slices c.graph.result.now a c.args.begins c.args.parts.now told.new.parts told.result) c.asks.ensures told.ensures))
