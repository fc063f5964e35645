use Rattle.std.proofs.Common.{rules, ◌≡◌, Some, subst}
use Rattle.flowgraph.specs.Flowgraph.{Flowgraph}
use Rattle.kinds.specs.declared.kind.Kind.{Kind}
use Rattle.magbelu_c.specs.Rooms.{Rooms}
use Rattle.magbelu_c.specs.Slicing.{Held}
use Rattle.magbelu_c.proofs.graph_calls.magbelu_bytes_rooms.Goals as goal

pub returns : goal.returns
returns c =
    let p = c.deref.result.now in
    let told = c.show_rooms-reply in
    let held : c.args.plant.now.plant ≡ Some p = search rules in
    let kept : c.put.new.self.plant ≡ Some p = search rules in
    Held p held kept (subst (λ (g : Flowgraph Kind). Rooms g c.args.rooms.now told.new.rooms told.result) c.graph.ensures told.ensures)
