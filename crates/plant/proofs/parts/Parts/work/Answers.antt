use Rattle.std.proofs.Common.{◌≡◌, ◌<◌, ◌∙◌, ◌++◌, ap, sym, subst, arith, length, take, drop}
use Rattle.std.specs.Arc.{arc_value}
use Rattle.std.proofs.lemmas.List.{length-map, take_at, get_or-set_same}
use Rattle.stream_model.specs.Network.{node_at}
use Rattle.items.specs.Items.{type_of}
use Rattle.flowgraph.specs.Flowgraph.{Flowgraph, net_of}
use Rattle.claimed_work.specs.declared.lent.Lent.{Lent}
use Rattle.plant_storage.specs.Stores.{stored_in}
use Rattle.plant_transfers.proofs.PlaceLists.{still_hold_outputs}
use Rattle.plant.specs.Plant.{IsItsWork, plant_of}
use Rattle.plant.proofs.Places.{lent_here}
use Rattle.plant.proofs.Working.{firings_fit, can_work, has_worked}
use Rattle.plant.proofs.Lasting.{lasts, worked_places}
use Rattle.plant.proofs.parts.Parts.work.Goals as goal

pub overflow_mul-multiple : goal.overflow_mul-multiple
overflow_mul-multiple g c =
    let small = firings_fit g.B.Block.meaning c.args.self.now c.args.block.0 c.args.first c.args.count c.deref.result.now c.deref.ensures c.recall.ensures.valid c.recall.ensures.runs c.requires.right c.requires.flight c.from-multiple.result
    (c.from-multiple.ensures ∙ sym c.options.ensures.node.multiple ∙ ap (λ (x : Flowgraph g.row.B.Denot). (node_at (net_of g.B.Block.meaning x) c.args.block.0).multiple) c.deref-2.ensures) in
    omega (arith, small)

pub work-requires : goal.work-requires
work-requires g c =
    let net = net_of g.B.Block.meaning (arc_value c.args.self.now.graph) in
    let lent = c.index_mut-lent.result.now in
    let its = lent_here c.args.self.now.lent.items c.args.block.0 lent c.index_mut-lent.ensures.value net (stored_in c.args.self.now.stores) c.args.first c.args.count c.requires.lent in
    let meaning : g.B.Block.meaning c.block.result.now ≡ (node_at net c.args.block.0).meaning = c.block.ensures.meaning ∙ ap (λ (x : Flowgraph g.row.B.Denot). (node_at (net_of g.B.Block.meaning x) c.args.block.0).meaning) c.deref-3.ensures in
    let multiple : c.from-multiple.result ≡ (node_at net c.args.block.0).multiple =
    c.from-multiple.ensures ∙ sym c.options.ensures.node.multiple ∙ ap (λ (x : Flowgraph g.row.B.Denot). (node_at (net_of g.B.Block.meaning x) c.args.block.0).multiple) c.deref-2.ensures in
    can_work g.B.Block.meaning c.args.self.now c.args.block.0 c.args.first c.args.count c.deref.result.now c.deref.ensures c.recall.ensures.valid c.recall.ensures.runs c.requires.right c.requires.flight lent.windows.items lent.held.items lent.outputs.items its
    (g.B.Block.meaning c.block.result.now) meaning c.from-multiple.result multiple c.from.result c.from.ensures c.index.result.now c.index.ensures c.deref-4.result.now c.deref-4.ensures.value
    c.deref-5.result.now c.deref-5.ensures.value c.deref_mut.result.now c.deref_mut.ensures.value

pub returns-clause-work : goal.returns-clause-work
returns-clause-work g c =
    let net = net_of g.B.Block.meaning (arc_value c.args.self.now.graph) in
    let all = c.args.self.now.lent.items in
    let b = c.args.block.0 in
    let there : b < length all = (let places = c.requires.right.built.places in let inside = c.requires.flight.inside in omega arith) in
    let lent = c.index_mut-lent.result.now in
    let its = lent_here all b lent c.index_mut-lent.ensures.value net (stored_in c.args.self.now.stores) c.args.first c.args.count c.requires.lent in
    let meaning : g.B.Block.meaning c.block.result.now ≡ (node_at net c.args.block.0).meaning = c.block.ensures.meaning ∙ ap (λ (x : Flowgraph g.row.B.Denot). (node_at (net_of g.B.Block.meaning x) c.args.block.0).meaning) c.deref-3.ensures in
    let multiple : c.from-multiple.result ≡ (node_at net c.args.block.0).multiple =
    c.from-multiple.ensures ∙ sym c.options.ensures.node.multiple ∙ ap (λ (x : Flowgraph g.row.B.Denot). (node_at (net_of g.B.Block.meaning x) c.args.block.0).multiple) c.deref-2.ensures in
    let out = c.work.new.out in
    let long : length out ≡ length lent.outputs.items =
    sym (length-map out type_of) ∙ ap length c.work.ensures.items.types ∙ length-map c.deref_mut.result.now type_of ∙ ap length c.deref_mut.ensures.value in
    let whole : take lent.outputs.len (out ++ drop (length out) lent.outputs.items) ≡ out = take_at out (drop (length out) lent.outputs.items) lent.outputs.len (omega (arith, long, ap length c.deref_mut.ensures.value, c.deref_mut.ensures.len)) in
    let done = has_worked g.B.Block.meaning c.args.self.now c.args.block.0 c.args.first c.args.count c.deref.result.now c.deref.ensures c.recall.ensures.valid c.recall.ensures.runs c.requires.right c.requires.flight lent.windows.items lent.held.items lent.outputs.items its
    (g.B.Block.meaning c.block.result.now) meaning c.from-multiple.result multiple c.from.result c.from.ensures c.index.result.now c.index.ensures c.deref-4.result.now c.deref-4.ensures.value
    c.deref-5.result.now c.deref-5.ensures.value c.deref_mut.result.now c.deref_mut.ensures.value
    out c.work.result c.work.ensures.items c.work.ensures.word in
    λ d. subst (λ (l : Lent). IsItsWork net (plant_of c.args.self.now).state b l.windows.items l.outputs.items c.work.result) (sym (get_or-set_same all b _ d there)) (rw whole done)

pub returns-clause-keeps : goal.returns-clause-keeps
returns-clause-keeps g c =
    let net = net_of g.B.Block.meaning (arc_value c.args.self.now.graph) in
    let all = c.args.self.now.lent.items in
    let b = c.args.block.0 in
    let there : b < length all = (let places = c.requires.right.built.places in let inside = c.requires.flight.inside in omega arith) in
    let lent = c.index_mut-lent.result.now in
    let its = lent_here all b lent c.index_mut-lent.ensures.value net (stored_in c.args.self.now.stores) c.args.first c.args.count c.requires.lent in
    let out = c.work.new.out in
    let kept = worked_places _ _ _ lent.outputs.items c.deref_mut.result.now out its.ready c.deref_mut.ensures.value c.work.ensures.items.types c.work.ensures.items.room in
    let whole : take lent.outputs.len (out ++ drop (length out) lent.outputs.items) ≡ out = take_at out (drop (length out) lent.outputs.items) lent.outputs.len (omega (arith, kept.many, ap length c.deref_mut.ensures.value, c.deref_mut.ensures.len)) in
    lasts net all b lent _ c.index_mut-lent.ensures.value there
    (λ k next serves. record { seen = serves.seen; given = rw whole (still_hold_outputs net b k next lent.outputs.items out kept serves.given) })
