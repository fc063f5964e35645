use Rattle.std.proofs.Common.{◌<◌, length, refl, arith, sym, subst}
use Rattle.std.specs.Arc.{arc_value}
use Rattle.std.proofs.lemmas.List.{length-set, get_or-set_same}
use Rattle.std.proofs.lemmas.Result.{on_ok_weaker}
use Rattle.flowgraph.specs.Flowgraph.{Flowgraph, net_of}
use Rattle.claimed_work.specs.declared.lent.Lent.{Lent}
use Rattle.plant_storage.specs.Stores.{stored_in}
use Rattle.plant_storage.specs.Lending.{IsLent}
use Rattle.plant.proofs.Lasting.{Serves, lasts}
use Rattle.plant.proofs.Roomy.{may_lend_from, right_but_roomy, right_roomy}
use Rattle.plant.proofs.parts.Parts.lend.Goals as goal

pub make_room-requires : goal.make_room-requires
make_room-requires g c =
    may_lend_from g.B.Block.meaning c.args.self.now c.args.block.0 c.args.first c.args.count c.deref.result.now c.deref.ensures c.recall.ensures.valid c.recall.ensures.runs c.requires.right c.requires.flight
    c.deref-2.result.now c.deref-2.ensures c.args.self.now.stores refl

pub returns-in_err-make_room-clause-right : goal.returns-in_err-make_room-clause-right
returns-in_err-make_room-clause-right g c =
    let made = c.in_err-make_room.ensures in
    right_but_roomy g.B.Block.meaning c.args.self.now c.args.block.0 c.args.first c.args.count c.deref.result.now c.deref.ensures c.recall.ensures.valid c.recall.ensures.runs c.requires.right c.requires.flight
    c.make_room.new.stores made.stored made.handed made.keeps c.args.self.now.lent refl

pub lend-requires : goal.lend-requires
lend-requires g c =
    let made = c.in_ok-make_room.ensures in
    may_lend_from g.B.Block.meaning c.args.self.now c.args.block.0 c.args.first c.args.count c.deref.result.now c.deref.ensures c.recall.ensures.valid c.recall.ensures.runs c.requires.right c.requires.flight
    c.deref-3.result.now c.deref-3.ensures c.make_room.new.stores made.stored

pub returns-clause-right : goal.returns-clause-right
returns-clause-right g c =
    let made = c.in_ok-make_room.ensures in
    right_but_roomy g.B.Block.meaning c.args.self.now c.args.block.0 c.args.first c.args.count c.deref.result.now c.deref.ensures c.recall.ensures.valid c.recall.ensures.runs c.requires.right c.requires.flight
    c.make_room.new.stores made.stored made.handed made.keeps _ (length-set c.args.self.now.lent.items c.args.block.0 c.lend.new.lent)

pub returns-clause-room : goal.returns-clause-room
returns-clause-room g c =
    let made = c.in_ok-make_room.ensures in
    on_ok_weaker c.lend.result
    (λ _. right_roomy g.B.Block.meaning c.args.self.now c.args.block.0 c.args.first c.args.count c.deref.result.now c.deref.ensures c.recall.ensures.valid c.recall.ensures.runs c.requires.right c.requires.flight
    c.make_room.new.stores made.stored made.handed made.keeps _ (length-set c.args.self.now.lent.items c.args.block.0 c.lend.new.lent) c.deref-2.result.now c.deref-2.ensures made.room)
    c.lend.ensures.lent

pub returns-clause-lent : goal.returns-clause-lent
returns-clause-lent g c =
    let stored = stored_in c.make_room.new.stores in
    let b = c.args.block.0 in
    let all = c.args.self.now.lent.items in
    let there : b < length all = (let places = c.requires.right.built.places in let inside = c.requires.flight.inside in omega arith) in
    on_ok_weaker c.lend.result
    (λ lent d. subst (λ (l : Lent). IsLent (net_of g.B.Block.meaning (arc_value c.args.self.now.graph)) stored b c.args.first c.args.count l.windows.items l.held.items l.outputs.items)
    (sym (get_or-set_same all b c.lend.new.lent d there))
    (subst (λ (x : Flowgraph g.row.B.Denot). IsLent (net_of g.B.Block.meaning x) stored b c.args.first c.args.count c.lend.new.lent.windows.items c.lend.new.lent.held.items c.lend.new.lent.outputs.items) c.deref-3.ensures lent))
    c.lend.ensures.lent

pub returns-clause-keeps : goal.returns-clause-keeps
returns-clause-keeps g c =
    let b = c.args.block.0 in
    let all = c.args.self.now.lent.items in
    let old = c.index_mut.result.now in
    let new = c.lend.new.lent in
    let there : b < length all = (let places = c.requires.right.built.places in let inside = c.requires.flight.inside in omega arith) in
    lasts (net_of g.B.Block.meaning (arc_value c.args.self.now.graph)) all b old new c.index_mut.ensures.value there
    (λ k next. subst (λ (x : Flowgraph g.row.B.Denot). Serves (net_of g.B.Block.meaning x) b k next old → Serves (net_of g.B.Block.meaning x) b k next new) c.deref-3.ensures (c.lend.ensures.keeps k next))
