use Rattle.std.proofs.Common.{◌≡◌, ◌∙◌, List, refl, ap, sym, subst, arith, length, map}
use Rattle.std.specs.Prelude.{OnOk}
use Rattle.std.specs.List.{All}
use Rattle.std.proofs.lemmas.List.{with_items_is}
use Rattle.items.specs.declared.stream_items.Items.{Items}
use Rattle.items.specs.Items.{type_of, numbers_of}
use Rattle.plant_storage.specs.Lending.{AreWindows}
use Rattle.std.proofs.lemmas.Result.{on_ok_weaker}
use Rattle.std.proofs.lemmas.List.{length-map}
use Rattle.stream_model.specs.Network.{node_at, writers_of}
use Rattle.flowgraph.specs.Flowgraph.{net_of, node_of}
use Rattle.plant_storage.specs.Stores.{stored_in, tape_of}
use Rattle.plant_transfers.specs.declared.firing_range.FiringRange.{FiringRange}
use Rattle.plant_transfers.specs.Places.{KeepRoom, windows_of}
use Rattle.plant_transfers.proofs.Reading.{can_read_here}
use Rattle.plant_transfers.proofs.WindowLists.{windows_read}
use Rattle.plant_transfers.proofs.Wires.{as_many_inputs}
use Rattle.plant_transfers.proofs.windows.lend_windows.Goals as goal

pub returns-clause-windows : goal.returns-clause-windows
returns-clause-windows g c =
    let net = net_of g.B.Block.meaning c.args.graph.now in
    let read = c.read_inputs.new.windows in
    let back = with_items_is c.resize-2.new.places read (c.read_inputs.auto.windows ∙ c.deref_mut.ensures.len) in
    let table = as_many_inputs net c.args.block.0 c.inputs.result.now c.inputs.ensures.writers in
    let many : length read ≡ length (writers_of net c.args.block.0) = omega (arith, table, c.read_inputs.auto.windows, c.deref_mut.ensures.len, c.resize-2.new.places.ok.0, c.in_ok-resize-2.ensures) in
    subst (λ (ws : List Items). OnOk c.read_inputs.result (AreWindows net (stored_in c.args.stores.now) c.args.block.0 c.args.first c.args.count (map numbers_of ws))) (sym back)
    (on_ok_weaker c.read_inputs.result
    (windows_read net c.args.stores.now c.args.block c.args.first c.args.count c.deref-2.result.now c.new-firings.result c.deref-2.ensures.value c.new-firings.ensures read (sym c.is_source.ensures ∙ c.if-is_source.false) many) c.read_inputs.ensures.read)

pub returns-clause-types : goal.returns-clause-types
returns-clause-types g c =
    let net = net_of g.B.Block.meaning c.args.graph.now in
    let read = c.read_inputs.new.windows in
    let back = with_items_is c.resize-2.new.places read (c.read_inputs.auto.windows ∙ c.deref_mut.ensures.len) in
    subst (λ (ws : List Items). OnOk c.read_inputs.result (All (λ w. type_of w ≡ (node_at net c.args.block.0).meaning.inputs.item) ws)) (sym back)
    (on_ok_weaker c.read_inputs.result (λ seen p d less. (seen p d less).type ∙ ap (λ (f : FiringRange). (node_at net f.block.0).meaning.inputs.item) c.new-firings.ensures) c.read_inputs.ensures.read)

pub returns-clause-keeps : goal.returns-clause-keeps
returns-clause-keeps g c are =
    let net = net_of g.B.Block.meaning c.args.graph.now in
    let read = c.read_inputs.new.windows in
    let back = with_items_is c.resize-2.new.places read (c.read_inputs.auto.windows ∙ c.deref_mut.ensures.len) in
    let table = as_many_inputs net c.args.block.0 c.inputs.result.now c.inputs.ensures.writers in
    let many : windows_of net c.args.block.0 ≡ length (writers_of net c.args.block.0) =
    (let none = sym c.is_source.ensures ∙ c.if-is_source.false in rw (windows_of, none) refl) in
    let same = c.deref_mut.ensures.value ∙ c.resize-2.ensures.same (are.many ∙ many ∙ sym table) in
    subst (KeepRoom c.args.windows.now.items) (sym back)
    (subst (λ ws. KeepRoom ws read) same
    (c.read_inputs.ensures.keeps (subst (All (λ w. type_of w ≡ (node_at net c.new-firings.result.block.0).meaning.inputs.item)) (sym same)
    (λ p d less. are.types p d less ∙ sym (ap (λ (f : FiringRange). (node_at net f.block.0).meaning.inputs.item) c.new-firings.ensures)))))

pub read_inputs-requires-clause-reads : goal.read_inputs-requires-clause-reads
read_inputs-requires-clause-reads g c =
    can_read_here (net_of g.B.Block.meaning c.args.graph.now) c.args.stores.now c.args.block c.args.first c.args.count c.requires c.deref-2.result.now c.deref-2.ensures.value c.new-firings.result c.new-firings.ensures

pub input_type-item-requires : goal.input_type-item-requires
input_type-item-requires g c = omega (arith, c.requires.inside, length-map c.args.graph.now.blocks (node_of g.B.Block.meaning))

pub is_source-requires : goal.is_source-requires
is_source-requires g c = omega (arith, c.requires.inside, length-map c.args.graph.now.blocks (node_of g.B.Block.meaning))

pub inputs-requires : goal.inputs-requires
inputs-requires g c = omega (arith, c.requires.inside, length-map c.args.graph.now.blocks (node_of g.B.Block.meaning))

pub index-requires : goal.index-requires
index-requires g c = omega (arith, c.requires.inside, c.requires.places.tapes, length-map c.args.stores.now.handed.items tape_of)
