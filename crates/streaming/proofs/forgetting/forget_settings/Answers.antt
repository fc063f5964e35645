use Rattle.std.proofs.Common.{◌≡◌, ◌<◌, length, arith, ap, refl, ◌∙◌}
use Rattle.std.specs.Arc.{arc_value}
use Rattle.std.proofs.lemmas.List.{length-map}
use Rattle.stream_model.specs.Network.{Progress, node_at, taken_by, progress_at}
use Rattle.stream_laws.specs.CanRun.{CanRun}
use Rattle.flowgraph.specs.Flowgraph.{net_of, node_of}
use Rattle.plant_storage.specs.Stores.{state_of}
use Rattle.plant.specs.Plant.{plant_of}
use Rattle.plant.proofs.Moves.{handed_long}
use Rattle.plant.proofs.Sets.{small}
use Rattle.streaming.proofs.Releases.{keeps_settings, settings_same, reads_set, reads_other, reads_from, froms_stay, unread_here, few_firings, few_taken}
use Rattle.streaming.proofs.Owning.{owners_stay}
use Rattle.streaming.proofs.forgetting.forget_settings.Goals as goal

pub taken-taken-requires-clause-firings : goal.taken-taken-requires-clause-firings
taken-taken-requires-clause-firings g c =
    let net = net_of g.B.Block.meaning (arc_value c.args.parts.now.graph) in
    let inside : c.args.block.0 < length net.nodes = omega (arith, c.requires.block, length-map (arc_value c.args.parts.now.graph).blocks (node_of g.B.Block.meaning)) in
    let st = state_of c.args.parts.now.stores.handed.items c.args.parts.now.firings in
    let few = small net _ (rw (← c.deref.ensures) c.recall.ensures.runs) _ _ c.requires.right.keeps (arc_value c.args.parts.now.graph).names (rw (← c.deref.ensures) c.recall.ensures.valid) c.args.block.0 inside in
    let is = ap (λ (p : Progress). p.firings) c.progress.ensures.value in
    rw (c.deref-2.ensures, is) (few_firings net (rw (← c.deref.ensures) c.recall.ensures.runs) st c.args.block.0 few)

pub taken-taken-requires-clause-taken : goal.taken-taken-requires-clause-taken
taken-taken-requires-clause-taken g c =
    let net = net_of g.B.Block.meaning (arc_value c.args.parts.now.graph) in
    let inside : c.args.block.0 < length net.nodes = omega (arith, c.requires.block, length-map (arc_value c.args.parts.now.graph).blocks (node_of g.B.Block.meaning)) in
    let st = state_of c.args.parts.now.stores.handed.items c.args.parts.now.firings in
    let few = small net _ (rw (← c.deref.ensures) c.recall.ensures.runs) _ _ c.requires.right.keeps (arc_value c.args.parts.now.graph).names (rw (← c.deref.ensures) c.recall.ensures.valid) c.args.block.0 inside in
    let is = ap (λ (p : Progress). p.firings) c.progress.ensures.value in
    let can : CanRun net = (rw (← c.deref.ensures) c.recall.ensures.runs) in
    rw (c.deref-2.ensures, is) (few_taken net can st c.args.block.0 few (can.fed c.args.block.0 inside c.requires.worker))

pub forget_settings-requires : goal.forget_settings-requires
forget_settings-requires g c =
    let net = net_of g.B.Block.meaning (arc_value c.args.parts.now.graph) in
    let inside : c.args.block.0 < length net.nodes = omega (arith, c.requires.block, length-map (arc_value c.args.parts.now.graph).blocks (node_of g.B.Block.meaning)) in
    let taken : c.taken-taken.result ≡ taken_by (node_at net c.args.block.0) 0 c.progress.result.firings = rw (← c.deref-2.ensures) c.taken-taken.ensures in
    let is : c.taken-taken.result ≡ taken_by (node_at net c.args.block.0) 0 (progress_at c.args.parts.now.firings c.args.block.0).firings =
    taken ∙ ap (λ (p : Progress). taken_by (node_at net c.args.block.0) 0 p.firings) c.progress.ensures.value in
    unread_here net _ (rw (← c.deref.ensures) c.recall.ensures.runs) _ _ c.requires.right.keeps c.args.block.0 c.taken-taken.result inside c.index_mut.result.now c.index_mut.ensures.value is

pub returns-clause-right : goal.returns-clause-right
returns-clause-right g c =
    let net = net_of g.B.Block.meaning (arc_value c.args.parts.now.graph) in
    let inside : c.args.block.0 < length net.nodes = omega (arith, c.requires.block, length-map (arc_value c.args.parts.now.graph).blocks (node_of g.B.Block.meaning)) in
    let taken : c.taken-taken.result ≡ taken_by (node_at net c.args.block.0) 0 c.progress.result.firings = rw (← c.deref-2.ensures) c.taken-taken.ensures in
    let is : c.taken-taken.result ≡ taken_by (node_at net c.args.block.0) 0 (progress_at c.args.parts.now.firings c.args.block.0).firings =
    taken ∙ ap (λ (p : Progress). taken_by (node_at net c.args.block.0) 0 p.firings) c.progress.ensures.value in
    record {
      keeps = keeps_settings net _ (rw (← c.deref.ensures) c.recall.ensures.runs) _ _ c.requires.right.keeps c.args.block.0 c.taken-taken.result inside c.index_mut.result.now c.index_mut.ensures.value _ c.forget_settings.new.self c.forget_settings.ensures
          (record { handed = refl; words = refl; buffers = refl; sinks = refl; brought = refl }) (omega (arith, is));
      built = record { rates = c.requires.right.built.rates; capacities = c.requires.right.built.capacities; places = c.requires.right.built.places };
    }

pub returns-clause-same : goal.returns-clause-same
returns-clause-same g c =
    ap (λ st. record (plant_of c.args.parts.now) { state = st })
    (settings_same c.args.parts.now.stores.handed.items c.args.parts.now.firings c.args.block.0 c.taken-taken.result c.index_mut.result.now c.forget_settings.new.self c.index_mut.ensures.value c.forget_settings.ensures)

pub returns-clause-tapes : goal.returns-clause-tapes
returns-clause-tapes g c =
    froms_stay c.args.parts.now.stores.handed.items c.args.block.0 c.taken-taken.result c.index_mut.result.now c.forget_settings.new.self c.index_mut.ensures.value c.forget_settings.ensures

pub returns-clause-own : goal.returns-clause-own
returns-clause-own g c = λ some.
    let net = net_of g.B.Block.meaning (arc_value c.args.parts.now.graph) in
    let inside : c.args.block.0 < length net.nodes = omega (arith, c.requires.block, length-map (arc_value c.args.parts.now.graph).blocks (node_of g.B.Block.meaning)) in
    let taken : c.taken-taken.result ≡ taken_by (node_at net c.args.block.0) 0 c.progress.result.firings = rw (← c.deref-2.ensures) c.taken-taken.ensures in
    let is : c.taken-taken.result ≡ taken_by (node_at net c.args.block.0) 0 (progress_at c.args.parts.now.firings c.args.block.0).firings =
    taken ∙ ap (λ (p : Progress). taken_by (node_at net c.args.block.0) 0 p.firings) c.progress.ensures.value in
    let long = handed_long net _ (rw (← c.deref.ensures) c.recall.ensures.runs) _ _ c.requires.right.keeps in
    reads_set c.args.parts.now.stores.handed.items c.args.block.0 c.forget_settings.new.self (rw long inside)
    ∙ reads_from net _ (rw (← c.deref.ensures) c.recall.ensures.runs) _ _ c.requires.right.keeps c.args.block.0 c.taken-taken.result inside c.index_mut.result.now c.index_mut.ensures.value c.forget_settings.new.self c.forget_settings.ensures some
    ∙ is

pub returns-clause-others : goal.returns-clause-others
returns-clause-others g c = λ a ne. reads_other c.args.parts.now.stores.handed.items c.args.block.0 a c.forget_settings.new.self ne

pub returns-clause-alone : goal.returns-clause-alone
returns-clause-alone g c = owners_stay c.args.parts.now.stores.handed.items c.args.block.0 c.index_mut.result.now c.forget_settings.new.self c.index_mut.ensures.value c.forget_settings.ensures.own
