use Rattle.std.proofs.Common.{◌<◌, length, arith, ap, refl, ◌∙◌}
use Rattle.std.specs.Arc.{arc_value}
use Rattle.std.proofs.lemmas.List.{length-map}
use Rattle.stream_model.specs.Network.{Progress}
use Rattle.flowgraph.specs.Flowgraph.{net_of, node_of}
use Rattle.plant_laws.specs.Stored as stored
use Rattle.plant.specs.Plant.{plant_of}
use Rattle.plant.proofs.Moves.{handed_long}
use Rattle.streaming.proofs.Releases.{keeps_tape, tape_same, froms_set, froms_other, reads_stay}
use Rattle.streaming.proofs.Owning.{alone_here, owners_stay}
use Rattle.streaming.proofs.forgetting.forget_tape.Goals as goal

pub returns-clause-right : goal.returns-clause-right
returns-clause-right g c =
    let net = net_of g.B.Block.meaning (arc_value c.args.parts.now.graph) in
    let inside : c.args.block.0 < length net.nodes = omega (arith, c.requires.block, length-map (arc_value c.args.parts.now.graph).blocks (node_of g.B.Block.meaning)) in
    let taken = ap (λ (p : Progress). p.firings) c.progress-taken.ensures.value in
    record {
      keeps = keeps_tape net _ (rw (← c.deref.ensures) c.recall.ensures.runs) _ _ _ c.requires.right.keeps c.args.block.0 c.progress-taken.result.firings inside (omega (arith, taken)) c.index_mut.result.now c.forget.new.self c.index_mut.ensures.value c.forget.ensures
          (record { handed = refl; words = refl; buffers = refl; sinks = refl; brought = refl });
      built = record { rates = c.requires.right.built.rates; capacities = c.requires.right.built.capacities; places = c.requires.right.built.places };
    }

pub returns-clause-same : goal.returns-clause-same
returns-clause-same g c =
    ap (λ st. record (plant_of c.args.parts.now) { state = st })
    (tape_same c.args.parts.now.stores.handed.items c.args.parts.now.firings c.args.block.0 c.progress-taken.result.firings c.index_mut.result.now c.forget.new.self c.index_mut.ensures.value c.forget.ensures)

pub returns-clause-own : goal.returns-clause-own
returns-clause-own g c =
    let net = net_of g.B.Block.meaning (arc_value c.args.parts.now.graph) in
    let inside : c.args.block.0 < length net.nodes = omega (arith, c.requires.block, length-map (arc_value c.args.parts.now.graph).blocks (node_of g.B.Block.meaning)) in
    let long = handed_long net _ (rw (← c.deref.ensures) c.recall.ensures.runs) _ _ c.requires.right.keeps in
    froms_set c.args.parts.now.stores.handed.items c.args.block.0 c.forget.new.self (rw long inside)
    ∙ ap (λ (t : stored.Tape). t.from) c.forget.ensures.tape ∙ ap (λ (p : Progress). p.firings) c.progress-taken.ensures.value

pub returns-clause-others : goal.returns-clause-others
returns-clause-others g c = λ a ne. froms_other c.args.parts.now.stores.handed.items c.args.block.0 a c.forget.new.self ne

pub returns-clause-settings : goal.returns-clause-settings
returns-clause-settings g c =
    reads_stay c.args.parts.now.stores.handed.items c.args.block.0 c.progress-taken.result.firings c.index_mut.result.now c.forget.new.self c.index_mut.ensures.value c.forget.ensures.timeline

pub forget-requires-clause-own : goal.forget-requires-clause-own
forget-requires-clause-own g c =
    let net = net_of g.B.Block.meaning (arc_value c.args.parts.now.graph) in
    let inside : c.args.block.0 < length net.nodes = omega (arith, c.requires.block, length-map (arc_value c.args.parts.now.graph).blocks (node_of g.B.Block.meaning)) in
    let long = handed_long net _ (rw (← c.deref.ensures) c.recall.ensures.runs) _ _ c.requires.right.keeps in
    alone_here c.args.parts.now.stores.handed.items c.requires.own c.args.block.0 c.index_mut.result.now c.index_mut.ensures.value (rw long inside)

pub returns-clause-alone : goal.returns-clause-alone
returns-clause-alone g c = owners_stay c.args.parts.now.stores.handed.items c.args.block.0 c.index_mut.result.now c.forget.new.self c.index_mut.ensures.value c.forget.ensures.own
