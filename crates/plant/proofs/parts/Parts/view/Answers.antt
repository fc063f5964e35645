use Rattle.std.proofs.Common.{◌≡◌, ◌<◌, drop, map, length, true, arith, ap, sym, ◌∙◌, Some}
use Rattle.std.proofs.lemmas.List.{get_or-map, length-map}
use Rattle.std.specs.Arc.{arc_value}
use Rattle.stream_model.specs.Network.{role_at, is_keeper}
use Rattle.stream_model.specs.Machine.{Piece}
use Rattle.items.specs.Items.{numbers_of}
use Rattle.items.specs.Tags.{tag_of}
use Rattle.flowgraph.specs.Flowgraph.{net_of}
use Rattle.plant_laws.specs.Stored.{Collected, nothing_collected}
use Rattle.plant_storage.specs.Stores.{collected_of, state_of}
use Rattle.plant.proofs.Shows.{read-absent, read-no_sink, view_shown, view_whole}
use Rattle.plant.proofs.parts.Parts.view.Goals as goal

pub returns-then-len-sink-clause-answered : goal.returns-then-len-sink-clause-answered
returns-then-len-sink-clause-answered g c =
    let net = net_of g.B.Block.meaning (arc_value c.args.self.now.graph) in
    let nodes : c.len.result ≡ length net.nodes = rw (← c.deref-2.ensures) c.len.ensures.nodes in
    ap Some (read-absent net (state_of c.args.self.now.stores.handed.items c.args.self.now.firings) c.args.sink.0 0 _ (omega (arith, nodes, c.if-len-sink.true)))

pub returns-then-not-is_keeper-clause-answered : goal.returns-then-not-is_keeper-clause-answered
returns-then-not-is_keeper-clause-answered g c =
    let net = net_of g.B.Block.meaning (arc_value c.args.self.now.graph) in
    let nodes : c.len.result ≡ length net.nodes = rw (← c.deref-2.ensures) c.len.ensures.nodes in
    let in' : c.args.sink.0 < length net.nodes = omega (arith, nodes, c.if-len-sink.false) in
    ap Some (read-no_sink net (state_of c.args.self.now.stores.handed.items c.args.self.now.firings) c.args.sink.0 0 _ in' (rw (← c.deref-3.ensures) (sym c.is_keeper.ensures ∙ c.if-not-is_keeper.true)))

pub returns-clause-answered : goal.returns-clause-answered
returns-clause-answered g c =
    let net = net_of g.B.Block.meaning (arc_value c.args.self.now.graph) in
    let nodes : c.len.result ≡ length net.nodes = rw (← c.deref-2.ensures) c.len.ensures.nodes in
    let in' : c.args.sink.0 < length net.nodes = omega (arith, nodes, c.if-len-sink.false) in
    let keeper : is_keeper (role_at net c.args.sink.0) ≡ true = rw (← c.deref-3.ensures) (sym c.is_keeper.ensures ∙ c.if-not-is_keeper.false) in
    let own = c.progress-own.result in
    let s = c.args.self.now.stores in
    let r = c.index-collected.result.now in
    let there : c.args.sink.0 < length s.sinks.items = omega (arith, in', c.requires.right.keeps.stored.places.sinks, sym (length-map s.sinks.items collected_of)) in
    let sink_is = get_or-map collected_of s.sinks.items c.args.sink.0 r nothing_collected there ∙ ap collected_of (sym c.index-collected.ensures) in
    let none : c.kept.result.first ≡ 0 = (let from = ap (λ (x : Collected). x.from) sink_is in let zero = c.requires.kept in let first = c.kept.ensures.first in omega (arith, from, zero, first)) in
    let whole : numbers_of c.kept.result.items.now ≡ r.items = c.kept.ensures.items ∙ ap (λ n. drop n r.items) none in
    ap Some (ap (λ xs. Piece 0 (length xs) xs (map tag_of c.tags.result.now) own.done) whole
    ∙ ap (λ ts. Piece 0 (length r.items) r.items ts own.done) c.tags.ensures
    ∙ view_shown net _ (rw (← c.deref.ensures) c.recall.ensures.runs) _ _ c.requires.right.keeps c.args.sink.0 in' keeper own c.progress-own.ensures.value (collected_of r) sink_is)

pub returns-clause-whole : goal.returns-clause-whole
returns-clause-whole g c =
    let net = net_of g.B.Block.meaning (arc_value c.args.self.now.graph) in
    let nodes : c.len.result ≡ length net.nodes = rw (← c.deref-2.ensures) c.len.ensures.nodes in
    let in' : c.args.sink.0 < length net.nodes = omega (arith, nodes, c.if-len-sink.false) in
    let keeper : is_keeper (role_at net c.args.sink.0) ≡ true = rw (← c.deref-3.ensures) (sym c.is_keeper.ensures ∙ c.if-not-is_keeper.false) in
    let s = c.args.self.now.stores in
    let r = c.index-collected.result.now in
    let there : c.args.sink.0 < length s.sinks.items = omega (arith, in', c.requires.right.keeps.stored.places.sinks, sym (length-map s.sinks.items collected_of)) in
    let sink_is = get_or-map collected_of s.sinks.items c.args.sink.0 r nothing_collected there ∙ ap collected_of (sym c.index-collected.ensures) in
    view_whole net _ (rw (← c.deref.ensures) c.recall.ensures.runs) _ _ c.requires.right.keeps c.args.sink.0 in' keeper c.progress-own.result c.progress-own.ensures.value (collected_of r) sink_is
