use Rattle.std.proofs.Common.{◌≡◌, ◌<◌, ◌+◌, ◌-◌, min, map, length, true, arith, ap, sym, ◌∙◌}
use Rattle.std.proofs.lemmas.List.{get_or-map, length-map}
use Rattle.std.proofs.lemmas.Result.{err_from_is_err_and}
use Rattle.std.specs.Prelude.{slice_range}
use Rattle.std.specs.Arc.{arc_value}
use Rattle.stream_model.specs.Network.{Progress, role_at, is_keeper}
use Rattle.items.specs.Items.{numbers_of}
use Rattle.items.specs.Tags.{tag_of}
use Rattle.flowgraph.specs.Flowgraph.{net_of}
use Rattle.stream_model.specs.Tags.{tags_within}
use Rattle.plant_laws.specs.Stored.{Collected, nothing_collected, sink_at}
use Rattle.plant_storage.specs.Stores.{collected_of, state_of, stored_in}
use Rattle.plant.proofs.Shows.{read-absent, read-no_sink, read-past, sink_holds, read_takes, shown, shown_whole}
use Rattle.plant.proofs.parts.Parts.read.Given.{Over}
use Rattle.plant.proofs.parts.Parts.read.Goals.{After-index-collected}
use Rattle.plant.proofs.parts.Parts.read.Goals as goal

pub returns-then-len-sink-clause-answered : goal.returns-then-len-sink-clause-answered
returns-then-len-sink-clause-answered g c =
    let net = net_of g.B.Block.meaning (arc_value c.args.self.now.graph) in
    let nodes : c.len.result ≡ length net.nodes = rw (← c.deref-2.ensures) c.len.ensures.nodes in
    read-absent net (state_of c.args.self.now.stores.handed.items c.args.self.now.firings) c.args.sink.0 c.args.from c.args.max (omega (arith, nodes, c.if-len-sink.true))

pub returns-then-not-is_keeper-clause-answered : goal.returns-then-not-is_keeper-clause-answered
returns-then-not-is_keeper-clause-answered g c =
    let net = net_of g.B.Block.meaning (arc_value c.args.self.now.graph) in
    let nodes : c.len.result ≡ length net.nodes = rw (← c.deref-2.ensures) c.len.ensures.nodes in
    let in' : c.args.sink.0 < length net.nodes = omega (arith, nodes, c.if-len-sink.false) in
    read-no_sink net (state_of c.args.self.now.stores.handed.items c.args.self.now.firings) c.args.sink.0 c.args.from c.args.max in' (rw (← c.deref-3.ensures) (sym c.is_keeper.ensures ∙ c.if-not-is_keeper.true))

pub returns-then-own-from-clause-answered : goal.returns-then-own-from-clause-answered
returns-then-own-from-clause-answered g c =
    let net = net_of g.B.Block.meaning (arc_value c.args.self.now.graph) in
    let nodes : c.len.result ≡ length net.nodes = rw (← c.deref-2.ensures) c.len.ensures.nodes in
    let in' : c.args.sink.0 < length net.nodes = omega (arith, nodes, c.if-len-sink.false) in
    let keeper : is_keeper (role_at net c.args.sink.0) ≡ true = rw (← c.deref-3.ensures) (sym c.is_keeper.ensures ∙ c.if-not-is_keeper.false) in
    let fired = ap (λ (p : Progress). p.firings) c.progress-own.ensures.value in
    read-past net (state_of c.args.self.now.stores.handed.items c.args.self.now.firings) c.args.sink.0 c.args.from c.args.max in' keeper (omega (arith, fired, c.if-own-from.true))

-- the sink is there and keeps its items, and it is what the plant stores of it
record Here (g : Over) (c : After-index-collected g) : Type 0 where
  inside : c.args.sink.0 < length (net_of g.B.Block.meaning (arc_value c.args.self.now.graph)).nodes
  keeper : is_keeper (role_at (net_of g.B.Block.meaning (arc_value c.args.self.now.graph)) c.args.sink.0) ≡ true
  sink : sink_at (stored_in c.args.self.now.stores) c.args.sink.0 ≡ collected_of c.index-collected.result.now
  to : c.args.from + c.min.result ≡ c.args.from + min c.args.max (c.progress-own.result.firings - c.args.from)

here : (g : Over) (c : After-index-collected g) → Here g c
here g c =
    let net = net_of g.B.Block.meaning (arc_value c.args.self.now.graph) in
    let s = c.args.self.now.stores in
    let nodes : c.len.result ≡ length net.nodes = rw (← c.deref-2.ensures) c.len.ensures.nodes in
    let in' : c.args.sink.0 < length net.nodes = omega (arith, nodes, c.if-len-sink.false) in
    let there : c.args.sink.0 < length s.sinks.items = omega (arith, in', c.requires.right.keeps.stored.places.sinks, sym (length-map s.sinks.items collected_of)) in
    record {
      inside = in';
      keeper = rw (← c.deref-3.ensures) (sym c.is_keeper.ensures ∙ c.if-not-is_keeper.false);
      sink = get_or-map collected_of s.sinks.items c.args.sink.0 c.index-collected.result.now nothing_collected there ∙ ap collected_of (sym c.index-collected.ensures);
      to = ap (λ n. c.args.from + n) c.min.ensures;
    }

pub slice-requires-clause-within : goal.slice-requires-clause-within
slice-requires-clause-within g c =
    let net = net_of g.B.Block.meaning (arc_value c.args.self.now.graph) in
    let at = here g (goal.at.slice-requires-clause-within g c).After-index-collected in
    let long = ap (λ (x : Collected). length x.items) at.sink in
    let holds = sink_holds net _ (rw (← c.deref.ensures) c.recall.ensures.runs) _ _ c.requires.right.keeps c.args.sink.0 c.args.from c.args.max at.inside at.keeper c.progress-own.result c.progress-own.ensures.value c.if-own-from.false in
    omega (arith, holds, long, at.to, c.if-own-from.false)

pub returns-in_err-slice-clause-answered : goal.returns-in_err-slice-clause-answered
returns-in_err-slice-clause-answered g c =
    let net = net_of g.B.Block.meaning (arc_value c.args.self.now.graph) in
    let at = here g (goal.at.returns-in_err-slice-clause-answered g c).After-index-collected in
    let p = err_from_is_err_and c.from_residual.result c.from_residual.ensures.1 in
    rw (p.1, p.2) (read_takes net _ (rw (← c.deref.ensures) c.recall.ensures.runs) _ _ c.requires.right.keeps c.args.sink.0 c.args.from c.args.max at.inside at.keeper c.progress-own.result c.progress-own.ensures.value c.if-own-from.false)

pub returns-in_err-from_slice-clause-answered : goal.returns-in_err-from_slice-clause-answered
returns-in_err-from_slice-clause-answered g c =
    let net = net_of g.B.Block.meaning (arc_value c.args.self.now.graph) in
    let at = here g (goal.at.returns-in_err-from_slice-clause-answered g c).After-index-collected in
    let p = err_from_is_err_and c.from_residual-in_err-from_slice.result c.from_residual-in_err-from_slice.ensures.1 in
    rw (p.1, p.2) (read_takes net _ (rw (← c.deref.ensures) c.recall.ensures.runs) _ _ c.requires.right.keeps c.args.sink.0 c.args.from c.args.max at.inside at.keeper c.progress-own.result c.progress-own.ensures.value c.if-own-from.false)

pub returns-clause-answered : goal.returns-clause-answered
returns-clause-answered g c =
    let net = net_of g.B.Block.meaning (arc_value c.args.self.now.graph) in
    let at = here g (goal.at.returns-clause-answered g c).After-index-collected in
    let to = c.args.from + c.min.result in
    shown net _ (rw (← c.deref.ensures) c.recall.ensures.runs) _ _ c.requires.right.keeps c.args.sink.0 c.args.from c.args.max at.inside at.keeper c.progress-own.result c.progress-own.ensures.value c.if-own-from.false to
    (numbers_of c.in_ok-slice.field-0) (map tag_of c.in_ok-from_slice.field-0.items) at.to
    (c.in_ok-slice.ensures.items ∙ ap (λ (x : Collected). slice_range x.items c.args.from to) (sym at.sink))
    (ap (map tag_of) c.in_ok-from_slice.ensures.items ∙ c.tags.ensures ∙ ap (λ (x : Collected). tags_within c.args.from to x.tags) (sym at.sink))

pub returns-clause-whole : goal.returns-clause-whole
returns-clause-whole g c =
    let net = net_of g.B.Block.meaning (arc_value c.args.self.now.graph) in
    let at = here g (goal.at.returns-clause-whole g c).After-index-collected in
    let to = c.args.from + c.min.result in
    shown_whole net _ (rw (← c.deref.ensures) c.recall.ensures.runs) _ _ c.requires.right.keeps c.args.sink.0 c.args.from c.args.max at.inside at.keeper c.progress-own.result c.progress-own.ensures.value c.if-own-from.false to
    (numbers_of c.in_ok-slice.field-0) (map tag_of c.in_ok-from_slice.field-0.items) at.to
    (c.in_ok-slice.ensures.items ∙ ap (λ (x : Collected). slice_range x.items c.args.from to) (sym at.sink))
    (ap (map tag_of) c.in_ok-from_slice.ensures.items ∙ c.tags.ensures ∙ ap (λ (x : Collected). tags_within c.args.from to x.tags) (sym at.sink))
