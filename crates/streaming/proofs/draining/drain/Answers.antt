use Rattle.std.proofs.Common.{◌≡◌, ◌+◌, ◌<◌, get_or, length, map, set, arith, ap, refl, sym, ◌∙◌}
use Rattle.std.specs.Arc.{arc_value}
use Rattle.std.proofs.lemmas.List.{get_or-map, length-map}
use Rattle.machine_laws.specs.Sound.{fired}
use Rattle.items.specs.Items.{numbers_of}
use Rattle.items.specs.Tags.{tag_of}
use Rattle.flowgraph.specs.Flowgraph.{net_of}
use Rattle.plant_laws.specs.Stored.{Collected, nothing_collected, sink_at}
use Rattle.plant_storage.specs.Stores.{collected_of, state_of, stored_in}
use Rattle.streaming.proofs.Pieces.{collected_all, drained_at, drains, drains_with, is_piece, taken_few}
use Rattle.streaming.proofs.Releases.{keeps_sink}
use Rattle.streaming.proofs.draining.drain.Goals as goal

pub overflow_add-end : goal.overflow_add-end
overflow_add-end g c =
    let net = net_of g.B.Block.meaning (arc_value c.args.parts.now.graph) in
    let s = c.args.parts.now.stores in
    let st = state_of s.handed.items c.args.parts.now.firings in
    let b = c.args.sink.0 in
    let piece = c.in_ok-piece.piece in
    let is = is_piece net st b (get_or (drains s.sinks.items) b 0) c.args.max piece.from piece.held (numbers_of piece.items) (map tag_of piece.tags.items) piece.done c.in_ok-piece.ensures.answered in
    let few = taken_few (arc_value c.args.parts.now.graph).names net _ (rw (← c.deref.ensures) c.recall.ensures.runs) (rw (← c.deref.ensures) c.recall.ensures.valid) s c.args.parts.now.firings c.requires.keeps b is.inside is.keeper in
    let ends = is.ends in
    let long = c.len.ensures.value in
    omega (arith, few, ends, long)

pub index_mut-requires : goal.index_mut-requires
index_mut-requires g c =
    let net = net_of g.B.Block.meaning (arc_value c.args.parts.now.graph) in
    let s = c.args.parts.now.stores in
    let st = state_of s.handed.items c.args.parts.now.firings in
    let b = c.args.sink.0 in
    let piece = c.in_ok-piece.piece in
    let is = is_piece net st b (get_or (drains s.sinks.items) b 0) c.args.max piece.from piece.held (numbers_of piece.items) (map tag_of piece.tags.items) piece.done c.in_ok-piece.ensures.answered in
    let places = c.requires.keeps.stored.places.sinks in
    let long = length-map s.sinks.items collected_of in
    let in' = is.inside in
    omega (arith, places, long, in')

pub forget-requires-clause-kept : goal.forget-requires-clause-kept
forget-requires-clause-kept g c =
    let net = net_of g.B.Block.meaning (arc_value c.args.parts.now.graph) in
    let s = c.args.parts.now.stores in
    let st = state_of s.handed.items c.args.parts.now.firings in
    let b = c.args.sink.0 in
    let piece = c.in_ok-piece.piece in
    let is = is_piece net st b (get_or (drains s.sinks.items) b 0) c.args.max piece.from piece.held (numbers_of piece.items) (map tag_of piece.tags.items) piece.done c.in_ok-piece.ensures.answered in
    let there : b < length s.sinks.items = (let places = c.requires.keeps.stored.places.sinks in let long = length-map s.sinks.items collected_of in let in' = is.inside in omega (arith, places, long, in')) in
    let r = c.index_mut.result.now in
    let at = drained_at s b r there c.index_mut.ensures.value in
    let from : c.drained.result ≡ r.from = c.drained.ensures ∙ at in
    let sink_is : collected_of r ≡ sink_at (stored_in s) b = ap collected_of c.index_mut.ensures.value ∙ sym (get_or-map collected_of s.sinks.items b r nothing_collected there) in
    let all : length r.items ≡ fired st b = ap (λ (x : Collected). length x.items) sink_is
    ∙ collected_all net _ (rw (← c.deref.ensures) c.recall.ensures.runs) s c.args.parts.now.firings c.requires.keeps b (get_or (drains s.sinks.items) b 0) c.args.max is.inside is.keeper is.begins in
    omega (arith, from)

pub forget-requires-clause-within : goal.forget-requires-clause-within
forget-requires-clause-within g c =
    let net = net_of g.B.Block.meaning (arc_value c.args.parts.now.graph) in
    let s = c.args.parts.now.stores in
    let st = state_of s.handed.items c.args.parts.now.firings in
    let b = c.args.sink.0 in
    let piece = c.in_ok-piece.piece in
    let is = is_piece net st b (get_or (drains s.sinks.items) b 0) c.args.max piece.from piece.held (numbers_of piece.items) (map tag_of piece.tags.items) piece.done c.in_ok-piece.ensures.answered in
    let there : b < length s.sinks.items = (let places = c.requires.keeps.stored.places.sinks in let long = length-map s.sinks.items collected_of in let in' = is.inside in omega (arith, places, long, in')) in
    let r = c.index_mut.result.now in
    let at = drained_at s b r there c.index_mut.ensures.value in
    let from : c.drained.result ≡ r.from = c.drained.ensures ∙ at in
    let sink_is : collected_of r ≡ sink_at (stored_in s) b = ap collected_of c.index_mut.ensures.value ∙ sym (get_or-map collected_of s.sinks.items b r nothing_collected there) in
    let all : length r.items ≡ fired st b = ap (λ (x : Collected). length x.items) sink_is
    ∙ collected_all net _ (rw (← c.deref.ensures) c.recall.ensures.runs) s c.args.parts.now.firings c.requires.keeps b (get_or (drains s.sinks.items) b 0) c.args.max is.inside is.keeper is.begins in
    let ends = is.ends in
    let long = c.len.ensures.value in
    omega (arith, all, ends, long)

pub returns-clause-right : goal.returns-clause-right
returns-clause-right g c =
    let net = net_of g.B.Block.meaning (arc_value c.args.parts.now.graph) in
    let s = c.args.parts.now.stores in
    let st = state_of s.handed.items c.args.parts.now.firings in
    let b = c.args.sink.0 in
    let piece = c.in_ok-piece.piece in
    let is = is_piece net st b (get_or (drains s.sinks.items) b 0) c.args.max piece.from piece.held (numbers_of piece.items) (map tag_of piece.tags.items) piece.done c.in_ok-piece.ensures.answered in
    let there : b < length s.sinks.items = (let places = c.requires.keeps.stored.places.sinks in let long = length-map s.sinks.items collected_of in let in' = is.inside in omega (arith, places, long, in')) in
    let r = c.index_mut.result.now in
    let at = drained_at s b r there c.index_mut.ensures.value in
    let from : c.drained.result ≡ r.from = c.drained.ensures ∙ at in
    let sink_is : collected_of r ≡ sink_at (stored_in s) b = ap collected_of c.index_mut.ensures.value ∙ sym (get_or-map collected_of s.sinks.items b r nothing_collected there) in
    let all : length r.items ≡ fired st b = ap (λ (x : Collected). length x.items) sink_is
    ∙ collected_all net _ (rw (← c.deref.ensures) c.recall.ensures.runs) s c.args.parts.now.firings c.requires.keeps b (get_or (drains s.sinks.items) b 0) c.args.max is.inside is.keeper is.begins in
    let ends = is.ends in
    let long = c.len.ensures.value in
    record {
      keeps = keeps_sink net _ (rw (← c.deref.ensures) c.recall.ensures.runs) s _ c.args.parts.now.firings c.requires.keeps b (c.drained.result + c.len.result) is.inside (omega (arith, ends, long))
          r c.forget.new.self c.index_mut.ensures.value there c.forget.ensures.item c.forget.ensures.items c.forget.ensures.tags c.forget.ensures.from c.forget.ensures.spare refl refl refl refl refl;
      built = record { rates = c.requires.built.rates; capacities = c.requires.built.capacities; places = c.requires.built.places };
    }

pub returns-clause-sinks : goal.returns-clause-sinks
returns-clause-sinks g c =
    drains_with c.args.parts.now.stores.sinks.items c.args.sink.0 c.forget.new.self
    ∙ ap (set (drains c.args.parts.now.stores.sinks.items) c.args.sink.0) (c.forget.ensures.from ∙ ap (λ n. n + c.len.result) c.drained.ensures ∙ ap (λ n. get_or (drains c.args.parts.now.stores.sinks.items) c.args.sink.0 0 + n) c.len.ensures.value)
