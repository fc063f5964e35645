use Rattle.std.proofs.Common.{◌≡◌, ◌+◌, ◌++◌, length, map, min, set, get_or, arith, ap, refl, subst, sym, ◌∙◌}
use Rattle.std.specs.Prelude.{IsOk, slice_range, vec_len, vec_capacity}
use Rattle.std.specs.Arc.{arc_value}
use Rattle.stream_model.specs.Numbers.{types_agree}
use Rattle.stream_model.specs.Tags.{tags_within}
use Rattle.machine_laws.specs.Sound.{fired}
use Rattle.items.specs.Items.{type_of, numbers_of, spare_of}
use Rattle.items.specs.Tags.{tag_of}
use Rattle.flowgraph.specs.Flowgraph.{net_of}
use Rattle.recordings.specs.Recording.{RecordingState}
use Rattle.plant_storage.specs.Stores.{state_of}
use Rattle.streaming.specs.Streaming.{GoesOn, stream_into, tags_into}
use Rattle.streaming.specs.Draining.{HasRoom}
use Rattle.streaming.proofs.Pieces.{drains, drains_with}
use Rattle.streaming.proofs.Releases.{keeps_sink}
use Rattle.streaming.proofs.Extents as extent
use Rattle.streaming.proofs.Extents.{Drawn}
use Rattle.streaming.proofs.draining.drain_into.Given.{Over}
use Rattle.streaming.proofs.draining.drain_into.Goals.{After-index}
use Rattle.streaming.proofs.draining.drain_into.Goals as goal

-- what is known of the sink's recording, wherever it is borrowed
drawn : (g : Over) (c : After-index g) (r : RecordingState) → r ≡ get_or c.args.parts.now.stores.sinks.items c.args.sink.0 r →
    Drawn (net_of g.B.Block.meaning (arc_value c.args.parts.now.graph)) (state_of c.args.parts.now.stores.handed.items c.args.parts.now.firings) c.args.sink.0 c.in_ok-appended.field-0.appended.from c.args.max
    c.in_ok-appended.field-0.to c.args.parts.now.stores r
drawn g c r r_is =
    let net = net_of g.B.Block.meaning (arc_value c.args.parts.now.graph) in
    let s = c.args.parts.now.stores in
    let ps = c.args.parts.now.firings in
    let b = c.args.sink.0 in
    let x = c.in_ok-appended.field-0 in
    let at = c.in_ok-appended.ensures.at in
    let here = c.in_ok-appended.ensures.inside in
    let to_is : x.to ≡ min (x.appended.from + c.args.max) (fired (state_of s.handed.items ps) b) = c.in_ok-appended.ensures.to ∙ ap (λ n. min (x.appended.from + c.args.max) n) at.holds in
    extent.drawn net _ (rw (← c.deref.ensures) c.recall.ensures.runs) s ps c.requires.keeps b here.0 here.1 r r_is x.appended.from c.args.max x.to at.begins to_is

pub append-requires-clause-within : goal.append-requires-clause-within
append-requires-clause-within g c =
    let d = drawn g (goal.at.append-requires-clause-within g c).After-index c.index.result.now c.index.ensures in
    let ends = d.within in
    let all = d.long in
    omega (arith, ends, all)

pub forget-requires-clause-kept : goal.forget-requires-clause-kept
forget-requires-clause-kept g c =
    let d = drawn g (goal.at.forget-requires-clause-kept g c).After-index c.index_mut.result.now c.index_mut.ensures.value in
    let kept = d.kept_is in
    let ordered = d.rises in
    omega (arith, kept, ordered)

pub forget-requires-clause-within : goal.forget-requires-clause-within
forget-requires-clause-within g c =
    let d = drawn g (goal.at.forget-requires-clause-within g c).After-index c.index_mut.result.now c.index_mut.ensures.value in
    let ends = d.within in
    let all = d.long in
    omega (arith, ends, all)

pub returns-clause-right : goal.returns-clause-right
returns-clause-right g c =
    let d = drawn g (goal.at.returns-clause-right g c).After-index c.index_mut.result.now c.index_mut.ensures.value in
    let here = c.in_ok-appended.ensures.inside in
    let x = c.in_ok-appended.field-0 in
    let s = c.args.parts.now.stores in
    let b = c.args.sink.0 in
    let net = net_of g.B.Block.meaning (arc_value c.args.parts.now.graph) in
    record {
      keeps = keeps_sink net _ (rw (← c.deref.ensures) c.recall.ensures.runs) s _ c.args.parts.now.firings c.requires.keeps b x.to here.0 (d.within)
          c.index_mut.result.now c.forget.new.self c.index_mut.ensures.value (d.inside) c.forget.ensures.item c.forget.ensures.items c.forget.ensures.tags c.forget.ensures.from c.forget.ensures.spare
          refl refl refl refl refl;
      built = record { rates = c.requires.built.rates; capacities = c.requires.built.capacities; places = c.requires.built.places };
    }

pub returns-clause-refused : goal.returns-clause-refused
returns-clause-refused g c =
    let d = drawn g (goal.at.returns-clause-refused g c).After-index c.index.result.now c.index.ensures in
    let here = c.in_ok-appended.ensures.inside in
    let b = c.args.sink.0 in
    let net = net_of g.B.Block.meaning (arc_value c.args.parts.now.graph) in
    let typed = d.type_is in
    extent.refused_here net b (type_of c.args.items.now) here.0 here.1 _
    (λ other. let no = c.append.ensures.other (ap (types_agree (type_of c.args.items.now)) typed ∙ other) in let was = c.in_ok-append.was in absurd (cc))
    (λ _. tt)

pub returns-clause-items : goal.returns-clause-items
returns-clause-items g c =
    let d = drawn g (goal.at.returns-clause-items g c).After-index c.index.result.now c.index.ensures in
    let at = c.in_ok-appended.ensures.at in
    let x = c.in_ok-appended.field-0 in
    let s = c.args.parts.now.stores in
    let b = c.args.sink.0 in
    let net = net_of g.B.Block.meaning (arc_value c.args.parts.now.graph) in
    let st = state_of s.handed.items c.args.parts.now.firings in
    let xs = d.items_are in
    c.in_ok-append.ensures.items ∙ ap (λ ys. numbers_of c.args.items.now ++ ys) (xs ∙ ap (λ n. slice_range (stream_into net st b) x.appended.from (min (x.appended.from + c.args.max) n)) (sym at.holds))

pub returns-clause-tags : goal.returns-clause-tags
returns-clause-tags g c =
    let d = drawn g (goal.at.returns-clause-tags g c).After-index c.index.result.now c.index.ensures in
    let at = c.in_ok-appended.ensures.at in
    let x = c.in_ok-appended.field-0 in
    let s = c.args.parts.now.stores in
    let b = c.args.sink.0 in
    let net = net_of g.B.Block.meaning (arc_value c.args.parts.now.graph) in
    let st = state_of s.handed.items c.args.parts.now.firings in
    let ts = d.tags_are in
    c.in_ok-append.ensures.tags ∙ ap (λ us. map tag_of c.args.tags.now.items ++ us) (ts ∙ ap (λ n. tags_within x.appended.from (min (x.appended.from + c.args.max) n) (tags_into net st b)) (sym at.holds))

pub returns-clause-sinks : goal.returns-clause-sinks
returns-clause-sinks g c =
    let s = c.args.parts.now.stores in
    let b = c.args.sink.0 in
    drains_with s.sinks.items b c.forget.new.self ∙ ap (set (drains s.sinks.items) b) (c.forget.ensures.from ∙ c.in_ok-appended.ensures.to)

pub returns-clause-joins : goal.returns-clause-joins
returns-clause-joins g c =
    let d = drawn g (goal.at.returns-clause-joins g c).After-index c.index.result.now c.index.ensures in
    let at = c.in_ok-appended.ensures.at in
    let x = c.in_ok-appended.field-0 in
    let s = c.args.parts.now.stores in
    let b = c.args.sink.0 in
    let net = net_of g.B.Block.meaning (arc_value c.args.parts.now.graph) in
    let st = state_of s.handed.items c.args.parts.now.firings in
    subst (λ n. GoesOn net st b x.appended.from (slice_range (stream_into net st b) x.appended.from (min (x.appended.from + c.args.max) n)) (tags_within x.appended.from (min (x.appended.from + c.args.max) n) (tags_into net st b))) (sym at.holds)
    (d.goes)

pub returns-clause-whole : goal.returns-clause-whole
returns-clause-whole g c done =
    let d = drawn g (goal.at.returns-clause-whole g c).After-index c.index.result.now c.index.ensures in
    let at = c.in_ok-appended.ensures.at in
    d.all_taken (sym at.ends ∙ done)

pub returns-in_err-append-clause-succeeds : goal.returns-in_err-append-clause-succeeds
returns-in_err-append-clause-succeeds g c none room =
    let at = c.in_ok-appended.ensures.at in
    let x = c.in_ok-appended.field-0 in
    let s = c.args.parts.now.stores in
    let b = c.args.sink.0 in
    let net = net_of g.B.Block.meaning (arc_value c.args.parts.now.graph) in
    let st = state_of s.handed.items c.args.parts.now.firings in
    let there : HasRoom net st b x.appended.from c.args.max (spare_of c.args.items.now) (vec_len c.args.tags.now) (vec_capacity c.args.tags.now) =
    subst (λ n. HasRoom net st b n c.args.max (spare_of c.args.items.now) (vec_len c.args.tags.now) (vec_capacity c.args.tags.now)) (sym at.begins) room in
    let d = drawn g (goal.at.returns-in_err-append-clause-succeeds g c).After-index c.index.result.now c.index.ensures in
    let here = c.in_ok-appended.ensures.inside in
    let agree = ap (types_agree (type_of c.args.items.now)) d.type_is ∙ extent.agree_here net b (type_of c.args.items.now) here.0 here.1 none in
    let to = d.to_is in
    let few = there.items in
    let marks = there.tags in
    let shown = ap length d.tags_are in
    let ok = c.append.ensures.succeeds agree (omega (arith, few, to)) (omega (arith, marks, shown)) in
    let no = subst IsOk c.in_err-append.was ok in
    absurd (cc)
