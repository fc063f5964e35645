use Rattle.std.proofs.Common.{◌≡◌, ◌+◌, min, set, arith, ap, refl, sym, ◌∙◌}
use Rattle.std.specs.Arc.{arc_value}
use Rattle.machine_laws.specs.Sound.{fired}
use Rattle.flowgraph.specs.Flowgraph.{net_of}
use Rattle.plant_storage.specs.Stores.{state_of}
use Rattle.streaming.proofs.Pieces.{drains, drains_with}
use Rattle.streaming.proofs.Releases.{keeps_sink}
use Rattle.streaming.proofs.Extents as extent
use Rattle.streaming.proofs.Extents.{Drawn}
use Rattle.streaming.proofs.draining.consume.Given.{Over}
use Rattle.streaming.proofs.draining.consume.Goals.{After-index_mut}
use Rattle.streaming.proofs.draining.consume.Goals as goal

-- what is known of the sink's recording
drawn : (g : Over) (c : After-index_mut g) →
    Drawn (net_of g.B.Block.meaning (arc_value c.args.parts.now.graph)) (state_of c.args.parts.now.stores.handed.items c.args.parts.now.firings) c.args.sink.0 c.in_ok-appended.field-0.appended.from c.args.max
    c.in_ok-appended.field-0.to c.args.parts.now.stores c.index_mut.result.now
drawn g c =
    let net = net_of g.B.Block.meaning (arc_value c.args.parts.now.graph) in
    let s = c.args.parts.now.stores in
    let ps = c.args.parts.now.firings in
    let b = c.args.sink.0 in
    let x = c.in_ok-appended.field-0 in
    let at = c.in_ok-appended.ensures.at in
    let here = c.in_ok-appended.ensures.inside in
    let to_is : x.to ≡ min (x.appended.from + c.args.max) (fired (state_of s.handed.items ps) b) = c.in_ok-appended.ensures.to ∙ ap (λ n. min (x.appended.from + c.args.max) n) at.holds in
    extent.drawn net _ (rw (← c.deref.ensures) c.recall.ensures.runs) s ps c.requires.keeps b here.0 here.1 c.index_mut.result.now c.index_mut.ensures.value x.appended.from c.args.max x.to at.begins to_is

pub forget-requires-clause-kept : goal.forget-requires-clause-kept
forget-requires-clause-kept g c =
    let d = drawn g (goal.at.forget-requires-clause-kept g c).After-index_mut in
    let kept = d.kept_is in
    let ordered = d.rises in
    omega (arith, kept, ordered)

pub forget-requires-clause-within : goal.forget-requires-clause-within
forget-requires-clause-within g c =
    let d = drawn g (goal.at.forget-requires-clause-within g c).After-index_mut in
    let ends = d.within in
    let all = d.long in
    omega (arith, ends, all)

pub returns-clause-right : goal.returns-clause-right
returns-clause-right g c =
    let d = drawn g (goal.at.returns-clause-right g c).After-index_mut in
    let here = c.in_ok-appended.ensures.inside in
    let x = c.in_ok-appended.field-0 in
    let s = c.args.parts.now.stores in
    let b = c.args.sink.0 in
    let net = net_of g.B.Block.meaning (arc_value c.args.parts.now.graph) in
    record {
      keeps = keeps_sink net _ (rw (← c.deref.ensures) c.recall.ensures.runs) s _ c.args.parts.now.firings c.requires.keeps b x.to here.0 (d.within)
          c.index_mut.result.now c.forget.new.self c.index_mut.ensures.value (d.inside) c.forget.ensures.item c.forget.ensures.items c.forget.ensures.tags c.forget.ensures.from c.forget.ensures.spare
          refl refl refl refl refl;
      built = record { rates = c.requires.built.rates; capacities = c.requires.built.capacities; places = c.requires.built.places };
    }

pub returns-clause-sinks : goal.returns-clause-sinks
returns-clause-sinks g c =
    let s = c.args.parts.now.stores in
    let b = c.args.sink.0 in
    drains_with s.sinks.items b c.forget.new.self ∙ ap (set (drains s.sinks.items) b) (c.forget.ensures.from ∙ c.in_ok-appended.ensures.to)

pub returns-clause-whole : goal.returns-clause-whole
returns-clause-whole g c done =
    let d = drawn g (goal.at.returns-clause-whole g c).After-index_mut in
    let at = c.in_ok-appended.ensures.at in
    d.all_taken (sym at.ends ∙ done)
