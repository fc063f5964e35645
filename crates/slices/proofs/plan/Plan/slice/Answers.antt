use Rattle.std.proofs.Common.{◌≡◌, ◌-◌, ◌^◌, ◌≤◌, map, take, length, get_or, arith, ap, sym, ◌∙◌, subst, All}
use Rattle.std.proofs.Math.Seq.{take-length}
use Rattle.std.proofs.lemmas.List.Elements.{All-get_or}
use Rattle.slices.specs.declared.plan.Sink.{Sink}
use Rattle.slices.specs.Cuts.{part_of}
use Rattle.slices.proofs.Cutting.{no_sink, sinks_small, one_part, is_slice}
use Rattle.slices.proofs.plan.Plan.slice.Goals as goal

pub given_to-requires-clause-drop : goal.given_to-requires-clause-drop
given_to-requires-clause-drop g c =
    (All-get_or (λ (s : Sink). (s.drop ≤ 2 ^ 59) × (s.period ≤ 65536)) c.deref-sink-items.result.now c.loop-sink.sink-index no_sink c.loop-sink-test.true
    (subst (All (λ (s : Sink). (s.drop ≤ 2 ^ 59) × (s.period ≤ 65536))) (sym c.deref-sink-items.ensures.value) (sinks_small g.of.0 g.of.1 g.of.2 c.args.self.now c.requires.0))).0

pub given_to-requires-clause-period : goal.given_to-requires-clause-period
given_to-requires-clause-period g c =
    (All-get_or (λ (s : Sink). (s.drop ≤ 2 ^ 59) × (s.period ≤ 65536)) c.deref-sink-items.result.now c.loop-sink.sink-index no_sink c.loop-sink-test.true
    (subst (All (λ (s : Sink). (s.drop ≤ 2 ^ 59) × (s.period ≤ 65536))) (sym c.deref-sink-items.ensures.value) (sinks_small g.of.0 g.of.1 g.of.2 c.args.self.now c.requires.0))).1

pub loop-sink-preserved : goal.loop-sink-preserved
loop-sink-preserved g c =
    let long = ap length c.deref-sink-items.ensures.value in
    one_part c.args.begins c.saturating_sub-from.result c.loop-sink.sink-index c.args.self.now.sinks.items c.loop-sink.parts.items _ _ (let t = c.loop-sink-test.true in omega arith) c.loop-sink.invariant
    c.in_ok-push.ensures.items (c.given_to.ensures ∙ ap (λ ss. part_of c.args.begins c.saturating_sub-from.result (get_or ss c.loop-sink.sink-index no_sink)) c.deref-sink-items.ensures.value)

pub returns : goal.returns
returns g c =
    let long = ap length c.deref-sink-items.ensures.value in
    let last : c.loop-sink.sink-index ≡ length c.args.self.now.sinks.items = (let end = c.loop-sink-test.false in let most = c.loop-sink.auto.sink-index-end in omega arith) in
    is_slice g.of.0 g.of.1 g.of.2 c.args.self.now c.requires.0 c.args.begins _ c.requires.1.0 c.saturating_sub-from.ensures
    (c.loop-sink.invariant ∙ ap (λ n. map (part_of c.args.begins n) (take c.loop-sink.sink-index c.args.self.now.sinks.items)) c.saturating_sub-from.ensures
    ∙ ap (map (part_of c.args.begins (c.args.begins - c.args.self.now.overlap))) (ap (λ n. take n c.args.self.now.sinks.items) last ∙ take-length c.args.self.now.sinks.items))
