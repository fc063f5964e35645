use Rattle.std.proofs.Common.{ℕ, ◌<◌, length, refl, arith, ap, sym, ◌∙◌, subst, map}
use Rattle.std.proofs.lemmas.List.{length-map}
use Rattle.flowgraph.specs.declared.parts.Entry.{Entry}
use Rattle.flowgraph.specs.Flowgraph.{net_of, node_of}
use Rattle.slices.specs.declared.reach.Content.TheVariants as content
use Rattle.slices.specs.Firings.{looks_of}
use Rattle.slices.specs.Reaches.{reaches_of}
use Rattle.slices.specs.Plans.{CanWait, HasWaited, sink_at, keepers_of}
use Rattle.slices.proofs.Planning.{can_wait, is_least_plan, resumes, are_tagged, asked_for, known_of}
use Rattle.slices.proofs.plan.made.Goals as goal

pub longest_wait-more-requires : goal.longest_wait-more-requires
longest_wait-more-requires g c =
    subst (CanWait (net_of g.B.Block.meaning c.args.graph.now) c.args.firings.now c.args.first.now c.args.tagged.now) (sym c.deref.ensures.value)
    (can_wait (net_of g.B.Block.meaning c.args.graph.now) c.args.firings.now c.requires.can _ _ c.args.asks c.args.first.now c.args.tagged.now c.requires.first c.requires.tagged c.in_ok-past.past c.in_ok-past.ensures)

pub sinks-requires-clause-can : goal.sinks-requires-clause-can
sinks-requires-clause-can g c =
    subst (CanWait (net_of g.B.Block.meaning c.args.graph.now) c.args.firings.now c.args.first.now c.args.tagged.now) (sym c.deref-2.ensures.value)
    (can_wait (net_of g.B.Block.meaning c.args.graph.now) c.args.firings.now c.requires.can _ _ c.args.asks c.args.first.now c.args.tagged.now c.requires.first c.requires.tagged c.in_ok-past.past c.in_ok-past.ensures)

pub returns : goal.returns
returns g c =
    let meaning = g.B.Block.meaning in
    let looks = g.B.Forgets.looks_back in
    let net = net_of meaning c.args.graph.now in
    let ls = looks_of looks c.args.graph.now in
    let items = reaches_of meaning looks content.Items c.args.graph.now in
    let tags = reaches_of meaning looks content.Tags c.args.graph.now in
    let nodes = length-map c.args.graph.now.blocks (node_of meaning) in
    let many = length-map c.args.graph.now.blocks (λ (e : Entry _). looks e.block) in
    let forget = λ (b : ℕ) (lt : b < length net.nodes). c.requires.forget b (omega arith) in
    let known = λ (b : ℕ) (lt : b < length net.nodes). known_of meaning looks g.met.B.Forgets.places _ b (omega arith) in
    is_least_plan net c.args.firings.now c.requires.can items tags c.args.asks c.args.first.now c.args.tagged.now c.requires.first c.requires.tagged c.in_ok-past.past c.in_ok-past.ensures c.longest_wait-more.result
    (subst (λ there. HasWaited net c.args.firings.now c.args.first.now c.args.tagged.now there c.longest_wait-more.result) c.deref.ensures.value c.longest_wait-more.ensures)
    ls c.requires.forget (resumes net ls items tags c.requires.can.runs forget known _ c.requires.first.far c.args.firings.now)
    (asked_for net tags c.args.asks c.args.first.now c.args.tagged.now c.requires.tagged (are_tagged net ls items tags c.requires.can.runs forget known))
    _ refl refl c.in_ok-sources.ensures
    (c.in_ok-sinks.ensures ∙ ap (λ there. map (sink_at net c.args.firings.now c.args.first.now c.args.tagged.now there c.longest_wait-more.result) (keepers_of net)) c.deref-2.ensures.value)
