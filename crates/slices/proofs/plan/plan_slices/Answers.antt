use Rattle.std.specs.Prelude.{MatchOption}
use Rattle.std.proofs.Common.{sym, subst, inr}
use Rattle.flowgraph.specs.Flowgraph.{net_of}
use Rattle.graph_laws.proofs.Answering.{answers_are_right}
use Rattle.rates.proofs.Valid.{has_rates}
use Rattle.slices.specs.Counts.{CanCut}
use Rattle.slices.specs.declared.reach.Content.TheVariants as content
use Rattle.slices.specs.Firings.{looks_of, AreFirst, AreLate}
use Rattle.slices.specs.Plans.{IsLeastPlan}
use Rattle.slices.specs.Reaches.{reaches_of}
use Rattle.slices.proofs.plan.plan_slices.Goals as goal
use Rattle.slices.proofs.plan.plan_slices.Goals.{in-Items+in_ok-plan-in-Items, in-ItemsAndTags+in_ok-tagged-in-ItemsAndTags+in-Some-3+in_ok-plan-in-Some-3}

pub made-requires-clause-can : goal.made-requires-clause-can
made-requires-clause-can g c =
    let net = net_of g.B.Block.meaning c.args.graph.now in
    let right = ((answers_are_right c.args.graph.now.names net c.recall.ensures.valid c.recall.ensures.lawful).balanced c.args.rates.now.firings.items).0 (sym c.requires.answer) in
    subst (CanCut net) (sym c.firings.ensures)
    (record {
      runs = c.recall.ensures.runs;
      rates = has_rates c.args.graph.now.names net c.recall.ensures.valid c.recall.ensures.runs c.recall.ensures.counts;
      balanced = right.0.balanced;
      counts = right.1;
      sizes = right.2;
    })

pub made-requires-in-Some-3-clause-can : goal.made-requires-in-Some-3-clause-can
made-requires-in-Some-3-clause-can g c =
    let net = net_of g.B.Block.meaning c.args.graph.now in
    let right = ((answers_are_right c.args.graph.now.names net c.recall.ensures.valid c.recall.ensures.lawful).balanced c.args.rates.now.firings.items).0 (sym c.requires.answer) in
    subst (CanCut net) (sym c.firings-in-Some-3.ensures)
    (record {
      runs = c.recall.ensures.runs;
      rates = has_rates c.args.graph.now.names net c.recall.ensures.valid c.recall.ensures.runs c.recall.ensures.counts;
      balanced = right.0.balanced;
      counts = right.1;
      sizes = right.2;
    })

pub returns-in-None : goal.returns-in-None
returns-in-None g c =
    let net = net_of g.B.Block.meaning c.args.graph.now in
    let tags = reaches_of g.B.Block.meaning g.B.Forgets.looks_back content.Tags c.args.graph.now in
    inr (c.in-ItemsAndTags.is, subst (λ found. MatchOption found (AreLate net tags) (λ first. AreFirst net tags first.items)) c.in-None.is c.in_ok-tagged-in-ItemsAndTags.ensures)

pub returns : goal.returns
returns g c =
    let net = net_of g.B.Block.meaning c.args.graph.now in
    let ls = looks_of g.B.Forgets.looks_back c.args.graph.now in
    let items = reaches_of g.B.Block.meaning g.B.Forgets.looks_back content.Items c.args.graph.now in
    let tags = reaches_of g.B.Block.meaning g.B.Forgets.looks_back content.Tags c.args.graph.now in
    elim c.match-asks.branch [
      | in-Items+in_ok-plan-in-Items w ↦ subst (λ q. IsLeastPlan net q ls items tags c.args.asks c.match-asks.plan) w.firings.ensures
          (subst (IsLeastPlan net w.firings.result.now ls items tags c.args.asks) (sym w.plan-is) w.in_ok-plan-in-Items.ensures)
      | in-ItemsAndTags+in_ok-tagged-in-ItemsAndTags+in-Some-3+in_ok-plan-in-Some-3 w ↦ subst (λ q. IsLeastPlan net q ls items tags c.args.asks c.match-asks.plan) w.firings-in-Some-3.ensures
          (subst (IsLeastPlan net w.firings-in-Some-3.result.now ls items tags c.args.asks) (sym w.plan-is) w.in_ok-plan-in-Some-3.ensures)
    ]
