use Rattle.std.proofs.Common.{◌≡◌, ◌<◌, arith, length, sym, ◌∙◌, subst}
use Rattle.flowgraph.specs.Flowgraph.{net_of}
use Rattle.machine_laws.proofs.Inputs.{below-from}
use Rattle.firing_rules.specs.Decision.{rests}
use Rattle.firing_rules.specs.Situation.{Seen, net_seen, state_seen}
use Rattle.firing_rules.specs.State.{lent, rows_of}
use Rattle.firing_rules.proofs.Running as runs
use Rattle.firing_rules.proofs.firings.Firings.quiet.Goals as goal

pub returns-then-not-idle : goal.returns-then-not-idle
returns-then-not-idle g c =
    λ hs h.
    runs.busy_is (net_of g.B.Block.meaning c.args.graph.now) (rows_of (λ row. row.items) c.args.capacities.now) (g.T.Tapes.tapes c.args.tapes.now) c.args.self.now hs h (sym (c.idle.ensures hs) ∙ c.if-not-idle.true)

pub returns-then-not-rests : goal.returns-then-not-rests
returns-then-not-rests g c =
    let net = net_of g.B.Block.meaning c.args.graph.now in
    let caps = rows_of (λ row. row.items) c.args.capacities.now in
    let tapes = g.T.Tapes.tapes c.args.tapes.now in
    let here = subst (λ (s : Seen _). c.rests.result ≡ rests (net_seen g.B.Block.meaning s) s.capacities (state_seen s) s.block) c.of.ensures c.rests.ensures in
    λ hs h.
    runs.not_below (rests net caps (lent tapes c.args.self.now)) (length net.nodes) c.loop-block.block (rw (← c.len-block-end.ensures.nodes) c.loop-block-test.true) (sym here ∙ c.if-not-rests.true)
    ∙ runs.quiet_is net caps tapes c.args.self.now hs h (sym (c.idle.ensures hs) ∙ c.if-not-idle.false)

pub loop-block-preserved : goal.loop-block-preserved
loop-block-preserved g c =
    let rest = rests (net_of g.B.Block.meaning c.args.graph.now) (rows_of (λ row. row.items) c.args.capacities.now) (lent (g.T.Tapes.tapes c.args.tapes.now) c.args.self.now) in
    let here = subst (λ (s : Seen _). c.rests.result ≡ rests (net_seen g.B.Block.meaning s) s.capacities (state_seen s) s.block) c.of.ensures c.rests.ensures in
    runs.one_more rest c.loop-block.block c.loop-block.invariant (sym here ∙ c.if-not-rests.false)

pub returns : goal.returns
returns g c =
    let net = net_of g.B.Block.meaning c.args.graph.now in
    let caps = rows_of (λ row. row.items) c.args.capacities.now in
    let tapes = g.T.Tapes.tapes c.args.tapes.now in
    let all = below-from (rests net caps (lent tapes c.args.self.now)) (length net.nodes)
    (λ k in'. c.loop-block.invariant k (let below : k < c.len-block-end.result = rw c.len-block-end.ensures.nodes in' in omega (arith, c.loop-block-test.false, below))) in
    λ hs h. sym all ∙ runs.quiet_is net caps tapes c.args.self.now hs h (sym (c.idle.ensures hs) ∙ c.if-not-idle.false)
