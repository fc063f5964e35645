use Rattle.std.proofs.Common.{◌≡◌, ◌-◌, ◌∙◌, ℕ, length, sym, ap, arith}
use Rattle.std.specs.Prelude.{Ok, Err}
use Rattle.flowgraph.specs.Flowgraph.{net_of}
use Rattle.kinds.specs.Kind.{meaning_of}
use Rattle.graph_file.specs.Blocks.{drafted}
use Rattle.flow_core.specs.Serve.{stream}
use Rattle.flow_core.specs.Stalls.{waits_text, ring_from}
use Rattle.flow_core.proofs.Stalling.{puts_as, puts_fault, puts_nothing}
use Rattle.flow_core.proofs.Rings.{text_breaks, text_ends, text_goes_on}
use Rattle.flow_core.proofs.stalls.tell_waits.Goals as goal

pub returns-in_err-tell_wait : goal.returns-in_err-tell_wait
returns-in_err-tell_wait g c =
    let broken = c.in_err-tell_wait.field-0.0 in
    puts_fault _ _ c.from_residual.result broken _ c.from_residual.ensures.0
    (c.loop-turn.invariant.2 (Err broken) _
    (text_breaks (g.P.StalledPlant.seen c.args.plant.now) _ _ c.loop-turn._turn c.graph.ensures c.len-turn-end.ensures.nodes c.loop-turn-test.true c.loop-turn.block.0 c.args.first.0 broken _ _ c.in_err-tell_wait.ensures))

pub returns-then-block-first : goal.returns-then-block-first
returns-then-block-first g c =
    c.loop-turn.invariant.2 (Ok tt) _
    (text_ends (g.P.StalledPlant.seen c.args.plant.now) _ _ c.loop-turn._turn c.graph.ensures c.len-turn-end.ensures.nodes c.loop-turn-test.true c.loop-turn.block.0 c.next-block.result.0 c.next-block.ensures.value c.args.first.0
    (Ok tt) _ _ c.if-block-first.true c.in_ok-tell_wait.ensures)

pub loop-turn-preserved : goal.loop-turn-preserved
loop-turn-preserved g c = (
  c.in_ok-tell_wait.ensures.1 ∙ c.loop-turn.invariant.0,
  c.next-block.ensures.inside,
  λ r last rest. c.loop-turn.invariant.2 r last
      (text_goes_on (g.P.StalledPlant.seen c.args.plant.now) _ _ c.loop-turn._turn c.graph.ensures c.len-turn-end.ensures.nodes c.loop-turn-test.true c.loop-turn.block.0 c.next-block.result.0 c.next-block.ensures.value c.args.first.0
      r _ (stream (g.E.ByteOut.contents c.tell_wait.new.errors) (g.E.ByteOut.failed c.tell_wait.new.errors)) last c.if-block-first.false c.in_ok-tell_wait.ensures rest),
)

pub returns : goal.returns
returns g c =
    let plant = (g.P.StalledPlant.seen c.args.plant.now) in
    let net = net_of meaning_of plant.graph in
    let nodes : c.len-turn-end.result ≡ length net.nodes = rw (← c.graph.ensures) c.len-turn-end.ensures.nodes in
    let none : length net.nodes - c.loop-turn._turn ≡ 0 = omega (arith, nodes, c.loop-turn-test.false) in
    c.loop-turn.invariant.2 (Ok tt) _
    (puts_as (Ok tt) _ _ _ _ (sym (ap (λ (k : ℕ). waits_text (drafted plant.graph) plant.capacities plant.state (ring_from net plant.capacities plant.state c.args.first.0 k c.loop-turn.block.0)) none))
    (puts_nothing (stream (g.E.ByteOut.contents c.loop-turn.errors) (g.E.ByteOut.failed c.loop-turn.errors)) tt))
