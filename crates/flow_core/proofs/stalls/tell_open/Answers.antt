use Rattle.std.proofs.Common.{◌≡◌, ◌≤◌, ◌∙◌, length, sym, ap, arith}
use Rattle.std.specs.Prelude.{Ok, Err}
use Rattle.std.specs.List.{flat_map}
use Rattle.graph_file.specs.Blocks.{drafted}
use Rattle.flow_core.specs.Serve.{stream}
use Rattle.flow_core.specs.Stalls.{open_line}
use Rattle.std.proofs.lemmas.List.{drop_all}
use Rattle.std.proofs.lemmas.List.FromFn.{length-range_with_len}
use Rattle.stream_model.specs.Lists.{below}
use Rattle.flow_core.proofs.Stalling.{puts_as, puts_fault, puts_nothing}
use Rattle.flow_core.proofs.Rings.{open_breaks, open_goes_on}
use Rattle.flow_core.proofs.stalls.tell_open.Goals as goal

pub returns-in_err-tell_if_open : goal.returns-in_err-tell_if_open
returns-in_err-tell_if_open g c =
    let broken = c.in_err-tell_if_open.field-0.0 in
    puts_fault _ _ c.from_residual.result broken _ c.from_residual.ensures.0
    (c.loop-block.invariant.1 (Err broken) _
    (open_breaks (g.P.StalledPlant.seen c.args.plant.now) _ _ c.loop-block.block c.graph.ensures c.len-block-end.ensures.nodes c.loop-block-test.true broken _ _ c.in_err-tell_if_open.ensures))

pub loop-block-preserved : goal.loop-block-preserved
loop-block-preserved g c = (
  c.in_ok-tell_if_open.ensures.1 ∙ c.loop-block.invariant.0,
  λ r last rest. c.loop-block.invariant.1 r last
      (open_goes_on (g.P.StalledPlant.seen c.args.plant.now) _ _ c.loop-block.block c.graph.ensures c.len-block-end.ensures.nodes c.loop-block-test.true
      r (stream (g.E.ByteOut.contents c.loop-block.errors) (g.E.ByteOut.failed c.loop-block.errors)) (stream (g.E.ByteOut.contents c.tell_if_open.new.errors) (g.E.ByteOut.failed c.tell_if_open.new.errors)) last
      c.in_ok-tell_if_open.ensures rest),
)

pub returns : goal.returns
returns g c =
    let plant = (g.P.StalledPlant.seen c.args.plant.now) in
    let d = drafted plant.graph in
    let n = length d.net.nodes in
    let nodes : c.len-block-end.result ≡ n = rw (← c.graph.ensures) c.len-block-end.ensures.nodes in
    let line = open_line d plant.capacities plant.state in
    let b = c.loop-block.block in
    let size = length-range_with_len 0 n in
    let past : length (below n) ≤ b = omega (arith, size, nodes, c.loop-block-test.false) in
    c.loop-block.invariant.1 (Ok tt) _
    (puts_as (Ok tt) _ _ _ _ (sym (ap (flat_map line) (drop_all b (below n) past)))
    (puts_nothing (stream (g.E.ByteOut.contents c.loop-block.errors) (g.E.ByteOut.failed c.loop-block.errors)) tt))
