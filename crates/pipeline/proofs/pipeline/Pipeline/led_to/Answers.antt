use Rattle.std.proofs.Common.{◌≡◌, ◌<◌, ◌≤◌, ◌-◌, length, arith, sym, ap, ◌∙◌}
use Rattle.flowgraph.specs.Flowgraph.{net_of}
use Rattle.machine_laws.specs.Waits.{repeated}
use Rattle.pipeline.specs.Asking.{needed_by}
use Rattle.pipeline.proofs.Awaiting.{repeated_none, repeated_still, repeated_turn}
use Rattle.pipeline.proofs.pipeline.Pipeline.led_to.Goals as goal

pub loop-waits-init : goal.loop-waits-init
loop-waits-init g c =
    let plant = c.args.self.now.plant.plant in
    let net = net_of g.B.Block.meaning plant.graph in
    let all : length net.nodes - 0 ≡ length net.nodes = omega arith in
    ap (λ k. repeated (needed_by net plant.capacities plant.state) k c.args.sink.0) all

pub loop-waits-preserved : goal.loop-waits-preserved
loop-waits-preserved g c =
    let plant = c.args.self.now.plant.plant in
    let net = net_of g.B.Block.meaning plant.graph in
    let nodes : c.len-waits-end.result ≡ length net.nodes = rw (← c.graph.ensures) c.len-waits-end.ensures.nodes in
    let end = c.loop-waits.auto._waits-end in
    let low : c.loop-waits._waits < length net.nodes = omega (arith, nodes, end, c.loop-waits-test.true) in
    repeated_turn (needed_by net plant.capacities plant.state) (length net.nodes) c.loop-waits._waits c.loop-waits.block.0 c.needed_by-next.result.0 low c.needed_by-next.ensures
    ∙ c.loop-waits.invariant

pub returns-then-next-block : goal.returns-then-next-block
returns-then-next-block g c =
    let plant = c.args.self.now.plant.plant in
    let net = net_of g.B.Block.meaning plant.graph in
    let f = needed_by net plant.capacities plant.state in
    sym (repeated_still f (length net.nodes - c.loop-waits._waits) c.loop-waits.block.0 (sym c.needed_by-next.ensures ∙ c.if-next-block.true)) ∙ c.loop-waits.invariant

pub returns : goal.returns
returns g c =
    let plant = c.args.self.now.plant.plant in
    let net = net_of g.B.Block.meaning plant.graph in
    let nodes : c.len-waits-end.result ≡ length net.nodes = rw (← c.graph.ensures) c.len-waits-end.ensures.nodes in
    let end = c.loop-waits.auto._waits-end in
    let past : length net.nodes ≤ c.loop-waits._waits = omega (arith, nodes, end, c.loop-waits-test.false) in
    sym (repeated_none (needed_by net plant.capacities plant.state) (length net.nodes) c.loop-waits._waits c.loop-waits.block.0 past) ∙ c.loop-waits.invariant
