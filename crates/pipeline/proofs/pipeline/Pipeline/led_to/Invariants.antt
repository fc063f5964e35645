use Rattle.std.proofs.Common.{◌≡◌, ◌-◌, length}
use Rattle.flowgraph.specs.Flowgraph.{net_of}
use Rattle.machine_laws.specs.Waits.{repeated}
use Rattle.pipeline.specs.Asking.{led_to, needed_by}
use Rattle.pipeline.proofs.pipeline.Pipeline.led_to.Given as goal

-- the waits that are left lead on from this block
abbrev pub invariant-loop-waits : goal.invariant-loop-waits
invariant-loop-waits g l =
    let plant = l.self.plant.plant in
    let net = net_of g.B.Block.meaning plant.graph in
    repeated (needed_by net plant.capacities plant.state) (length net.nodes - l._waits) l.block.0 ≡ led_to net plant.capacities plant.state l.fn.sink.0
