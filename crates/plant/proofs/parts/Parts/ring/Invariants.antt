use Rattle.std.proofs.Common.{◌≡◌, ◌<◌, ◌-◌, length, Some}
use Rattle.std.specs.Arc.{arc_value}
use Rattle.machine_laws.specs.Waits.{followed, ring_of}
use Rattle.flowgraph.specs.Flowgraph.{net_of}
use Rattle.plant.specs.Plant.{plant_of}
use Rattle.plant.proofs.parts.Parts.ring.Given as goal

abbrev pub invariant-loop-turn : goal.invariant-loop-turn
invariant-loop-turn g l =
    let plant = plant_of l.self in
    let net = net_of g.B.Block.meaning plant.graph in
    record {
      inside : l.block.0 < length (arc_value l.self.graph).blocks;
      left : Some (followed net plant.capacities plant.state (length net.nodes - l._turn) l.block.0) ≡ ring_of net plant.capacities plant.state;
    }
