use Rattle.flowgraph.specs.Flowgraph.{net_of}
use Rattle.plant.specs.Plant.{plant_of}
use Rattle.streaming.specs.Working.{IsLedOn}
use Rattle.streaming.proofs.Holding.{AreStepped}
use Rattle.streaming.proofs.beside.step_others.Given as goal

abbrev pub invariant-loop-block : goal.invariant-loop-block
invariant-loop-block g l =
    let old = plant_of l.initial.parts in
    record {
      led : IsLedOn g.B.Block.meaning l.max l.initial.parts l.parts;
      stepped : AreStepped l.held (net_of g.B.Block.meaning old.graph) old.capacities l.max l.order old.state (plant_of l.parts).state l.block-index l.moved;
    }
