use Rattle.std.proofs.Common.{◌≡◌, ◌≤◌, ◌*◌, ◌-◌, ◌^◌, map, min}
use Rattle.std.specs.Prelude.{sum}
use Rattle.stream_model.specs.Lists.{below}
use Rattle.flowgraph.specs.Flowgraph.{net_of}
use Rattle.plant.specs.Headway.{fed_to, given_by_source}
use Rattle.plant.specs.Plant.{KeepsAll, plant_of, spans_in}
use Rattle.plant.proofs.parts.Parts.headway.Given as goal

abbrev pub invariant-loop-block : goal.invariant-loop-block
invariant-loop-block g l =
    let plant = plant_of l.self in
    let net = net_of g.B.Block.meaning plant.graph in
    record {
      given : KeepsAll (spans_in l.self) → l.headway.given ≡ sum (map (given_by_source net plant.state) (below l.block));
      fed : KeepsAll (spans_in l.self) → l.headway.fed ≡ sum (map (fed_to net plant.state) (below l.block));
      given_shown : l.headway.given ≡ min (sum (map (given_by_source net plant.state) (below l.block))) (2 ^ 64 - 1);
      fed_shown : l.headway.fed ≡ min (sum (map (fed_to net plant.state) (below l.block))) (2 ^ 64 - 1);
      within : l.headway.given ≤ l.headway.fed;
      short : KeepsAll (spans_in l.self) → l.headway.fed ≤ l.block * 2 ^ 32;
    }
