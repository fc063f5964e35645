use Rattle.std.proofs.Common.{◌≡◌, ◌≤◌, map, take, length, vec_len, vec_capacity}
use Rattle.flowgraph.specs.Flowgraph.{net_of}
use Rattle.plant_laws.specs.Opening.{empty_sink}
use Rattle.plant_storage.specs.Stores.{collected_of}
use Rattle.plant_storage.proofs.opening.sinks.Given as goal

abbrev pub invariant-loop-block : goal.invariant-loop-block
invariant-loop-block g l =
    let nodes = (net_of g.B.Block.meaning l.graph).nodes in
    record {
      items : map collected_of l.sinks.items ≡ map empty_sink (take l.block nodes);
      many : vec_len l.sinks ≡ l.block;
      room : length nodes ≤ vec_capacity l.sinks;
    }
