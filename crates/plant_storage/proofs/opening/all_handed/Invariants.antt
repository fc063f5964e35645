use Rattle.std.proofs.Common.{◌≡◌, ◌≤◌, take, length, vec_len, vec_capacity}
use Rattle.flowgraph.specs.Flowgraph.{net_of}
use Rattle.plant_storage.specs.Opening.{AreUnhanded}
use Rattle.plant_storage.proofs.opening.all_handed.Given as goal

abbrev pub invariant-loop-block : goal.invariant-loop-block
invariant-loop-block g l =
    let nodes = (net_of g.B.Block.meaning l.graph).nodes in
    record {
      items : AreUnhanded l.longest l.alone (take l.block nodes) l.handed.items;
      many : vec_len l.handed ≡ l.block;
      room : length nodes ≤ vec_capacity l.handed;
    }
