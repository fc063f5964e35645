use Rattle.std.proofs.Common.{◌≡◌, ◌+◌, ◌++◌, map, take, vec_len, vec_capacity}
use Rattle.stream_model.specs.Network.{node_at, moved}
use Rattle.items.specs.Tags.{tag_of}
use Rattle.flowgraph.specs.Flowgraph.{net_of}
use Rattle.plant_transfers.proofs.brought.append_moved.Given as goal

abbrev pub invariant-loop-tag : goal.invariant-loop-tag
invariant-loop-tag g l = record {
  tags : map tag_of l.list.items ≡ map tag_of l.initial.list.items ++ moved (node_at (net_of g.B.Block.meaning l.graph) l.fn.block.0) l.port (map tag_of (take l.tag-index l.tags));
  long : vec_len l.list ≡ vec_len l.initial.list + l.tag-index;
  capacity : vec_capacity l.list ≡ vec_capacity l.initial.list;
}
