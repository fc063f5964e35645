use Rattle.std.proofs.Common.{◌≡◌, ◌++◌, [], drop, map, vec_capacity}
use Rattle.stream_model.specs.Network.{node_at}
use Rattle.items.specs.Tags.{tag_of}
use Rattle.flowgraph.specs.Flowgraph.{net_of}
use Rattle.plant_laws.specs.Changes.{tags_waiting}
use Rattle.plant_transfers.specs.Steps.{stored_with}
use Rattle.plant_transfers.proofs.States.{rows}
use Rattle.plant_transfers.proofs.Bringing.{all_from}
use Rattle.plant_transfers.proofs.brought.bring_all.Given as goal

abbrev pub invariant-loop-port : goal.invariant-loop-port
invariant-loop-port g l =
    let net = net_of g.B.Block.meaning l.graph in
    let n = node_at net l.firings.block.0 in
    let waiting = tags_waiting net (stored_with [] (rows l.buffers)) l.firings.block.0 in
    record {
      left : map tag_of l.list.items ++ all_from n l.firings.first l.firings.next l.port (drop l.port waiting) ≡ all_from n l.firings.first l.firings.next 0 waiting;
      capacity : vec_capacity l.list ≡ vec_capacity l.initial.list;
    }
