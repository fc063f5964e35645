use Rattle.std.proofs.Common.{◌≡◌, ◌<◌, ◌≤◌, ℕ, [], get_or}
use Rattle.std.specs.List.{All}
use Rattle.stream_model.specs.Network.{node_at}
use Rattle.items.specs.declared.stream_items.Items.{Items}
use Rattle.items.specs.Items.{type_of}
use Rattle.flowgraph.specs.Flowgraph.{net_of}
use Rattle.plant_transfers.specs.Places.{KeepRoom}
use Rattle.plant_transfers.specs.Steps.{stored_with}
use Rattle.plant_transfers.specs.Windows.{IsWindow}
use Rattle.plant_transfers.proofs.States.{rows}
use Rattle.plant_transfers.proofs.windows.read_inputs.Given as goal

abbrev pub invariant-loop-port : goal.invariant-loop-port
invariant-loop-port g l =
    record {
      read : (p : ℕ) (d : Items) → p < l.port → IsWindow (net_of g.B.Block.meaning l.graph) (stored_with [] (rows l.buffers)) l.firings.block.0 p l.firings.first l.firings.next (get_or l.windows p d);
      rest : (p : ℕ) (d : Items) → l.port ≤ p → get_or l.windows p d ≡ get_or l.fn.windows p d;
      keeps : All (λ w. type_of w ≡ (node_at (net_of g.B.Block.meaning l.graph) l.firings.block.0).meaning.inputs.item) l.fn.windows → KeepRoom l.fn.windows l.windows;
    }
