use Rattle.std.proofs.Common.{◌≡◌, ◌<◌, ℕ, ℤ, List, map, slice_index_or}
use Rattle.stream_model.specs.Meaning.{input}
use Rattle.items.specs.Items.{numbers_of}
use Rattle.stream_model.specs.Network.{node_at}
use Rattle.flowgraph.specs.Flowgraph.{net_of}
use Rattle.flowgraph.specs.declared.parts.Input.{Input}
use Rattle.plant.specs.Seen.{AreEnds, seen_of}
use Rattle.plant.proofs.seen.are_seen.Given as goal

abbrev pub invariant-loop-port : goal.invariant-loop-port
invariant-loop-port g l =
    let rows = map (λ row. row.items) l.buffers in
    (streams : ℕ → List ℤ) → AreEnds rows l.inputs streams → (p : ℕ) (d : Input) → p < l.port →
    input (map numbers_of l.windows) p ≡ seen_of rows (node_at (net_of g.B.Block.meaning l.graph) l.block.0) l.first l.next p (slice_index_or l.inputs p d) (streams p)
