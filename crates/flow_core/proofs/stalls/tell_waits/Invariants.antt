use Rattle.std.proofs.Common.{◌≡◌, ◌<◌, ◌-◌, length}
use Rattle.std.specs.Prelude.{Result}
use Rattle.flowgraph.specs.Flowgraph.{net_of}
use Rattle.kinds.specs.Kind.{meaning_of}
use Rattle.byte_io.specs.declared.ends.Broken.{Broken}
use Rattle.graph_file.specs.Blocks.{drafted}
use Rattle.flow_core.specs.Serve.{Stream, Puts, stream}
use Rattle.flow_core.specs.Stalls.{ring_from, waits_text}
use Rattle.flow_core.proofs.stalls.tell_waits.Given as goal

-- no write failed so far, and whoever writes the lines of the blocks that are left has written all
abbrev pub invariant-loop-turn : goal.invariant-loop-turn
invariant-loop-turn g l =
    let net = net_of meaning_of (g.P.StalledPlant.seen l.plant).graph in
    let caps = (g.P.StalledPlant.seen l.plant).capacities in
    let st = (g.P.StalledPlant.seen l.plant).state in
    let text = waits_text (drafted (g.P.StalledPlant.seen l.plant).graph) caps st in
    (g.E.ByteOut.failed l.errors ≡ g.E.ByteOut.failed l.initial.errors) × (l.block.0 < length (g.P.StalledPlant.seen l.plant).graph.blocks)
    × ((r : Result (Unit {0}) Broken) (last : Stream) → Puts r (stream (g.E.ByteOut.contents l.errors) (g.E.ByteOut.failed l.errors)) last (text (ring_from net caps st l.first.0 (length net.nodes - l._turn) l.block.0)) →
    Puts r (stream (g.E.ByteOut.contents l.initial.errors) (g.E.ByteOut.failed l.initial.errors)) last (text (ring_from net caps st l.first.0 (length net.nodes) l.first.0)))
