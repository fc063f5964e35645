use Rattle.std.proofs.Common.{◌≡◌, ◌<◌, ◌-◌, length}
use Rattle.flowgraph.specs.Flowgraph.{net_of}
use Rattle.kinds.specs.Kind.{meaning_of}
use Rattle.flow_core.specs.Stalls.{ring_from, full_in}
use Rattle.flow_core.proofs.stalls.full.Given as goal

-- the first of the blocks that are left is the first of all
abbrev pub invariant-loop-turn : goal.invariant-loop-turn
invariant-loop-turn g l =
    let net = net_of meaning_of (g.P.StalledPlant.seen l.plant).graph in
    let caps = (g.P.StalledPlant.seen l.plant).capacities in
    let st = (g.P.StalledPlant.seen l.plant).state in
    (l.block.0 < length (g.P.StalledPlant.seen l.plant).graph.blocks)
    × (full_in net caps st (ring_from net caps st l.first.0 (length net.nodes - l._turn) l.block.0) ≡ full_in net caps st (ring_from net caps st l.first.0 (length net.nodes) l.first.0))
