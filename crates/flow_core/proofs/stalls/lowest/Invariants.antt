use Rattle.std.proofs.Common.{◌≡◌, ◌<◌, ◌≤◌, ◌-◌, length, min}
use Rattle.flowgraph.specs.Flowgraph.{net_of}
use Rattle.kinds.specs.Kind.{meaning_of}
use Rattle.flow_core.specs.Stalls.{lowest_from}
use Rattle.flow_core.proofs.stalls.lowest.Given as goal

-- the lowest so far and those that are left have the lowest of all
abbrev pub invariant-loop-turn : goal.invariant-loop-turn
invariant-loop-turn g l =
    let net = net_of meaning_of (g.P.StalledPlant.seen l.plant).graph in
    (l.lowest ≤ l.block.0) × (l.block.0 < length (g.P.StalledPlant.seen l.plant).graph.blocks) × (l.lowest < length (g.P.StalledPlant.seen l.plant).graph.blocks)
    × (min l.lowest (lowest_from net (g.P.StalledPlant.seen l.plant).capacities (g.P.StalledPlant.seen l.plant).state (length net.nodes - l._turn) l.block.0) ≡ lowest_from net (g.P.StalledPlant.seen l.plant).capacities (g.P.StalledPlant.seen l.plant).state (length net.nodes) l.fn.block.0)
