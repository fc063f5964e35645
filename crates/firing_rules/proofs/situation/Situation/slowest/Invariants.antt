use Rattle.std.proofs.Common.{◌≡◌, map, drop, None}
use Rattle.std.specs.Option.{option_map}
use Rattle.machine_laws.specs.Waits.{slowest}
use Rattle.flowgraph.specs.Flowgraph.{connection_of}
use Rattle.firing_rules.specs.Situation.{net_seen, state_seen}
use Rattle.firing_rules.specs.Waits.{IsKnown}
use Rattle.firing_rules.proofs.situation.Situation.slowest.Given as goal

abbrev pub invariant-loop-connection : goal.invariant-loop-connection
invariant-loop-connection g l =
    let net = net_seen g.B.Block.meaning l.self in
    let st = state_seen l.self in
    record {
      known : IsKnown net l.best;
      left : slowest net st (option_map connection_of l.best) (drop l.connection-index (map connection_of l.readers)) ≡ slowest net st None (map connection_of l.readers);
    }
