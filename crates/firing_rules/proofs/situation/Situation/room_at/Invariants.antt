use Rattle.std.proofs.Common.{◌≡◌, ◌≤◌, drop}
use Rattle.stream_laws.specs.Firings.{readers_allow}
use Rattle.firing_rules.specs.Counts.{readers_in}
use Rattle.firing_rules.specs.Situation.{net_seen, node_seen, state_seen}
use Rattle.firing_rules.proofs.situation.Situation.room_at.Given as goal

abbrev pub invariant-loop-connection : goal.invariant-loop-connection
invariant-loop-connection g l =
    let n = node_seen g.B.Block.meaning l.self in
    let readers = readers_in (net_seen g.B.Block.meaning l.self) (state_seen l.self) l.readers in
    record {
      within : l.least ≤ l.bound;
      left : readers_allow n l.capacity (drop l.connection-index readers) l.least ≡ readers_allow n l.capacity readers l.bound;
    }
