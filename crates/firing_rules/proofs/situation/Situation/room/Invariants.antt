use Rattle.std.proofs.Common.{◌≡◌, drop}
use Rattle.std.specs.Option.{option_or}
use Rattle.stream_model.specs.Claims.{lacks_room}
use Rattle.stream_laws.specs.Firings.{room_allows}
use Rattle.firing_rules.specs.Fits.{Tells}
use Rattle.firing_rules.specs.Situation.{node_seen, counts_seen}
use Rattle.firing_rules.proofs.situation.Situation.room.Given as goal

abbrev pub invariant-loop-port : goal.invariant-loop-port
invariant-loop-port g l =
    let n = node_seen g.B.Block.meaning l.self in
    let outputs = (counts_seen g.B.Block.meaning l.self).outputs in
    record {
      tells : Tells l.next l.fit;
      allowed : room_allows n (drop l.port outputs) l.fit.allowed ≡ room_allows n outputs l.bound;
      lacking : option_or l.fit.lacking (lacks_room n l.next l.port (drop l.port outputs)) ≡ lacks_room n l.next 0 outputs;
    }
