use Rattle.std.proofs.Common.{◌≡◌, drop}
use Rattle.std.specs.List.{list_all}
use Rattle.stream_model.specs.Claims.{is_abandoned}
use Rattle.firing_rules.specs.Situation.{counts_seen}
use Rattle.firing_rules.proofs.situation.Situation.is_unread.Given as goal

abbrev pub invariant-loop-port : goal.invariant-loop-port
invariant-loop-port g l =
    let outputs = (counts_seen g.B.Block.meaning l.self).outputs in
    list_all is_abandoned (drop l.port outputs) ≡ list_all is_abandoned outputs
