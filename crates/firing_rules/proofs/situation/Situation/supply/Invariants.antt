use Rattle.std.proofs.Common.{◌≡◌, drop}
use Rattle.std.specs.Prelude.{◌||◌}
use Rattle.std.specs.Option.{option_or}
use Rattle.stream_model.specs.Claims.{lacks_items, lacks_for_good}
use Rattle.stream_laws.specs.Firings.{items_allow}
use Rattle.firing_rules.specs.Fits.{Tells}
use Rattle.firing_rules.specs.Situation.{node_seen, counts_seen}
use Rattle.firing_rules.proofs.Loops.{writtens}
use Rattle.firing_rules.proofs.situation.Situation.supply.Given as goal

abbrev pub invariant-loop-port : goal.invariant-loop-port
invariant-loop-port g l =
    let n = node_seen g.B.Block.meaning l.self in
    let inputs = (counts_seen g.B.Block.meaning l.self).inputs in
    record {
      tells : Tells l.next l.supply.fit;
      allowed : items_allow n l.port (writtens (drop l.port inputs)) l.supply.fit.allowed ≡ items_allow n 0 (writtens inputs) l.bound;
      lacking : option_or l.supply.fit.lacking (lacks_items n l.next l.port (drop l.port inputs)) ≡ lacks_items n l.next 0 inputs;
      over : (l.supply.over || lacks_for_good n l.next l.port (drop l.port inputs)) ≡ lacks_for_good n l.next 0 inputs;
    }
