use Rattle.std.proofs.Common.{◌∙◌, ap, sym}
use Rattle.firing_rules.specs.Situation.{net_seen, state_seen, counts_seen}
use Rattle.firing_rules.specs.declared.decision.Decision.TheVariants.{Waiting}
use Rattle.firing_rules.proofs.Awaiting.{items_there, room_there}
use Rattle.firing_rules.proofs.situation.Situation.need.Goals as goal

pub need_of_items-requires : goal.need_of_items-requires
need_of_items-requires g c =
    let s = c.args.self.now in
    items_there (net_seen g.B.Block.meaning s) s.capacities (state_seen s) s.block (counts_seen g.B.Block.meaning s).firings
    c.in-Waiting-Items.port (sym (c.in-Waiting-Items.is ∙ ap Waiting c.in-Waiting-Items.field-0-is) ∙ c.decide.ensures)

pub slowest_reader-reader-requires : goal.slowest_reader-reader-requires
slowest_reader-reader-requires g c =
    let s = c.args.self.now in
    room_there (net_seen g.B.Block.meaning s) s.capacities (state_seen s) s.block (counts_seen g.B.Block.meaning s).firings
    c.in-Waiting-Room.port (sym (c.in-Waiting-Room.is ∙ ap Waiting c.in-Waiting-Room.field-0-is) ∙ c.decide.ensures)
