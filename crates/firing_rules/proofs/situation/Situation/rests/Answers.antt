use Rattle.std.proofs.Common.{Bool, ap, sym, ◌∙◌}
use Rattle.std.specs.Prelude.{◌||◌}
use Rattle.stream_model.specs.Network as model
use Rattle.stream_model.specs.Machine.{claim_of, is_waiting}
use Rattle.firing_rules.specs.Decision.{waits}
use Rattle.firing_rules.specs.Situation.{net_seen, state_seen, counts_seen}
use Rattle.firing_rules.proofs.Running.{claim_waits}
use Rattle.firing_rules.proofs.situation.Situation.rests.Goals as goal

pub returns-else-own : goal.returns-else-own
returns-else-own g c =
    let s = c.args.self.now in
    let live = ap (λ (p : model.Progress). p.done) (sym c.own.ensures.value) ∙ c.if-own.false in
    let rests = c.waits.ensures ∙ ap waits c.decide.ensures ∙ claim_waits (net_seen g.B.Block.meaning s) s.capacities (state_seen s) s.block 1 (counts_seen g.B.Block.meaning s).firings in
    rests ∙ ap (λ (b : Bool). b || is_waiting (claim_of (net_seen g.B.Block.meaning s) s.capacities (state_seen s) s.block 1).0) (sym live)
