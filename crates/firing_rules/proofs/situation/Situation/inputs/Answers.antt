use Rattle.std.proofs.Common.{ap, sym, ◌∙◌, length}
use Rattle.machine_laws.proofs.Looking.{inputs_source}
use Rattle.firing_rules.proofs.Looks.{inputs_long}
use Rattle.firing_rules.proofs.situation.Situation.inputs.Goals as goal

pub returns-then-is_source : goal.returns-then-is_source
returns-then-is_source g c = rw (← c.self.view_is) (ap length (sym (inputs_source _ _ _ (sym c.is_source.ensures ∙ c.if-is_source.true))))

pub returns-else-is_source : goal.returns-else-is_source
returns-else-is_source g c = rw (← c.self.view_is) (inputs_long _ _ _ c.inputs.result.now (sym c.is_source.ensures ∙ c.if-is_source.false) c.inputs.ensures.writers)
