use Rattle.std.proofs.Common.{ap, sym, ◌∙◌, subst}
use Rattle.std.specs.Prelude.{slice_set}
use Rattle.stream_model.specs.Network as model
use Rattle.firing_rules.specs.State.{StaysRunning}
use Rattle.firing_rules.proofs.Running.{abandon_runs}
use Rattle.firing_rules.proofs.firings.Firings.abandon.Goals as goal

pub returns-clause-running : goal.returns-clause-running
returns-clause-running c =
    let next = c.put.ensures ∙ ap (λ (p : model.Progress). slice_set c.args.self.now c.args.block.0 (record p { claimed = 0 })) c.progress-own.ensures.value in
    subst (StaysRunning c.args.self.now) (sym next) (abandon_runs c.args.self.now c.args.block.0 c.requires.block c.requires.claimed)
