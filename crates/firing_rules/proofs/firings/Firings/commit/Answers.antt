use Rattle.std.proofs.Common.{◌+◌, ℕ, ap, sym, ◌∙◌, subst}
use Rattle.std.specs.Prelude.{slice_set}
use Rattle.stream_model.specs.Network as model
use Rattle.firing_rules.specs.State.{StaysRunning}
use Rattle.firing_rules.proofs.Running.{commit_runs}
use Rattle.firing_rules.proofs.firings.Firings.commit.Goals as goal

pub returns-clause-running : goal.returns-clause-running
returns-clause-running c =
    let next =
    c.put.ensures
    ∙ ap (λ (k : ℕ). let p : model.Progress = record { firings = c.progress-own.result.firings + k; claimed = 0; done = c.progress-own.result.done } in slice_set c.args.self.now c.args.block.0 p) c.from.ensures
    ∙ ap (λ (p : model.Progress). slice_set c.args.self.now c.args.block.0 (record p { firings = p.firings + p.claimed; claimed = 0 })) c.progress-own.ensures.value in
    subst (StaysRunning c.args.self.now) (sym next) (commit_runs c.args.self.now c.args.block.0 c.requires.block c.requires.claimed)
