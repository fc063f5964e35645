use Rattle.flow_core.proofs.Outcomes.{ended}
use Rattle.flow_core.proofs.command_output.run_output.Goals as goal

pub returns : goal.returns
returns c =
    ended c.args.plant c.in_ok-text.text.items c.args.settled c.all_done-done.result c.status_of-status.result _ c.requires c.all_done-done.ensures.value c.all_done-done.ensures.whole
    c.in_ok-text.ensures c.status_of-status.ensures c.stalled_one-stalled.ensures
