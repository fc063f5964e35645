use Rattle.flow_runs.proofs.Outcomes.{ended_done, ended_stalled}
use Rattle.flow_runs.proofs.live.rested.Goals as goal

pub returns-in-Done-clause-rested : goal.returns-in-Done-clause-rested
returns-in-Done-clause-rested c = λ o h e. ended_done _ o h _ c.in-Done.plant c.in-Done.is e

pub returns-in-Stalled-clause-rested : goal.returns-in-Stalled-clause-rested
returns-in-Stalled-clause-rested c = λ o h e. ended_stalled _ o h _ c.in-Stalled.plant c.in-Stalled.is e
