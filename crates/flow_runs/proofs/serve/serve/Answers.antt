use Rattle.flow_runs.specs.Serve.{Well, Badly}
use Rattle.flow_runs.proofs.serve.serve.Goals as goal

pub returns-in-Ok : goal.returns-in-Ok
returns-in-Ok g c = Well c.in-Ok.ended.status _ c.in-Ok.ensures.does c.in-Ok.ensures.failed_reads c.in-Ok.ensures.failed_writes c.note_stall.ensures

pub returns-in-Err : goal.returns-in-Err
returns-in-Err g c = rw c.status-status.ensures (Badly c.in-Err.fault c.in-Err.ensures.does_not c.in-Err.ensures.failed_reads c.in-Err.ensures.failed_writes c.report.ensures)
