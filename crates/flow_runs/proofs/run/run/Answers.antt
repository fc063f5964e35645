use Rattle.std.proofs.Common.{◌+◌, ◌∙◌, ℕ, ap}
use Rattle.flow_core.specs.Serve.{plant_in}
use Rattle.flow_core.proofs.Outcomes.{wrote_run, wrote_not, no_more}
use Rattle.flow_runs.specs.Serve.{IsRun, IsRunTo}
use Rattle.flow_runs.proofs.Outcomes.{becomes_ok, becomes_err, becomes_writes, failed_not, failed_writes}
use Rattle.flow_runs.proofs.run.run.Goals as goal

pub returns-in-Ok-clause-does : goal.returns-in-Ok-clause-does
returns-in-Ok-clause-does g c =
    let ran = c.in-Ok.ran in
    becomes_ok _ c.write_run.result c.of_command.result _ _ c.of_command.ensures c.write_run.ensures.ok
    (λ ended given is h. wrote_run (IsRunTo c.args.file.now) (g.O.ByteOut.contents c.args.output.now) (g.O.ByteOut.contents c.write_run.new.output) ran.given.text.items ran.given.status given.status ran.stalled given.stalled
    c.in-Ok.ensures.ok (is.0 ∙ h.0) (is.1 ∙ h.1) h.2)

pub returns-in-Ok-clause-does_not : goal.returns-in-Ok-clause-does_not
returns-in-Ok-clause-does_not g c =
    let out = g.O.ByteOut.contents c.args.output.now in
    let out' = g.O.ByteOut.contents c.write_run.new.output in
    becomes_err _ c.write_run.result c.of_command.result _ _ c.of_command.ensures
    (wrote_not (IsRun c.args.file.now) (plant_in c.args.file.now) out out' c.in-Ok.ran.given.text.items c.in-Ok.ran.given.status c.write_run.result c.in-Ok.ensures.ok.0 c.write_run.ensures.err)
    (λ fault h. h)

pub returns-in-Ok-clause-failed_writes : goal.returns-in-Ok-clause-failed_writes
returns-in-Ok-clause-failed_writes g c =
    c.write_run.ensures.failed_writes ∙ ap (λ (n : ℕ). g.O.ByteOut.failed c.args.output.now + n) (becomes_writes _ c.write_run.result c.of_command.result c.of_command.ensures)

pub returns-in-Err-clause-does_not : goal.returns-in-Err-clause-does_not
returns-in-Err-clause-does_not g c = failed_not (IsRun c.args.file.now) (plant_in c.args.file.now) (g.O.ByteOut.contents c.args.output.now) c.in-Err.fault c.in-Err.ensures.failed

pub returns-in-Err-clause-failed_writes : goal.returns-in-Err-clause-failed_writes
returns-in-Err-clause-failed_writes g c = no_more _ _ (failed_writes (IsRun c.args.file.now) (plant_in c.args.file.now) c.in-Err.fault c.in-Err.ensures.failed)
