use Rattle.flow_core.specs.Serve.{IsRunAlone, IsRunAloneTo, plant_in}
use Rattle.flow_core.proofs.Outcomes.{if_ok, wrote_run, wrote_not, refused_not, refused_writes, no_more}
use Rattle.flow_core.proofs.run.run_on_one.Goals as goal

pub returns-in-Ok-clause-does : goal.returns-in-Ok-clause-does
returns-in-Ok-clause-does g c =
    let ran = c.in-Ok.ran in
    if_ok c.write_run.result _ _ c.write_run.ensures.ok
    (λ ended h. wrote_run (IsRunAloneTo c.args.file.now) (g.O.ByteOut.contents c.args.output.now) (g.O.ByteOut.contents c.write_run.new.output) ran.given.text.items ran.given.status ended.status ran.stalled ended.stalled
    c.in-Ok.ensures.ok h.0 h.1 h.2)

pub returns-in-Ok-clause-does_not : goal.returns-in-Ok-clause-does_not
returns-in-Ok-clause-does_not g c =
    let out = g.O.ByteOut.contents c.args.output.now in
    let out' = g.O.ByteOut.contents c.write_run.new.output in
    wrote_not (IsRunAlone c.args.file.now) (plant_in c.args.file.now) out out' c.in-Ok.ran.given.text.items c.in-Ok.ran.given.status c.write_run.result c.in-Ok.ensures.ok.0 c.write_run.ensures.err

pub returns-in-Err-clause-does_not : goal.returns-in-Err-clause-does_not
returns-in-Err-clause-does_not g c = refused_not (IsRunAlone c.args.file.now) (plant_in c.args.file.now) (g.O.ByteOut.contents c.args.output.now) c.in-Err.fault c.in-Err.ensures.refused

pub returns-in-Err-clause-failed_writes : goal.returns-in-Err-clause-failed_writes
returns-in-Err-clause-failed_writes g c = no_more _ _ (refused_writes (IsRunAlone c.args.file.now) (plant_in c.args.file.now) c.in-Err.fault c.in-Err.ensures.refused)
