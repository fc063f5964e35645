use Rattle.flow_core.specs.Serve.{IsPicture, graph_in}
use Rattle.flow_core.proofs.Outcomes.{wrote, wrote_not, refused_not, refused_writes, no_more}
use Rattle.flow_core.proofs.draw.draw.Goals as goal

pub returns-in-Ok-clause-does : goal.returns-in-Ok-clause-does
returns-in-Ok-clause-does g c =
    wrote (IsPicture c.args.format c.args.file.now) (graph_in c.args.file.now) (g.O.ByteOut.contents c.args.output.now) (g.O.ByteOut.contents c.write_output.new.output) c.in-Ok.given.text.items c.in-Ok.given.status c.write_output.result c.in-Ok.ensures.ok c.write_output.ensures.ok

pub returns-in-Ok-clause-does_not : goal.returns-in-Ok-clause-does_not
returns-in-Ok-clause-does_not g c =
    wrote_not (IsPicture c.args.format c.args.file.now) (graph_in c.args.file.now) (g.O.ByteOut.contents c.args.output.now) (g.O.ByteOut.contents c.write_output.new.output) c.in-Ok.given.text.items c.in-Ok.given.status c.write_output.result c.in-Ok.ensures.ok c.write_output.ensures.err

pub returns-in-Err-clause-does_not : goal.returns-in-Err-clause-does_not
returns-in-Err-clause-does_not g c = refused_not (IsPicture c.args.format c.args.file.now) (graph_in c.args.file.now) (g.O.ByteOut.contents c.args.output.now) c.in-Err.fault c.in-Err.ensures.refused

pub returns-in-Err-clause-failed_writes : goal.returns-in-Err-clause-failed_writes
returns-in-Err-clause-failed_writes g c = no_more _ _ (refused_writes (IsPicture c.args.format c.args.file.now) (graph_in c.args.file.now) c.in-Err.fault c.in-Err.ensures.refused)
