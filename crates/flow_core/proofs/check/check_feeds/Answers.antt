use Rattle.flow_core.specs.Serve.{IsCheckOfFeeds, plant_in}
use Rattle.flow_core.proofs.Outcomes.{wrote, wrote_not, refused_not, refused_writes, no_more}
use Rattle.flow_core.proofs.check.check_feeds.Goals as goal

pub returns-in-Ok-clause-does : goal.returns-in-Ok-clause-does
returns-in-Ok-clause-does g c =
    wrote (IsCheckOfFeeds c.args.file.now) (plant_in c.args.file.now) (g.O.ByteOut.contents c.args.output.now) (g.O.ByteOut.contents c.write_output.new.output) c.in-Ok.given.text.items c.in-Ok.given.status c.write_output.result c.in-Ok.ensures.ok c.write_output.ensures.ok

pub returns-in-Ok-clause-does_not : goal.returns-in-Ok-clause-does_not
returns-in-Ok-clause-does_not g c =
    wrote_not (IsCheckOfFeeds c.args.file.now) (plant_in c.args.file.now) (g.O.ByteOut.contents c.args.output.now) (g.O.ByteOut.contents c.write_output.new.output) c.in-Ok.given.text.items c.in-Ok.given.status c.write_output.result c.in-Ok.ensures.ok c.write_output.ensures.err

pub returns-in-Err-clause-does_not : goal.returns-in-Err-clause-does_not
returns-in-Err-clause-does_not g c = refused_not (IsCheckOfFeeds c.args.file.now) (plant_in c.args.file.now) (g.O.ByteOut.contents c.args.output.now) c.in-Err.fault c.in-Err.ensures.refused

pub returns-in-Err-clause-failed_writes : goal.returns-in-Err-clause-failed_writes
returns-in-Err-clause-failed_writes g c = no_more _ _ (refused_writes (IsCheckOfFeeds c.args.file.now) (plant_in c.args.file.now) c.in-Err.fault c.in-Err.ensures.refused)
