use Rattle.std.proofs.lemmas.Result.{on_err_weaker, on_ok_weaker}
use Rattle.pipeline.proofs.Moving.{begins_more, goes_more}
use Rattle.pipeline.proofs.pipeline.Pipeline.write_all.Goals as goal

pub returns-clause-goes : goal.returns-clause-goes
returns-clause-goes g c = on_ok_weaker c.flush.result (goes_more g.R.Read.remaining g.W.Write.contents g.B.Block.meaning c.args.self.now.plant c.write.new.self.plant c.flush.new.self.plant c.args.self.now.ends.items c.write.new.self.ends.items c.flush.new.self.ends.items c.in_ok-write.ensures.goes) c.flush.ensures.goes

pub returns-clause-begins : goal.returns-clause-begins
returns-clause-begins g c = on_err_weaker c.flush.result (begins_more g.R.Read.remaining g.W.Write.contents g.B.Block.meaning c.args.self.now.plant c.write.new.self.plant c.flush.new.self.plant c.args.self.now.ends.items c.write.new.self.ends.items c.flush.new.self.ends.items c.in_ok-write.ensures.goes) c.flush.ensures.begins
