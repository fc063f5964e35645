use Rattle.std.proofs.lemmas.Result.{on_err_weaker, on_ok_weaker}
use Rattle.pipeline.proofs.Delivering.{on_err}
use Rattle.pipeline.proofs.Running.{began_more, went_more, went_nowhere}
use Rattle.pipeline.proofs.pipeline.Pipeline.advance.Goals as goal

pub returns-in_err-advance_beside-clause-begins : goal.returns-in_err-advance_beside-clause-begins
returns-in_err-advance_beside-clause-begins g c = on_err _
    (began_more g.R.Read.remaining g.W.Write.contents g.B.Block.meaning c.args.self.now c.look.new.self c.advance_beside.new.self
    (went_nowhere g.R.Read.remaining g.W.Write.contents g.B.Block.meaning c.args.self.now c.look.new.self c.look.ensures.same.0 c.look.ensures.same.1) c.in_err-advance_beside.ensures.begins)

pub returns-then-look-clause-goes : goal.returns-then-look-clause-goes
returns-then-look-clause-goes g c =
    went_more g.R.Read.remaining g.W.Write.contents g.B.Block.meaning c.args.self.now c.look.new.self c.advance_beside.new.self
    (went_nowhere g.R.Read.remaining g.W.Write.contents g.B.Block.meaning c.args.self.now c.look.new.self c.look.ensures.same.0 c.look.ensures.same.1) c.in_ok-advance_beside.ensures.goes

pub returns-clause-goes : goal.returns-clause-goes
returns-clause-goes g c =
    on_ok_weaker c.advance_all.result (went_more g.R.Read.remaining g.W.Write.contents g.B.Block.meaning c.args.self.now c.look.new.self c.advance_all.new.self
    (went_nowhere g.R.Read.remaining g.W.Write.contents g.B.Block.meaning c.args.self.now c.look.new.self c.look.ensures.same.0 c.look.ensures.same.1)) c.advance_all.ensures.goes

pub returns-clause-begins : goal.returns-clause-begins
returns-clause-begins g c =
    on_err_weaker c.advance_all.result (began_more g.R.Read.remaining g.W.Write.contents g.B.Block.meaning c.args.self.now c.look.new.self c.advance_all.new.self
    (went_nowhere g.R.Read.remaining g.W.Write.contents g.B.Block.meaning c.args.self.now c.look.new.self c.look.ensures.same.0 c.look.ensures.same.1)) c.advance_all.ensures.begins
