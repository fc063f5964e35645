use Rattle.std.proofs.lemmas.Result.{on_err_weaker, on_ok_weaker}
use Rattle.pipeline.proofs.Running.{began_more, went_more, went_nowhere}
use Rattle.pipeline.proofs.pipeline.Pipeline.read_ready.Goals as goal

pub returns-in-Some-clause-goes : goal.returns-in-Some-clause-goes
returns-in-Some-clause-goes g c =
    on_ok_weaker c.take_in.result (went_more g.R.Read.remaining g.W.Write.contents g.B.Block.meaning c.args.self.now c.next_ready.new.self c.take_in.new.self
    (went_nowhere g.R.Read.remaining g.W.Write.contents g.B.Block.meaning c.args.self.now c.next_ready.new.self c.next_ready.ensures.same.0 c.next_ready.ensures.same.1)) c.take_in.ensures.goes

pub returns-in-Some-clause-begins : goal.returns-in-Some-clause-begins
returns-in-Some-clause-begins g c =
    on_err_weaker c.take_in.result (began_more g.R.Read.remaining g.W.Write.contents g.B.Block.meaning c.args.self.now c.next_ready.new.self c.take_in.new.self
    (went_nowhere g.R.Read.remaining g.W.Write.contents g.B.Block.meaning c.args.self.now c.next_ready.new.self c.next_ready.ensures.same.0 c.next_ready.ensures.same.1)) c.take_in.ensures.begins

pub returns-then-not-are_waiting-clause-goes : goal.returns-then-not-are_waiting-clause-goes
returns-then-not-are_waiting-clause-goes g c = went_nowhere g.R.Read.remaining g.W.Write.contents g.B.Block.meaning c.args.self.now c.next_ready.new.self c.next_ready.ensures.same.0 c.next_ready.ensures.same.1

pub returns-else-not-are_waiting-clause-goes : goal.returns-else-not-are_waiting-clause-goes
returns-else-not-are_waiting-clause-goes g c = went_nowhere g.R.Read.remaining g.W.Write.contents g.B.Block.meaning c.args.self.now c.next_ready.new.self c.next_ready.ensures.same.0 c.next_ready.ensures.same.1
