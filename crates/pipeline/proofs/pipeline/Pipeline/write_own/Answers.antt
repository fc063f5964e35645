use Rattle.std.proofs.Common.{refl}
use Rattle.std.proofs.lemmas.Result.{on_err_weaker, on_ok_weaker}
use Rattle.pipeline.proofs.Running.{began_more, went_more, went_nowhere}
use Rattle.pipeline.proofs.pipeline.Pipeline.write_own.Goals as goal

pub returns-then-is_full-clause-goes : goal.returns-then-is_full-clause-goes
returns-then-is_full-clause-goes g c = went_nowhere g.R.Read.remaining g.W.Write.contents g.B.Block.meaning c.args.self.now c.args.self.now refl refl

pub returns-then-least-eq0-clause-goes : goal.returns-then-least-eq0-clause-goes
returns-then-least-eq0-clause-goes g c =
    on_ok_weaker c.flush_own.result (went_more g.R.Read.remaining g.W.Write.contents g.B.Block.meaning c.args.self.now c.deliver.new.self c.flush_own.new.self c.in_ok-deliver.ensures.goes) c.flush_own.ensures.goes

pub returns-then-least-eq0-clause-begins : goal.returns-then-least-eq0-clause-begins
returns-then-least-eq0-clause-begins g c =
    on_err_weaker c.flush_own.result (began_more g.R.Read.remaining g.W.Write.contents g.B.Block.meaning c.args.self.now c.deliver.new.self c.flush_own.new.self c.in_ok-deliver.ensures.goes) c.flush_own.ensures.begins
