use Rattle.std.proofs.Common.{refl, ap, ◌∙◌}
use Rattle.std.proofs.lemmas.Result.{on_err_weaker, on_ok_weaker}
use Rattle.pipeline.specs.Faults.{NoMemory}
use Rattle.pipeline.proofs.Delivering.{on_err}
use Rattle.pipeline.proofs.Running.{began_more, began_nowhere, went_more, went_nowhere}
use Rattle.pipeline.proofs.pipeline.Pipeline.write_rest.Goals as goal

pub loop-looks-init : goal.loop-looks-init
loop-looks-init g c = record {
  goes = went_nowhere g.R.Read.remaining g.W.Write.contents g.B.Block.meaning c.args.self.now c.args.self.now refl refl;
  same = refl;
}

pub loop-looks-preserved : goal.loop-looks-preserved
loop-looks-preserved g c = record {
  goes = went_more g.R.Read.remaining g.W.Write.contents g.B.Block.meaning c.args.self.now c.look.new.self c.write_beside.new.self
      (went_more g.R.Read.remaining g.W.Write.contents g.B.Block.meaning c.args.self.now c.loop-looks.self c.look.new.self c.loop-looks.invariant.goes
      (went_nowhere g.R.Read.remaining g.W.Write.contents g.B.Block.meaning c.loop-looks.self c.look.new.self c.look.ensures.same.0 c.look.ensures.same.1)) c.in_ok-write_beside.ensures.goes;
  same = c.write_beside.ensures.same ∙ ap (λ s. s.plant) c.look.ensures.same.0 ∙ c.loop-looks.invariant.same;
}

pub returns-then-not-look-clause-goes : goal.returns-then-not-look-clause-goes
returns-then-not-look-clause-goes g c =
    on_ok_weaker c.write_all.result (went_more g.R.Read.remaining g.W.Write.contents g.B.Block.meaning c.args.self.now c.look.new.self c.write_all.new.self
    (went_more g.R.Read.remaining g.W.Write.contents g.B.Block.meaning c.args.self.now c.loop-looks.self c.look.new.self c.loop-looks.invariant.goes
    (went_nowhere g.R.Read.remaining g.W.Write.contents g.B.Block.meaning c.loop-looks.self c.look.new.self c.look.ensures.same.0 c.look.ensures.same.1))) c.write_all.ensures.goes

pub returns-then-not-look-clause-begins : goal.returns-then-not-look-clause-begins
returns-then-not-look-clause-begins g c =
    on_err_weaker c.write_all.result (began_more g.R.Read.remaining g.W.Write.contents g.B.Block.meaning c.args.self.now c.look.new.self c.write_all.new.self
    (went_more g.R.Read.remaining g.W.Write.contents g.B.Block.meaning c.args.self.now c.loop-looks.self c.look.new.self c.loop-looks.invariant.goes
    (went_nowhere g.R.Read.remaining g.W.Write.contents g.B.Block.meaning c.loop-looks.self c.look.new.self c.look.ensures.same.0 c.look.ensures.same.1))) c.write_all.ensures.begins

pub returns-in_err-write_beside-clause-begins : goal.returns-in_err-write_beside-clause-begins
returns-in_err-write_beside-clause-begins g c = on_err c.from_residual.result
    (began_more g.R.Read.remaining g.W.Write.contents g.B.Block.meaning c.args.self.now c.look.new.self c.write_beside.new.self
    (went_more g.R.Read.remaining g.W.Write.contents g.B.Block.meaning c.args.self.now c.loop-looks.self c.look.new.self c.loop-looks.invariant.goes
    (went_nowhere g.R.Read.remaining g.W.Write.contents g.B.Block.meaning c.loop-looks.self c.look.new.self c.look.ensures.same.0 c.look.ensures.same.1)) c.in_err-write_beside.ensures.begins)

pub returns-clause-begins : goal.returns-clause-begins
returns-clause-begins g c =
    began_more g.R.Read.remaining g.W.Write.contents g.B.Block.meaning c.args.self.now c.loop-looks.self c.loop-looks.self c.loop-looks.invariant.goes
    (began_nowhere g.R.Read.remaining g.W.Write.contents g.B.Block.meaning c.loop-looks.self)

pub returns-clause-fault : goal.returns-clause-fault
returns-clause-fault g c = NoMemory
