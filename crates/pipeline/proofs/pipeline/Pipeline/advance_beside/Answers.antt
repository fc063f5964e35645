use Rattle.std.proofs.Common.{rules, ◌≡◌, subst, sym}
use Rattle.std.specs.Prelude.{IfErr}
use Rattle.std.proofs.lemmas.Result.{IfErr-weaker, on_err_weaker, on_ok_weaker}
use Rattle.pipeline.specs.declared.fault.PipelineFault.{PipelineFault}
use Rattle.pipeline.specs.declared.fault.PipelineFault.TheVariants.{Memory}
use Rattle.pipeline.specs.Faults.{IsFaultOf, NoMemory}
use Rattle.pipeline.proofs.Delivering.{on_err}
use Rattle.pipeline.proofs.Running.{began_more, began_nowhere, went_more}
use Rattle.pipeline.proofs.pipeline.Pipeline.advance_beside.Goals as goal

pub returns-in_err-has_moved-clause-fault : goal.returns-in_err-has_moved-clause-fault
returns-in_err-has_moved-clause-fault g c =
    let told : IfErr c.from_residual.result (λ (fault : PipelineFault). fault ≡ Memory) = search rules in
    IfErr-weaker c.from_residual.result (λ (fault : PipelineFault). fault ≡ Memory) _
    (λ fault is. subst (IsFaultOf g.R.Read.remaining c.round_beside.new.self.ends.items) (sym is) NoMemory) told

pub returns-in_err-has_moved-clause-begins : goal.returns-in_err-has_moved-clause-begins
returns-in_err-has_moved-clause-begins g c = on_err c.from_residual.result
    (began_more g.R.Read.remaining g.W.Write.contents g.B.Block.meaning c.args.self.now c.round_beside.new.self c.round_beside.new.self c.round_beside.ensures.goes
    (began_nowhere g.R.Read.remaining g.W.Write.contents g.B.Block.meaning c.round_beside.new.self))

pub returns-in_err-write_beside-clause-begins : goal.returns-in_err-write_beside-clause-begins
returns-in_err-write_beside-clause-begins g c = on_err _
    (began_more g.R.Read.remaining g.W.Write.contents g.B.Block.meaning c.args.self.now c.round_beside.new.self c.write_beside-2.new.self c.round_beside.ensures.goes c.in_err-write_beside.ensures.begins)

pub returns-then-has_moved-clause-goes : goal.returns-then-has_moved-clause-goes
returns-then-has_moved-clause-goes g c =
    on_ok_weaker c.write_beside.result (went_more g.R.Read.remaining g.W.Write.contents g.B.Block.meaning c.args.self.now c.round_beside.new.self c.write_beside.new.self c.round_beside.ensures.goes) c.write_beside.ensures.goes

pub returns-then-has_moved-clause-begins : goal.returns-then-has_moved-clause-begins
returns-then-has_moved-clause-begins g c =
    on_err_weaker c.write_beside.result (began_more g.R.Read.remaining g.W.Write.contents g.B.Block.meaning c.args.self.now c.round_beside.new.self c.write_beside.new.self c.round_beside.ensures.goes) c.write_beside.ensures.begins

pub returns-clause-goes : goal.returns-clause-goes
returns-clause-goes g c =
    on_ok_weaker c.read_ready.result (went_more g.R.Read.remaining g.W.Write.contents g.B.Block.meaning c.args.self.now c.write_beside-2.new.self c.read_ready.new.self
    (went_more g.R.Read.remaining g.W.Write.contents g.B.Block.meaning c.args.self.now c.round_beside.new.self c.write_beside-2.new.self c.round_beside.ensures.goes c.in_ok-write_beside.ensures.goes)) c.read_ready.ensures.goes

pub returns-clause-begins : goal.returns-clause-begins
returns-clause-begins g c =
    on_err_weaker c.read_ready.result (began_more g.R.Read.remaining g.W.Write.contents g.B.Block.meaning c.args.self.now c.write_beside-2.new.self c.read_ready.new.self
    (went_more g.R.Read.remaining g.W.Write.contents g.B.Block.meaning c.args.self.now c.round_beside.new.self c.write_beside-2.new.self c.round_beside.ensures.goes c.in_ok-write_beside.ensures.goes)) c.read_ready.ensures.begins
