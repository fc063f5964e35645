use Rattle.std.proofs.Common.{refl, sym, ◌∙◌, arith}
use Rattle.std.proofs.lemmas.Result.{on_ok_weaker, on_err_weaker}
use Rattle.flowgraph.specs.Flowgraph.{net_of}
use Rattle.pipeline.proofs.Moving.{begins_by_intake, goes_by_intake, goes_none, goes_set, there}
use Rattle.std.proofs.lemmas.Result.{IfErr-weaker}
use Rattle.pipeline.specs.declared.end.End.TheVariants.{Input}
use Rattle.pipeline.specs.Faults.{IsOfReader}
use Rattle.pipeline.proofs.Faulting.{fault_of_end}
use Rattle.pipeline.proofs.pipeline.Pipeline.take_in.Goals as goal

pub returns-then-len-at-clause-goes : goal.returns-then-len-at-clause-goes
returns-then-len-at-clause-goes g c = goes_none g.R.Read.remaining g.W.Write.contents _ _ _ _ refl

pub returns-else-len-at-clause-goes : goal.returns-else-len-at-clause-goes
returns-else-len-at-clause-goes g c = goes_set g.R.Read.remaining g.W.Write.contents _ c.args.self.now.plant c.args.self.now.ends.items c.args.block.0 c.index_mut.result.now (there c.args.self.now.ends.items c.args.block.0 c.index_mut.result.now (omega (arith, c.if-len-at.false)) c.index_mut.ensures.value)

pub returns-else-len-at-2-clause-goes : goal.returns-else-len-at-2-clause-goes
returns-else-len-at-2-clause-goes g c = goes_set g.R.Read.remaining g.W.Write.contents _ c.args.self.now.plant c.args.self.now.ends.items c.args.block.0 c.index_mut.result.now (there c.args.self.now.ends.items c.args.block.0 c.index_mut.result.now (omega (arith, c.if-len-at.false)) c.index_mut.ensures.value)

pub returns-in-Input-clause-goes : goal.returns-in-Input-clause-goes
returns-in-Input-clause-goes g c =
    let p = c.args.self.now.plant in
    let es = c.args.self.now.ends.items in
    let net = net_of g.B.Block.meaning p.plant.graph in
    let b = c.args.block.0 in
    on_ok_weaker c.take_in.result (goes_by_intake g.R.Read.remaining g.W.Write.contents net p c.take_in.new.plant es b c.in-Input.input c.take_in.new.self (omega (arith, c.if-len-at.false)) (sym (there es b c.index_mut.result.now (omega (arith, c.if-len-at.false)) c.index_mut.ensures.value) ∙ c.in-Input.is)) c.take_in.ensures.ok

pub returns-in-Input-clause-begins : goal.returns-in-Input-clause-begins
returns-in-Input-clause-begins g c =
    let p = c.args.self.now.plant in
    let es = c.args.self.now.ends.items in
    let net = net_of g.B.Block.meaning p.plant.graph in
    let b = c.args.block.0 in
    on_err_weaker c.take_in.result (begins_by_intake g.R.Read.remaining g.W.Write.contents net p c.take_in.new.plant es b c.in-Input.input c.take_in.new.self (omega (arith, c.if-len-at.false)) (sym (there es b c.index_mut.result.now (omega (arith, c.if-len-at.false)) c.index_mut.ensures.value) ∙ c.in-Input.is)) c.take_in.ensures.err

pub returns-in-Input-clause-fault : goal.returns-in-Input-clause-fault
returns-in-Input-clause-fault g c =
    IfErr-weaker c.take_in.result (IsOfReader g.R.Read.remaining c.args.block c.take_in.new.self) _
    (fault_of_end g.R.Read.remaining c.args.self.now.ends.items c.args.block (Input c.take_in.new.self) (omega (arith, c.if-len-at.false))) c.take_in.ensures.fault
