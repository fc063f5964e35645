use Rattle.std.proofs.Common.{refl, sym, ◌∙◌, arith}
use Rattle.flowgraph.specs.Flowgraph.{net_of}
use Rattle.pipeline.proofs.Delivering.{on_err, on_ok}
use Rattle.pipeline.proofs.Moving.{begins_by_delivery, delivery_begins, flushed, goes_by_delivery, goes_none, goes_set, there}
use Rattle.std.proofs.lemmas.Result.{IfErr-weaker}
use Rattle.pipeline.specs.declared.end.End.TheVariants.{Output}
use Rattle.pipeline.specs.Faults.{IsOfWriters}
use Rattle.pipeline.proofs.Faulting.{fault_of_end}
use Rattle.pipeline.proofs.pipeline.Pipeline.flush_own.Goals as goal

pub returns-then-len-at-clause-goes : goal.returns-then-len-at-clause-goes
returns-then-len-at-clause-goes g c = goes_none g.R.Read.remaining g.W.Write.contents _ _ _ _ refl

pub returns-else-len-at-clause-goes : goal.returns-else-len-at-clause-goes
returns-else-len-at-clause-goes g c = goes_set g.R.Read.remaining g.W.Write.contents _ c.args.self.now.plant c.args.self.now.ends.items c.args.block.0 c.index_mut.result.now (there c.args.self.now.ends.items c.args.block.0 c.index_mut.result.now (omega (arith, c.if-len-at.false)) c.index_mut.ensures.value)

pub returns-else-len-at-2-clause-goes : goal.returns-else-len-at-2-clause-goes
returns-else-len-at-2-clause-goes g c = goes_set g.R.Read.remaining g.W.Write.contents _ c.args.self.now.plant c.args.self.now.ends.items c.args.block.0 c.index_mut.result.now (there c.args.self.now.ends.items c.args.block.0 c.index_mut.result.now (omega (arith, c.if-len-at.false)) c.index_mut.ensures.value)

pub returns-in-Output-clause-goes : goal.returns-in-Output-clause-goes
returns-in-Output-clause-goes g c =
    let p = c.args.self.now.plant in
    let es = c.args.self.now.ends.items in
    let net = net_of g.B.Block.meaning p.plant.graph in
    let b = c.args.block.0 in
    let contents = g.W.Write.contents in
    on_ok c.flush.result (goes_by_delivery g.R.Read.remaining contents net p p es b c.in-Output.output c.flush.new.output (omega (arith, c.if-len-at.false)) (sym (there es b c.index_mut.result.now (omega (arith, c.if-len-at.false)) c.index_mut.ensures.value) ∙ c.in-Output.is)
    (flushed g.R.Read.remaining contents net p b c.in-Output.output c.flush.new.output c.flush.ensures.rest c.flush.ensures.items c.flush.ensures.tags))

pub returns-in-Output-clause-begins : goal.returns-in-Output-clause-begins
returns-in-Output-clause-begins g c =
    let p = c.args.self.now.plant in
    let es = c.args.self.now.ends.items in
    let net = net_of g.B.Block.meaning p.plant.graph in
    let b = c.args.block.0 in
    let contents = g.W.Write.contents in
    on_err c.flush.result (begins_by_delivery g.R.Read.remaining contents net p p es b c.in-Output.output c.flush.new.output (omega (arith, c.if-len-at.false)) (sym (there es b c.index_mut.result.now (omega (arith, c.if-len-at.false)) c.index_mut.ensures.value) ∙ c.in-Output.is)
    (delivery_begins g.R.Read.remaining contents net p p b c.in-Output.output c.flush.new.output (flushed g.R.Read.remaining contents net p b c.in-Output.output c.flush.new.output c.flush.ensures.rest c.flush.ensures.items c.flush.ensures.tags)))

pub returns-in-Output-clause-fault : goal.returns-in-Output-clause-fault
returns-in-Output-clause-fault g c =
    IfErr-weaker c.flush.result (IsOfWriters c.args.block c.flush.new.output) _
    (fault_of_end g.R.Read.remaining c.args.self.now.ends.items c.args.block (Output c.flush.new.output) (omega (arith, c.if-len-at.false))) c.flush.ensures.fault
