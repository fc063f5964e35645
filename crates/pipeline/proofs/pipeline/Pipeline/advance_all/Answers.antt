use Rattle.std.proofs.Common.{rules, ◌≡◌, refl, subst, sym}
use Rattle.std.specs.Prelude.{IfErr}
use Rattle.std.proofs.lemmas.Result.{IfErr-weaker}
use Rattle.flowgraph.specs.Flowgraph.{net_of}
use Rattle.pipeline.proofs.Delivering.{on_err}
use Rattle.pipeline.proofs.Moving.{begins_more, begins_none, goes_more, goes_still}
use Rattle.pipeline.specs.declared.fault.PipelineFault.{PipelineFault}
use Rattle.pipeline.specs.declared.fault.PipelineFault.TheVariants.{Memory}
use Rattle.pipeline.specs.Faults.{IsFaultOf, NoMemory}
use Rattle.pipeline.proofs.pipeline.Pipeline.advance_all.Goals as goal

pub returns-in_err-has_moved-clause-fault : goal.returns-in_err-has_moved-clause-fault
returns-in_err-has_moved-clause-fault g c =
    let told : IfErr c.from_residual.result (λ (fault : PipelineFault). fault ≡ Memory) = search rules in
    IfErr-weaker c.from_residual.result (λ (fault : PipelineFault). fault ≡ Memory) _
    (λ fault is. subst (IsFaultOf g.R.Read.remaining c.round.new.self.ends.items) (sym is) NoMemory) told

pub returns-in_err-has_moved-clause-begins : goal.returns-in_err-has_moved-clause-begins
returns-in_err-has_moved-clause-begins g c = on_err c.from_residual.result
    (begins_more g.R.Read.remaining g.W.Write.contents g.B.Block.meaning c.args.self.now.plant c.round.new.self.plant c.round.new.self.plant c.args.self.now.ends.items c.round.new.self.ends.items c.round.new.self.ends.items c.round.ensures.goes (begins_none g.R.Read.remaining g.W.Write.contents _ _ _ _ refl))

pub returns-in_err-write-clause-begins : goal.returns-in_err-write-clause-begins
returns-in_err-write-clause-begins g c = on_err _
    (begins_more g.R.Read.remaining g.W.Write.contents g.B.Block.meaning c.args.self.now.plant c.round.new.self.plant c.write.new.self.plant c.args.self.now.ends.items c.round.new.self.ends.items c.write.new.self.ends.items c.round.ensures.goes c.in_err-write.ensures.begins)

pub returns-then-has_moved-clause-goes : goal.returns-then-has_moved-clause-goes
returns-then-has_moved-clause-goes g c =
    (goes_more g.R.Read.remaining g.W.Write.contents g.B.Block.meaning c.args.self.now.plant c.round.new.self.plant c.write.new.self.plant c.args.self.now.ends.items c.round.new.self.ends.items c.write.new.self.ends.items c.round.ensures.goes c.in_ok-write.ensures.goes)

pub returns-in_err-write_all-clause-begins : goal.returns-in_err-write_all-clause-begins
returns-in_err-write_all-clause-begins g c = on_err _
    (begins_more g.R.Read.remaining g.W.Write.contents g.B.Block.meaning c.args.self.now.plant c.round.new.self.plant c.write_all.new.self.plant c.args.self.now.ends.items c.round.new.self.ends.items c.write_all.new.self.ends.items c.round.ensures.goes c.in_err-write_all.ensures.begins)

pub returns-then-all_done-clause-goes : goal.returns-then-all_done-clause-goes
returns-then-all_done-clause-goes g c =
    (goes_more g.R.Read.remaining g.W.Write.contents g.B.Block.meaning c.args.self.now.plant c.round.new.self.plant c.write_all.new.self.plant c.args.self.now.ends.items c.round.new.self.ends.items c.write_all.new.self.ends.items c.round.ensures.goes c.in_ok-write_all.ensures.goes)

pub returns-in_err-take_in-in-Ok-Some-clause-begins : goal.returns-in_err-take_in-in-Ok-Some-clause-begins
returns-in_err-take_in-in-Ok-Some-clause-begins g c = on_err _
    (begins_more g.R.Read.remaining g.W.Write.contents g.B.Block.meaning c.args.self.now.plant c.next_source.new.self.plant c.take_in.new.self.plant c.args.self.now.ends.items c.next_source.new.self.ends.items c.take_in.new.self.ends.items (goes_more g.R.Read.remaining g.W.Write.contents g.B.Block.meaning c.args.self.now.plant c.write_all.new.self.plant c.next_source.new.self.plant c.args.self.now.ends.items c.write_all.new.self.ends.items c.next_source.new.self.ends.items (goes_more g.R.Read.remaining g.W.Write.contents g.B.Block.meaning c.args.self.now.plant c.round.new.self.plant c.write_all.new.self.plant c.args.self.now.ends.items c.round.new.self.ends.items c.write_all.new.self.ends.items c.round.ensures.goes c.in_ok-write_all.ensures.goes) (goes_still g.R.Read.remaining g.W.Write.contents (net_of g.B.Block.meaning c.write_all.new.self.plant.plant.graph) c.write_all.new.self.plant c.next_source.new.self.plant c.write_all.new.self.ends.items c.next_source.new.self.ends.items c.next_source.ensures.same.0 c.next_source.ensures.same.1)) c.in_err-take_in-in-Ok-Some.ensures.begins)

pub returns-in_ok-take_in-in-Ok-Some-clause-goes : goal.returns-in_ok-take_in-in-Ok-Some-clause-goes
returns-in_ok-take_in-in-Ok-Some-clause-goes g c =
    (goes_more g.R.Read.remaining g.W.Write.contents g.B.Block.meaning c.args.self.now.plant c.next_source.new.self.plant c.take_in.new.self.plant c.args.self.now.ends.items c.next_source.new.self.ends.items c.take_in.new.self.ends.items (goes_more g.R.Read.remaining g.W.Write.contents g.B.Block.meaning c.args.self.now.plant c.write_all.new.self.plant c.next_source.new.self.plant c.args.self.now.ends.items c.write_all.new.self.ends.items c.next_source.new.self.ends.items (goes_more g.R.Read.remaining g.W.Write.contents g.B.Block.meaning c.args.self.now.plant c.round.new.self.plant c.write_all.new.self.plant c.args.self.now.ends.items c.round.new.self.ends.items c.write_all.new.self.ends.items c.round.ensures.goes c.in_ok-write_all.ensures.goes) (goes_still g.R.Read.remaining g.W.Write.contents (net_of g.B.Block.meaning c.write_all.new.self.plant.plant.graph) c.write_all.new.self.plant c.next_source.new.self.plant c.write_all.new.self.ends.items c.next_source.new.self.ends.items c.next_source.ensures.same.0 c.next_source.ensures.same.1)) c.in_ok-take_in-in-Ok-Some.ensures.goes)

pub returns-in-Ok-None-clause-goes : goal.returns-in-Ok-None-clause-goes
returns-in-Ok-None-clause-goes g c =
    (goes_more g.R.Read.remaining g.W.Write.contents g.B.Block.meaning c.args.self.now.plant c.write_all.new.self.plant c.next_source.new.self.plant c.args.self.now.ends.items c.write_all.new.self.ends.items c.next_source.new.self.ends.items (goes_more g.R.Read.remaining g.W.Write.contents g.B.Block.meaning c.args.self.now.plant c.round.new.self.plant c.write_all.new.self.plant c.args.self.now.ends.items c.round.new.self.ends.items c.write_all.new.self.ends.items c.round.ensures.goes c.in_ok-write_all.ensures.goes) (goes_still g.R.Read.remaining g.W.Write.contents (net_of g.B.Block.meaning c.write_all.new.self.plant.plant.graph) c.write_all.new.self.plant c.next_source.new.self.plant c.write_all.new.self.ends.items c.next_source.new.self.ends.items c.next_source.ensures.same.0 c.next_source.ensures.same.1))

pub returns-in-Err-clause-goes : goal.returns-in-Err-clause-goes
returns-in-Err-clause-goes g c =
    (goes_more g.R.Read.remaining g.W.Write.contents g.B.Block.meaning c.args.self.now.plant c.write_all.new.self.plant c.next_source.new.self.plant c.args.self.now.ends.items c.write_all.new.self.ends.items c.next_source.new.self.ends.items (goes_more g.R.Read.remaining g.W.Write.contents g.B.Block.meaning c.args.self.now.plant c.round.new.self.plant c.write_all.new.self.plant c.args.self.now.ends.items c.round.new.self.ends.items c.write_all.new.self.ends.items c.round.ensures.goes c.in_ok-write_all.ensures.goes) (goes_still g.R.Read.remaining g.W.Write.contents (net_of g.B.Block.meaning c.write_all.new.self.plant.plant.graph) c.write_all.new.self.plant c.next_source.new.self.plant c.write_all.new.self.ends.items c.next_source.new.self.ends.items c.next_source.ensures.same.0 c.next_source.ensures.same.1))
