use Rattle.flowgraph.specs.Flowgraph.{net_of}
use Rattle.pipeline.proofs.Delivering.{on_err}
use Rattle.pipeline.proofs.Speaking.{alone_begins, alone_goes}
use Rattle.pipeline.proofs.pipeline.Pipeline.run_with.Goals as goal

pub returns-in_err-settled-clause-begins : goal.returns-in_err-settled-clause-begins
returns-in_err-settled-clause-begins g c =
    on_err c.from_residual.result (alone_begins g.R.Read.remaining g.W.Write.contents _ (net_of g.B.Block.meaning c.args.self.now.plant.plant.graph) _ _ c.args.self.now.plant c.run_asked.new.self.plant c.args.self.now.ends.items c.run_asked.new.self.ends.items c.in_err-settled.ensures.begins)

pub returns-clause-goes : goal.returns-clause-goes
returns-clause-goes g c = alone_goes g.R.Read.remaining g.W.Write.contents _ (net_of g.B.Block.meaning c.args.self.now.plant.plant.graph) _ _ c.args.self.now.plant c.run_asked.new.self.plant c.args.self.now.ends.items c.run_asked.new.self.ends.items _ c.in_ok-settled.ensures.goes
