use Rattle.std.proofs.Common.{sym}
use Rattle.flowgraph.specs.Flowgraph.{net_of}
use Rattle.pipeline.proofs.Speaking.{asked_nothing, asked_one, is_due}
use Rattle.pipeline.proofs.pipeline.Pipeline.serve.Goals as goal

pub returns-in_default : goal.returns-in_default
returns-in_default g c = asked_nothing g.R.Read.remaining g.W.Write.contents g.C.Requests.asked g.C.Requests.answered (net_of g.B.Block.meaning c.args.self.now.plant.plant.graph) c.args.requests.now c.take.new.self c.args.self.now.plant c.args.self.now.ends.items
    c.in_default.ensures.none c.take.ensures.answered

pub returns : goal.returns
returns g c = asked_one g.R.Read.remaining g.W.Write.contents g.C.Requests.asked g.C.Requests.answered (net_of g.B.Block.meaning c.args.self.now.plant.plant.graph) _ _ _ _ _ _ _ _ _ _
    c.in-Some.ensures.some c.take.ensures.answered c.answer.ensures.asked c.answer.ensures.answered c.answer_to-answer.ensures.answers c.answer_to-answer.ensures.ends (sym c.is_stop-is_stop.ensures)

pub answer-requires : goal.answer-requires
answer-requires g c = is_due (net_of g.B.Block.meaning c.args.self.now.plant.plant.graph) _ _ _ _ _ c.in-Some.ensures.due c.answer_to-answer.ensures.answers
