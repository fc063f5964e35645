use Rattle.std.proofs.Common.{sym, subst}
use Rattle.flowgraph.specs.Flowgraph.{net_of}
use Rattle.settings.specs.Values.{value_of}
use Rattle.stream_model.specs.Machine as machine
use Rattle.plant.specs.Answers.{reply_of}
use Rattle.pipeline.specs.declared.requests.Request.{Request}
use Rattle.pipeline.specs.declared.requests.Request.TheVariants as request
use Rattle.pipeline.specs.declared.requests.Told.TheVariants as told
use Rattle.pipeline.specs.Requests.{Answers}
use Rattle.pipeline.proofs.Speaking.{answers_call}
use Rattle.pipeline.proofs.TakingIn.{always_answered}
use Rattle.pipeline.proofs.pipeline.Pipeline.answer_to.Goals as goal

pub returns-in-Set-clause-answers : goal.returns-in-Set-clause-answers
returns-in-Set-clause-answers g c =
    let p = c.args.self.now.plant in
    let net = net_of g.B.Block.meaning p.plant.graph in
    subst (λ (r : Request). Answers net p c.set.new.self (record { request = r; answer = record { come = c.come.result; told = told.Set c.set.result } })) (sym c.in-Set.is)
    (answers_call net p c.set.new.self (request.Set c.in-Set.block c.in-Set.at c.in-Set.value) (told.Set c.set.result) c.come.result c.set.ensures.answered c.come.ensures
    (machine.Set c.in-Set.block.0 c.in-Set.at (value_of c.in-Set.value)) (reply_of (λ t. machine.Taken t.0) c.set.result) c.set.ensures.answered c.set.ensures.kept c.recall.ensures.stays)

pub returns-in-Close-clause-answers : goal.returns-in-Close-clause-answers
returns-in-Close-clause-answers g c =
    let p = c.args.self.now.plant in
    let net = net_of g.B.Block.meaning p.plant.graph in
    let reply = reply_of (λ t. machine.Closed t.0) c.close.result in
    subst (λ (r : Request). Answers net p c.close.new.self (record { request = r; answer = record { come = c.come-in-Close.result; told = told.Closed c.close.result } })) (sym c.in-Close.is)
    (answers_call net p c.close.new.self (request.Close c.in-Close.source) (told.Closed c.close.result) c.come-in-Close.result c.close.ensures.answered c.come-in-Close.ensures
    (machine.Close c.in-Close.source.0) reply (always_answered (machine.close_of net p.plant.state c.in-Close.source.0) p.plant c.close.new.self.plant reply c.close.ensures.answered) c.close.ensures.kept c.recall.ensures.stays)
