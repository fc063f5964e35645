use Rattle.std.proofs.Common.{subst}
use Rattle.pipeline.specs.declared.requests.Request.{Request}
use Rattle.pipeline.specs.Requests.{IsAnswer}
use Rattle.request_box.proofs.caller.Caller.call.Goals as goal

pub returns-in-Some : goal.returns-in-Some
returns-in-Some g c = subst (λ (r : Request). IsAnswer r c.in-Some.answer) c.in_ok-awaited.ensures.0 c.in-Some.ensures
