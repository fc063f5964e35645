use Rattle.std.proofs.Common.{rules, ◌≡◌, map, IfSome, subst}
use Rattle.std.proofs.lemmas.Result.{IfOk-weaker}
use Rattle.call_history.specs.History.{noted_by}
use Rattle.threads.specs.Live.{HaveReturned}
use Rattle.threads.proofs.calling.live_with.Goals as goal

pub returns-clause-ran : goal.returns-clause-ran
returns-clause-ran g c =
    let same : c.deref.result.now ≡ c.args.plant.graph = search rules in
    let ran = subst (λ graph. IfSome c.in_scope-came.result (λ came. HaveReturned g.C.Caller.ran graph c.args.callers.items came.callers.items (map (λ l. map noted_by l.items) came.logs.items))) same c.in_scope-came.ensures.ran in
    IfOk-weaker c.ended.result _ _ (λ f came. subst (λ returned. IfSome returned (λ came. HaveReturned g.C.Caller.ran c.args.plant.graph c.args.callers.items came.callers.items (map (λ l. map noted_by l.items) came.logs.items))) came ran) c.ended.ensures.callers
