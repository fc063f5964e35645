use Rattle.std.proofs.Common.{rules, map}
use Rattle.std.proofs.lemmas.Option.{IfSome_then}
use Rattle.call_history.specs.History.{noted_by}
use Rattle.threads.proofs.Promises.{have_returned}
use Rattle.threads.proofs.live_crew.run_all.Goals as goal

pub returns-clause-ran : goal.returns-clause-ran
returns-clause-ran g c = IfSome_then c.return_callers.result c.return_callers.ensures.kept
    (λ came kept. have_returned g.C.Caller.ran c.args.graph.now c.args.callers.items came.callers.items (map (λ l. map noted_by l.items) came.logs.items) c.in_ok-desks.desks.items (search rules) c.in_ok-desks.ensures.seated kept)
