use Rattle.std.proofs.Common.{◌≡◌, ◌∙◌, ◌<◌, sym, subst, arith, length, map, get_or, List, []}
use Rattle.std.proofs.lemmas.List.{length-map}
use Rattle.std.proofs.lemmas.Result.{err_from_is_err_and}
use Rattle.kinds.specs.Kind.{meaning_of}
use Rattle.call_history.specs.History.{Noted, noted_by}
use Rattle.call_history.specs.Logs.{AreLogs}
use Rattle.call_history.specs.Reached.{opening_of}
use Rattle.flow_runs.specs.AtDesk.{AtDesk, live_desk}
use Rattle.flow_runs.specs.Threads.{HasCome}
use Rattle.flow_core.proofs.Flows.{breaks_first}
use Rattle.flow_runs.proofs.Lines.{only_one, one_log, ended_at, came_live, stopped_live}
use Rattle.flow_core.proofs.Sessions.{if_ok}
use Rattle.flow_runs.proofs.live.live_plant.Goals as goal

pub returns-in_err-callers-clause-stopped : goal.returns-in_err-callers-clause-stopped
returns-in_err-callers-clause-stopped g c =
    let p = err_from_is_err_and c.from_residual.result c.from_residual.ensures.1 in
    let input = g.I.ByteIn.remaining c.args.input.now in
    let out = g.O.ByteOut.contents c.args.output.now in
    rw (p.1, p.2) (input, out, breaks_first (AtDesk meaning_of) (live_desk c.args.plant.graph) input out)

pub returns-in-Ok-clause-came : goal.returns-in-Ok-clause-came
returns-in-Ok-clause-came g c =
    let callers = c.in_ok-callers.callers in
    let caller = only_one callers.items (sym callers.ok.0 ∙ c.in_ok-callers.ensures.one) in
    let of = c.in_ok-callers.ensures.of caller.0 in
    let some : 0 < length callers.items = omega (arith, callers.ok.0, c.in_ok-callers.ensures.one) in
    let finished = c.in-Ok.finished in
    let logs : List (List Noted) = map (λ l. map noted_by l.items) finished.logs.items in
    let one : length logs ≡ 1 = length-map _ _ ∙ sym finished.logs.ok.0 ∙ c.in-Ok.ensures.logged ∙ c.in_ok-callers.ensures.one in
    let history : List Noted = map noted_by finished.history.items in
    came_live c.args.plant.graph (get_or logs 0 []) _ _ _ _ _
    (ended_at c.args.plant.graph (get_or logs 0 []) g.I.ByteIn.remaining g.I.ByteIn.failed g.O.ByteOut.contents g.O.ByteOut.failed _ _ _ _ _ _ _ of.0 of.1 c.requires.reads c.requires.writes
    (rw c.from_plant.ensures at c.in-Ok.ensures.ran 0 caller.0 some))
    (λ log r. HasCome meaning_of _ (opening_of c.args.plant) log r.0) c.came_to_rest.result (c.came_to_rest.ensures.ended caller.0)
    (if_ok _ _ c.came_to_rest.result c.came_to_rest.ensures.rested
    (λ r h. record {
      history = history;
      logs = subst (λ ls. AreLogs ls history) (one_log logs one) c.in-Ok.ensures.logs;
      reached = (h (opening_of c.args.plant) history (rw c.from_plant.ensures at c.in-Ok.ensures.ends)).0;
    }))

pub returns-in-Ok-clause-settled : goal.returns-in-Ok-clause-settled
returns-in-Ok-clause-settled g c =
    if_ok _ _ c.came_to_rest.result c.came_to_rest.ensures.rested (λ r h. (h (opening_of c.args.plant) _ (rw c.from_plant.ensures at c.in-Ok.ensures.ends)).1)

pub returns-in-Ok-clause-stopped : goal.returns-in-Ok-clause-stopped
returns-in-Ok-clause-stopped g c =
    let callers = c.in_ok-callers.callers in
    let caller = only_one callers.items (sym callers.ok.0 ∙ c.in_ok-callers.ensures.one) in
    let of = c.in_ok-callers.ensures.of caller.0 in
    let some : 0 < length callers.items = omega (arith, callers.ok.0, c.in_ok-callers.ensures.one) in
    stopped_live c.args.plant.graph _ _ _ _ _ _
    (ended_at c.args.plant.graph _ g.I.ByteIn.remaining g.I.ByteIn.failed g.O.ByteOut.contents g.O.ByteOut.failed _ _ _ _ _ _ _ of.0 of.1 c.requires.reads c.requires.writes
    (rw c.from_plant.ensures at c.in-Ok.ensures.ran 0 caller.0 some))
    c.came_to_rest.result (c.came_to_rest.ensures.ended caller.0)
