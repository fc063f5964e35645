use Rattle.std.proofs.Common.{◌∙◌, sym, subst, arith}
use Rattle.std.proofs.lemmas.Result.{err_from_is_err_and}
use Rattle.flow_runs.specs.Serve.{IsLiveTo, StopsLive}
use Rattle.flow_core.proofs.Flows.{appends_nothing}
use Rattle.flow_core.proofs.Outcomes.{wrote_run}
use Rattle.flow_runs.proofs.Outcomes.{becomes_ok, becomes_err, live_cut, live_stopped, live_untold, ran_live}
use Rattle.flow_core.specs.declared.fault.Fault.{Fault}
use Rattle.flow_runs.specs.declared.fault.ServeFault.TheVariants.{Command}
use Rattle.flow_runs.proofs.live.run_live.Goals as goal

pub returns-in_err-plant-clause-does_not : goal.returns-in_err-plant-clause-does_not
returns-in_err-plant-clause-does_not g c =
    let p = err_from_is_err_and c.from_residual.result c.from_residual.ensures.1 in
    rw (p.1, p.2)
    (live_stopped c.args.file.now (g.I.ByteIn.remaining c.args.input.now) _ (g.O.ByteOut.contents c.args.output.now) _ c.in-Ok.plant c.in-Ok.ensures.ok c.in_err-plant.field-0.0 c.in_err-plant.ensures.stopped)

pub returns-in_err-ran-clause-does_not : goal.returns-in_err-ran-clause-does_not
returns-in_err-ran-clause-does_not g c =
    let p = err_from_is_err_and c.from_residual-in_err-ran.result c.from_residual-in_err-ran.ensures.1 in
    let came = c.in_ok-plant.ensures.came in
    rw (p.1, p.2)
    (live_untold c.args.file.now (g.I.ByteIn.remaining c.args.input.now) (g.I.ByteIn.remaining c.live_plant.new.input) (g.O.ByteOut.contents c.args.output.now)
    (g.O.ByteOut.contents c.live_plant.new.output) c.in-Ok.plant c.in-Ok.ensures.ok came.0 came.2)

pub returns-then-failures-eq18446744073709551615-clause-does_not : goal.returns-then-failures-eq18446744073709551615-clause-does_not
returns-then-failures-eq18446744073709551615-clause-does_not g c =
    let lived = c.in_ok-plant in
    let ran = c.in_ok-ran.ran in
    let came = lived.ensures.came in
    let input = g.I.ByteIn.remaining c.args.input.now in
    let out = g.O.ByteOut.contents c.args.output.now in
    let last = g.O.ByteOut.contents c.live_plant.new.output in
    live_cut c.args.file.now input (g.I.ByteIn.remaining c.live_plant.new.input) out last c.in-Ok.plant c.in-Ok.ensures.ok last _ ran.given.text.items ran.given.status
    (ran_live c.args.file.now ran.given.text.items ran.given.status c.in-Ok.plant lived.plant _ _ came.0 input out came.1 came.2 c.in-Ok.ensures.ok c.recall.ensures.capacities c.in_ok-ran.ensures)
    (0, omega arith, appends_nothing last)

pub returns-clause-does : goal.returns-clause-does
returns-clause-does g c =
    let lived = c.in_ok-plant in
    let ran = c.in_ok-ran.ran in
    let came = lived.ensures.came in
    let input = g.I.ByteIn.remaining c.args.input.now in
    let out = g.O.ByteOut.contents c.args.output.now in
    let between = g.O.ByteOut.contents c.live_plant.new.output in
    becomes_ok _ c.write_run.result c.of_command.result _ _ c.of_command.ensures c.write_run.ensures.ok
    (λ ended given is h. (
      between,
      wrote_run (IsLiveTo c.args.file.now input out) between (g.O.ByteOut.contents c.write_run.new.output) ran.given.text.items ran.given.status given.status ran.stalled given.stalled
          (ran_live c.args.file.now ran.given.text.items ran.given.status c.in-Ok.plant lived.plant _ _ came.0 input out came.1 came.2 c.in-Ok.ensures.ok c.recall.ensures.capacities c.in_ok-ran.ensures)
          (is.0 ∙ h.0) (is.1 ∙ h.1) h.2,
    ))

pub returns-clause-does_not : goal.returns-clause-does_not
returns-clause-does_not g c =
    let lived = c.in_ok-plant in
    let ran = c.in_ok-ran.ran in
    let came = lived.ensures.came in
    let input = g.I.ByteIn.remaining c.args.input.now in
    let out = g.O.ByteOut.contents c.args.output.now in
    let between = g.O.ByteOut.contents c.live_plant.new.output in
    let last = g.O.ByteOut.contents c.write_run.new.output in
    becomes_err _ c.write_run.result c.of_command.result _ _ c.of_command.ensures c.write_run.ensures.err
    (λ fault h. subst (λ (f : Fault). StopsLive c.args.file.now input (g.I.ByteIn.remaining c.live_plant.new.input) out last (Command f)) (sym h.0)
    (live_cut c.args.file.now input (g.I.ByteIn.remaining c.live_plant.new.input) out last c.in-Ok.plant c.in-Ok.ensures.ok between _ ran.given.text.items ran.given.status
    (ran_live c.args.file.now ran.given.text.items ran.given.status c.in-Ok.plant lived.plant _ _ came.0 input out came.1 came.2 c.in-Ok.ensures.ok c.recall.ensures.capacities c.in_ok-ran.ensures) h.1))
