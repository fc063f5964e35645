use Rattle.file_plants.specs.Opening.{opened_of}
use Rattle.flow_core.proofs.Outcomes.{ran}
use Rattle.flow_core.proofs.run.run_file_alone.Goals as goal

pub returns-clause-ok : goal.returns-clause-ok
returns-clause-ok g c =
    let run = c.in_ok-plant-2 in
    ran c.args.file.now _ _ (opened_of c.in_ok-plant.plant) (opened_of run.plant) _ c.in_ok-plant.ensures.ok run.ensures.rests c.in_ok-run_output.ensures
