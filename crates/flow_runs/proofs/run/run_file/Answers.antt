use Rattle.flow_runs.proofs.Outcomes.{ran_in_threads}
use Rattle.flow_runs.proofs.run.run_file.Goals as goal

pub returns-clause-ok : goal.returns-clause-ok
returns-clause-ok g c =
    let run = c.in_ok-plant-2 in
    ran_in_threads c.args.file.now _ _ c.in_ok-plant.plant run.plant _ _ run.ensures.came_back c.in_ok-plant.ensures.ok c.recall.ensures.capacities c.recall-2.ensures.sound c.in_ok-run_output.ensures
