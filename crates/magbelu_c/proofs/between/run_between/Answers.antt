use Rattle.std.proofs.Common.{ap, ◌∙◌}
use Rattle.flowgraph.specs.Flowgraph.{Flowgraph}
use Rattle.kinds.specs.declared.kind.Kind.{Kind}
use Rattle.plant.specs.Plant.{PlantState}
use Rattle.graph_file.specs.Blocks.{drafted}
use Rattle.file_plants.specs.Opening.{Opened, opened_of}
use Rattle.magbelu_c.specs.Between.{Misfed, NoPlant}
use Rattle.magbelu_c.proofs.Entries.{misnamed, no_memory, untaken}
use Rattle.magbelu_c.proofs.between.run_between.Goals as goal

pub returns-in-Err-clause-fails : goal.returns-in-Err-clause-fails
returns-in-Err-clause-fails c = NoPlant c.in-Err.fault c.in-Err.ensures.refused

pub returns-in-Err-feed_all-clause-fails : goal.returns-in-Err-feed_all-clause-fails
returns-in-Err-feed_all-clause-fails c = Misfed c.in-Err-feed_all.fault (opened_of c.in-Ok.idle) c.in-Ok.ensures.opens c.in-Err-feed_all.ensures.misfed

pub returns-in-Err-test_names-clause-fails : goal.returns-in-Err-test_names-clause-fails
returns-in-Err-test_names-clause-fails c =
    misnamed c.args.file.now c.args.order c.args.inputs.now c.args.outputs.now (opened_of c.in-Ok.idle) c.in-Ok.ensures.opens (drafted c.graph.result.now)
    (ap (λ (g : Flowgraph Kind). drafted g) c.graph.ensures ∙ ap (λ (p : PlantState Kind). drafted p.graph) c.in_default.ensures.same) c.in-Err-test_names.fault c.in-Err-test_names.ensures.misnamed

pub returns-in-Err-run_to_rest-clause-fails : goal.returns-in-Err-run_to_rest-clause-fails
returns-in-Err-run_to_rest-clause-fails c =
    no_memory c.args.file.now c.args.order c.args.inputs.now c.args.outputs.now (opened_of c.in-Ok.idle) c.in-Ok.ensures.opens c.from.result c.from.ensures

pub returns-clause-fails : goal.returns-clause-fails
returns-clause-fails c =
    untaken c.args.file.now c.args.order c.args.inputs.now c.args.outputs.now (opened_of c.in-Ok.idle) c.in-Ok.ensures.opens (drafted c.in-Ok-run_to_rest.plant.graph)
    (ap (λ (p : Opened). p.draft) c.in-Ok-run_to_rest.ensures.same ∙ ap (λ (p : PlantState Kind). drafted p.graph) c.in_default.ensures.same) c.in-Err-take_all.fault c.in-Err-take_all.ensures.fails
