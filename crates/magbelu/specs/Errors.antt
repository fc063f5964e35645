-- Errors, by the faults that they come from: their numbers, names and texts.
use Rattle.std.specs.Prelude.{ℕ, List, Option, Some, codes}
use Rattle.block_parameters.specs.Fault as params
use Rattle.flowgraph.specs.Fault as graphs
use Rattle.graph_file.specs.Refusals as files
use Rattle.graph_file.specs.Texts.{fault_text}
use Rattle.items.specs.Fault as items
use Rattle.pipeline.specs.Faults as pipelines
use Rattle.plant_faults.specs.Fault as plants
use Rattle.threads.specs.Fault as runs
use Rattle.magbelu.specs.declared.error.Error.{Error}
use Rattle.magbelu.specs.declared.error.Error.TheVariants.{Items, Block, Graph, Plant, NoJob, BadKey, File, Pipeline, Run, Memory}

-- the number and the name of an error are those of its fault
abbrev pub row_of : Error → ℕ × List ℕ
row_of (Items fault) = items.row_of fault
row_of (Block fault) = params.row_of fault
row_of (Graph fault) = graphs.row_of fault
row_of (Plant fault) = plants.row_of fault
row_of NoJob = (30, codes "NoJob")
row_of BadKey = (58, codes "BadKey")
row_of (File fault) = files.row_of fault
row_of (Pipeline fault) = pipelines.row_of fault
row_of (Run fault) = runs.row_of fault
row_of Memory = (32, codes "Memory")

-- the text of an error is that of its fault, of which nothing is said where it has what a device answered
abbrev pub text_of : Error → Option (List ℕ)
text_of (Items fault) = Some (items.text_of fault)
text_of (Block fault) = Some (params.text_of fault)
text_of (Graph fault) = Some (graphs.text_of fault)
text_of (Plant fault) = Some (plants.text_of fault)
text_of NoJob = Some (codes "the block has no such job")
text_of BadKey = Some (codes "a tag's key is 1 to 16 letters, digits, `_`, `.` or `-`")
text_of (File fault) = Some (fault_text fault)
text_of (Pipeline fault) = pipelines.text_of fault
text_of (Run fault) = Some (runs.text_of fault)
text_of Memory = Some (codes "out of memory")
