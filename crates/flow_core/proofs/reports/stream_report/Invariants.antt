use Rattle.std.proofs.Common.{◌≡◌, ◌++◌, []}
use Rattle.std.specs.List.{flat_map}
use Rattle.stream_model.specs.Lists.{below}
use Rattle.graph_file.specs.Blocks.{drafted}
use Rattle.flow_core.specs.RawEnds.{rest_line}
use Rattle.flow_core.proofs.reports.stream_report.Given as goal

abbrev pub invariant-loop-block : goal.invariant-loop-block
invariant-loop-block l = l.text.items ≡ [] ++ flat_map (rest_line (drafted l.plant.plant.graph) l.plant.plant.state l.plant.kept.sinks) (below l.block)
