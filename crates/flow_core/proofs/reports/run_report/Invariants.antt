use Rattle.std.proofs.Common.{◌≡◌, ◌++◌, []}
use Rattle.std.specs.List.{flat_map}
use Rattle.stream_model.specs.Lists.{below}
use Rattle.graph_file.specs.Blocks.{drafted}
use Rattle.flow_core.specs.Reports.{sink_line}
use Rattle.flow_core.proofs.reports.run_report.Given as goal

abbrev pub invariant-loop-block : goal.invariant-loop-block
invariant-loop-block l = l.text.items ≡ [] ++ flat_map (sink_line (drafted l.plant.graph) l.plant.state) (below l.block)
