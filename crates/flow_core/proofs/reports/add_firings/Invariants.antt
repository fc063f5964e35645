use Rattle.std.proofs.Common.{◌≡◌, ◌++◌}
use Rattle.std.specs.List.{flat_map}
use Rattle.stream_model.specs.Lists.{below}
use Rattle.graph_file.specs.Blocks.{drafted}
use Rattle.flow_core.specs.Reports.{firings_line}
use Rattle.flow_core.proofs.reports.add_firings.Given as goal

abbrev pub invariant-loop-block : goal.invariant-loop-block
invariant-loop-block l = l.text.items ≡ l.initial.text.items ++ flat_map (firings_line (drafted l.graph) l.firings) (below l.block)
