use Rattle.std.proofs.Common.{[]}
use Rattle.graph_file.specs.Blocks.{drafted}
use Rattle.flow_core.specs.RawEnds.{rest_line}
use Rattle.flow_core.proofs.Reporting.{grown}
use Rattle.flow_core.proofs.reports.stream_report.Goals as goal

pub loop-block-preserved : goal.loop-block-preserved
loop-block-preserved c =
    grown [] c.loop-block.text.items c.add_rest.new.text.items (rest_line (drafted c.args.plant.now.plant.graph) c.args.plant.now.plant.state c.args.plant.now.kept.sinks) c.loop-block.block c.loop-block.invariant c.in_ok-add_rest.ensures
