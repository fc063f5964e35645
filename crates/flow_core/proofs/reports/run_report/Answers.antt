use Rattle.std.proofs.Common.{[]}
use Rattle.graph_file.specs.Blocks.{drafted}
use Rattle.flow_core.specs.Reports.{sink_line}
use Rattle.flow_core.proofs.Reporting.{grown}
use Rattle.flow_core.proofs.reports.run_report.Goals as goal

pub loop-block-preserved : goal.loop-block-preserved
loop-block-preserved c =
    grown [] c.loop-block.text.items c.add_sink.new.text.items (sink_line (drafted c.args.plant.now.graph) c.args.plant.now.state) c.loop-block.block c.loop-block.invariant c.in_ok-add_sink.ensures
