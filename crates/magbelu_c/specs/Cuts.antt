-- How tapes and streams are cut, as rows of a table.
use Rattle.slices.specs.declared.plan.Source.{Source}
use Rattle.slices.specs.declared.plan.Sink.{Sink}
use Rattle.slices.specs.declared.slice.Part.{Part}
use Rattle.magbelu_c.specs.declared.cuts.CutSource.{CutSource}
use Rattle.magbelu_c.specs.declared.cuts.CutSink.{CutSink}
use Rattle.magbelu_c.specs.declared.cuts.CutPart.{CutPart}

abbrev pub source_row : Source → CutSource
source_row s = record { block = s.block.0; period = s.period; overlap = s.overlap }

abbrev pub sink_row : Sink → CutSink
sink_row s = record { block = s.block.0; period = s.period; drop = s.drop }

abbrev pub part_row : Part → CutPart
part_row p = record { block = p.block.0; drop = p.drop; stands = p.stands }
