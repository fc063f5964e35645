use Rattle.std.proofs.Common.{◌∙◌, length, ap}
use Rattle.std.specs.Arc.{arc_value}
use Rattle.tags.specs.TagList.{tags_from}
use Rattle.flowgraph.specs.Flowgraph.{net_of}
use Rattle.plant_storage.specs.Tapes.{TapeState}
use Rattle.streaming.proofs.InMemory.{tags_of_tape, tags_of_sink}
use Rattle.streaming.proofs.memory.tags_in_memory.Goals as goal

pub returns-in-Source-clause-source : goal.returns-in-Source-clause-source
returns-in-Source-clause-source g c = λ inside source.
    c.tags_in_memory.ensures
    ∙ ap (λ k. length (tags_from k c.recording.result.now.tags)) c.recording.ensures.from
    ∙ ap (λ ts. length (tags_from c.deref-in-Source.result.now.from ts)) c.recording.ensures.tags
    ∙ ap (λ (t : TapeState). length (tags_from t.from t.tags)) c.deref-in-Source.ensures
    ∙ tags_of_tape (net_of g.B.Block.meaning (arc_value c.args.parts.now.graph)) _ _ _ c.requires.keeps c.args.block.0 inside source c.index.result.now c.index.ensures

pub returns-in-Keep-clause-sink : goal.returns-in-Keep-clause-sink
returns-in-Keep-clause-sink g c = λ inside keeper.
    c.tags_in_memory-in-Keep.ensures
    ∙ tags_of_sink (net_of g.B.Block.meaning (arc_value c.args.parts.now.graph)) _ _ _ c.requires.keeps c.args.block.0 inside keeper c.index-in-Keep.result.now c.index-in-Keep.ensures
