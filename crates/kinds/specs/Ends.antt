-- What the blocks at the ends of a network mean.
use Rattle.std.specs.Prelude.{Bool, true, false}
use Rattle.stream_model.specs.declared.vocabulary.ItemType.{ItemType}
use Rattle.stream_model.specs.Meaning.{Meaning, IsLawful}
use Rattle.kind_model.specs.Ends.{vector_source, vector_sink, null_sink}
use Rattle.kind_laws.specs.Ends.{vector_sink-lawful, null_sink-lawful}
use Rattle.kinds.specs.declared.source.VectorSource.{VectorSource}

-- what the source means
abbrev pub source_meaning : VectorSource → Meaning
source_meaning b = vector_source b.item

-- what a sink means that keeps its input, and what one that drops it
abbrev pub sink_of : Bool → ItemType → Meaning
sink_of true t = vector_sink t
sink_of false t = null_sink t

pub sink_of-lawful : (keeps : Bool) (t : ItemType) → IsLawful (sink_of keeps t)
sink_of-lawful true t = vector_sink-lawful t
sink_of-lawful false t = null_sink-lawful t
