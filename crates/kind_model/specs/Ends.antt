-- The kinds at the ends of a network: the source of a tape, and sinks.
use Rattle.stream_model.specs.declared.vocabulary.ItemType.{ItemType}
use Rattle.stream_model.specs.declared.vocabulary.Role.TheVariants as roles
use Rattle.stream_model.specs.Lists.{item}
use Rattle.stream_model.specs.Meaning.{Meaning, input}
use Rattle.stream_model.specs.Shapes.{ports, at_rate}

-- gives the tape that it is fed, item for item (GNU Radio manual; the tape is fed and not a parameter, which is own)
abbrev pub vector_source : ItemType → Meaning
vector_source t = record (at_rate (ports 0 t) (ports 1 t) 1 1) {
  role = roles.Source;
  out = λ ts xs p n. item
      (input xs 0) n;
}

-- keeps its input (GNU Radio manual)
abbrev pub vector_sink : ItemType → Meaning
vector_sink t = record (at_rate (ports 1 t) (ports 0 t) 1 1) { role = roles.Keep }

-- drops its input (GNU Radio manual)
abbrev pub null_sink : ItemType → Meaning
null_sink t = record (at_rate (ports 1 t) (ports 0 t) 1 1) { role = roles.Discard }
