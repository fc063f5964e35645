-- The tape of a source, with who has it.
use Rattle.std.specs.Prelude.{Bool, true, false}
use Rattle.std.specs.Arc.{arc_value}
use Rattle.plant_storage.specs.Tapes.{TapeState}
use Rattle.plant_storage.specs.declared.source_tape.SourceTape.{SourceTape}
use Rattle.plant_storage.specs.declared.source_tape.SourceTape.TheVariants.{Own, Shared}

-- the tape
abbrev pub tape_in : SourceTape → TapeState
tape_in (Own tape) = tape
tape_in (Shared tape) = arc_value tape

-- whether it is shared with nobody, whatever is copied of it
abbrev pub is_own : SourceTape → Bool
is_own (Own tape) = true
is_own (Shared tape) = false
