-- What the ends of a pipeline have read and written.
use Rattle.std.specs.Prelude.{ℕ, ℤ, ◌≡◌, ◌<◌, ◌≤◌, List, [], ◌++◌, length, take, Bool, true, false, not, slice_index_or, ⊤, Option, Some, None}
use Rattle.std.specs.Io.KnownBytes.{Appends, Consumes, IsAtEnd}
use Rattle.stream_model.specs.Tags.{Tag, tags_within}
use Rattle.stream_model.specs.Network.{Network, Handed, State, handed_at, role_at, is_keeper}
use Rattle.machine_laws.specs.Sound.{fired}
use Rattle.machine_laws.specs.Waits.{ForFeed, wait_of}
use Rattle.items.specs.Items.{type_of}
use Rattle.raw_items.specs.Values.{all_bytes_of}
use Rattle.raw_items.specs.Decoding.{HasDecoded}
use Rattle.byte_io.specs.Ends.{AppendsBeginning}
use Rattle.streaming.specs.Beside.{is_held}
use Rattle.streaming.specs.Streaming.{StreamingState, drained, stream_into, tags_into}
use Rattle.pipeline.specs.declared.end.End.{End}
use Rattle.pipeline.specs.declared.end.End.TheVariants as ends
use Rattle.pipeline.specs.Ends.{InputState}
use Rattle.pipeline.specs.Parts.{items_of_part, lines_of_part}
use Rattle.pipeline.specs.Marks.{AreOver, AreRead, AreTold, ReadsMarks, have_failed}
use Rattle.pipeline.specs.declared.end.Output.{Output}

-- how known bytes grow by a text: by all of it, or by a beginning
abbrev pub Growth : Type 1
Growth = Option (List ℕ) → Option (List ℕ) → List ℕ → Type 0

-- the bytes of a writer grew by a text, where there is a writer
abbrev pub WriterGrows : {W : Type 0} → Growth → (W → Option (List ℕ)) → Option W → Option W → List ℕ → Type 0
WriterGrows Grows contents None None text = ⊤
WriterGrows Grows contents (Some w) (Some w') text = Grows (contents w) (contents w') text
WriterGrows Grows contents None (Some w') text = ⊥
WriterGrows Grows contents (Some w) None text = ⊥

-- the writers of sink b were given what was drained of it: items `from` to below `to` of the stream that enters it, and
-- the tags on them, as far as they are of the part that is written
pub record HasWritten {W : Type 0} (Grows : Growth) (contents : W → Option (List ℕ)) (net : Network) (st : State)
    (b from to : ℕ) (old new : Output W) : Type 0 where
  pub order : new.order ≡ old.order
  pub item : type_of new.items ≡ type_of old.items
  pub part : new.part ≡ old.part
  pub items : WriterGrows Grows contents old.items_to new.items_to (all_bytes_of (type_of old.items) old.order
      (items_of_part old.part (stream_into net st b) from to))
  pub tags : WriterGrows Grows contents old.tags_to new.tags_to (lines_of_part old.part
      (tags_within from to (tags_into net st b)))

-- how a reader and what its source, block b, is handed change
abbrev pub Intake : Type 0 → Type 1
Intake R = (b : ℕ) → InputState R → InputState R → Handed → Handed → Type 0

-- what was read was fed: if the tape ended with the items of some bytes, it ends with those of these bytes and what was
-- read. If its tags were those at some start and the marks that were given on of some bytes, they are those that were
-- given on of these bytes and what was read of the reader of marks. The source is closed only as its reader ends: it is
-- then at its end, its bytes were whole items, and no mark is left, unless the tape goes on behind its part. A reader
-- that had ended is not read, nor its source fed. No read failed
pub record HasRead {R : Type 0} (remaining : R → Option (List ℕ)) (b : ℕ) (old new : InputState R)
    (handed handed' : Handed) : Type 0 where
  pub bytes : List ℕ
  pub read : Consumes (remaining old.reader) (remaining new.reader) bytes
  pub layout : new.decoder ≡ record old.decoder { cut = new.decoder.cut }
  pub fed : (before : List ℕ) (start : List ℤ) → HasDecoded old.decoder before start handed.tape
      → HasDecoded new.decoder (before ++ bytes) start handed'.tape
  pub marks : List ℕ
  pub marks_read : ReadsMarks remaining old.marks new.marks marks
  pub marked : (before : List ℕ) (start : List Tag) → AreTold remaining b old.marks before start handed.tags
      → AreTold remaining b new.marks (before ++ marks) start handed'.tags
  pub alone : handed' ≡ record handed { tape = handed'.tape; tags = handed'.tags; closed = handed'.closed }
  pub stays_open : new.is_ended ≡ false → handed'.closed ≡ handed.closed
  pub closes : old.is_ended ≡ false → new.is_ended ≡ true → (handed'.closed ≡ true) × IsAtEnd (remaining new.reader)
      × (new.decoder.cut ≡ []) × AreOver new.marks
  pub over : old.is_ended ≡ true → (new ≡ old) × (handed' ≡ handed)
  pub none_failed : new.has_failed ≡ old.has_failed
  pub no_mark_failed : have_failed new.marks ≡ have_failed old.marks

-- how many bytes a piece has at most
abbrev pub longest_piece : ℕ
longest_piece = 65536

-- one piece was read, or nothing, and then maybe marks, and nothing of it was fed. A reader that had ended was not read
pub record IsUnfed {R : Type 0} (remaining : R → Option (List ℕ)) (old new : InputState R) : Type 0 where
  pub piece : List ℕ
  pub few : length piece ≤ longest_piece
  pub read : Consumes (remaining old.reader) (remaining new.reader) piece
  pub marks_read : AreRead remaining old.marks new.marks
  pub stays : new.is_ended ≡ old.is_ended
  pub over : old.is_ended ≡ true → new ≡ old

-- what was read was fed as far as the reader was in `fed`, and what was read behind that was not. There is such a rest
-- only at source `short`
pub record MayHaveRead {R : Type 0} (remaining : R → Option (List ℕ)) (short b : ℕ) (old new : InputState R)
    (handed handed' : Handed) : Type 0 where
  pub fed : InputState R
  pub has_read : HasRead remaining b old fed handed handed'
  pub rest : IsUnfed remaining fed new
  pub others : (b ≡ short → ⊥) → new ≡ fed

-- what became of an end of block b in the meantime
abbrev pub EndMoves : {R W B : Type 0} → Growth → Intake R → (W → Option (List ℕ)) → Network
    → (old new : StreamingState B) → ℕ → End R W → End R W → Type 0
EndMoves Grows Reads contents net old new b ends.Open ends.Open = (handed_at new.plant.state.handed b
    ≡ handed_at old.plant.state.handed b) × (drained new b ≡ drained old b)
EndMoves Grows Reads contents net old new b (ends.Input i) (ends.Input i') = Reads b i i'
    (handed_at old.plant.state.handed b) (handed_at new.plant.state.handed b) × (drained new b ≡ drained old b)
EndMoves Grows Reads contents net old new b (ends.Output o) (ends.Output o') =
    (handed_at new.plant.state.handed b ≡ handed_at old.plant.state.handed b) ×
    (b < length net.nodes → is_keeper (role_at net b) ≡ true → HasWritten Grows contents net new.plant.state b
    (drained old b) (drained new b) o o')
EndMoves Grows Reads contents net old new b _ _ = ⊥

abbrev pub end_at : {R W : Type 0} → List (End R W) → ℕ → End R W
end_at es b = slice_index_or es b ends.Open

-- what was drained of each sink stays the beginning of its stream
abbrev pub KeepsDrained : {B : Type 0} → Network → (old new : StreamingState B) → Type 0
KeepsDrained net old new = (b : ℕ) → b < length net.nodes → is_keeper (role_at net b) ≡ true →
    (take (drained old b) (stream_into net new.plant.state b) ≡ take (drained old b)
    (stream_into net old.plant.state b)) ×
    (tags_within 0 (drained old b) (tags_into net new.plant.state b)
    ≡ tags_within 0 (drained old b) (tags_into net old.plant.state b))

-- a pipeline went on
pub record Moves {R W B : Type 0} (Grows : Growth) (Reads : Intake R) (contents : W → Option (List ℕ)) (net : Network)
    (old new : StreamingState B) (es es' : List (End R W)) : Type 0 where
  pub graph : new.plant.graph ≡ old.plant.graph
  pub capacities : new.plant.capacities ≡ old.plant.capacities
  pub count : length es' ≡ length es
  pub rises : (b : ℕ) → drained old b ≤ drained new b
  pub stays : KeepsDrained net old new
  pub each : (b : ℕ) → b < length es → EndMoves Grows Reads contents net old new b (end_at es b) (end_at es' b)

-- all that was read was fed, and all that was drained is written
abbrev pub GoesOn : {R W B : Type 0} → (R → Option (List ℕ)) → (W → Option (List ℕ)) → Network
    → (old new : StreamingState B) → (es es' : List (End R W)) → Type 0
GoesOn remaining contents net old new es es' = Moves Appends (HasRead remaining) contents net old new es es'

-- the same, but that what is written is a beginning of what was drained, and that of one source the piece that was read
-- last may not be fed
abbrev pub Begins : {R W B : Type 0} → (R → Option (List ℕ)) → (W → Option (List ℕ)) → Network
    → (old new : StreamingState B) → (es es' : List (End R W)) → Type 0
Begins remaining contents net old new es es' = (short : ℕ) × Moves AppendsBeginning (MayHaveRead remaining short)
    contents net old new es es'

-- a sink with an output was drained of all that it has taken
abbrev pub IsDelivered : {R W B : Type 0} → StreamingState B → ℕ → End R W → Type 0
IsDelivered p b (ends.Output o) = drained p b ≡ fired p.plant.state b
IsDelivered p b ends.Open = ⊤
IsDelivered p b (ends.Input i) = ⊤

abbrev pub AreDelivered : {R W B : Type 0} → Network → StreamingState B → List (End R W) → Type 0
AreDelivered net p es = (b : ℕ) → b < length net.nodes → IsDelivered p b (end_at es b)

-- so were those alone that are not held back
abbrev pub AreDeliveredBeside : {R W B : Type 0} → List Bool → Network → StreamingState B → List (End R W) → Type 0
AreDeliveredBeside held net p es = (b : ℕ) → b < length net.nodes → is_held held b ≡ false
    → IsDelivered p b (end_at es b)

-- an end is a reader of items that is not at its end
abbrev pub has_more : {R W : Type 0} → End R W → Bool
has_more (ends.Input i) = not i.is_ended
has_more ends.Open = false
has_more (ends.Output o) = false

-- a reader is not at its end, and its source has given all that it was fed
abbrev pub Lacks : {R W B : Type 0} → Network → StreamingState B → ℕ → End R W → Type 0
Lacks net p b (ends.Input i) = (i.is_ended ≡ false) × (wait_of net p.plant.capacities p.plant.state b ≡ ForFeed)
Lacks net p b ends.Open = ⊥
Lacks net p b (ends.Output o) = ⊥

abbrev pub NoneLacks : {R W B : Type 0} → Network → StreamingState B → List (End R W) → Type 0
NoneLacks net p es = (b : ℕ) → b < length net.nodes → Lacks net p b (end_at es b) → ⊥
