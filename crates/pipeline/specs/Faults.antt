-- Which fault stops a pipeline.
use Rattle.std.specs.Prelude.{ℕ, Bool, true, ◌≡◌, List, [], ◌++◌, Option, Some, None, IsSome, Result, Ok, Err, ⊤, codes}
use Rattle.std.specs.Fmt.{decimal}
use Rattle.std.specs.Io.KnownBytes.{IsAtEnd}
use Rattle.stream_model.specs.Machine.{Reply}
use Rattle.flowgraph.specs.declared.parts.BlockId.{BlockId}
use Rattle.plant_faults.specs.declared.fault.PlantFault.{PlantFault}
use Rattle.plant_faults.specs.declared.fault.PlantFault.TheVariants as plant
use Rattle.plant_faults.specs.Fault as plants
use Rattle.plant.specs.Answers.{refusal_of}
use Rattle.pipeline.specs.declared.end.End.{End}
use Rattle.pipeline.specs.declared.end.End.TheVariants as ends
use Rattle.pipeline.specs.declared.end.Output.{Output}
use Rattle.pipeline.specs.declared.fault.PipelineFault.{PipelineFault}
use Rattle.pipeline.specs.declared.fault.PipelineFault.TheVariants.{Plant, Joined, NotJoined, Read, CutItem, ReadMarks, BadMark, MarkPlace, WriteItems, WriteTags, Memory}
use Rattle.pipeline.specs.Ends.{InputState}
use Rattle.pipeline.specs.Marks.{have_failed}
use Rattle.pipeline.specs.Pipeline.{end_at}

-- the number by which a fault is reported, and the name beside it
abbrev pub row_of : PipelineFault → ℕ × List ℕ
row_of (Plant b fault) = plants.row_of fault
row_of (Joined b) = (34, codes "Joined")
row_of (NotJoined b) = (35, codes "NotJoined")
row_of (Read b error) = (51, codes "Read")
row_of (CutItem b) = (53, codes "CutItem")
row_of (ReadMarks b error) = (51, codes "Read")
row_of (BadMark b line) = (50, codes "BadLine")
row_of (MarkPlace b line) = (25, codes "TagPlace")
row_of (WriteItems b error) = (52, codes "Write")
row_of (WriteTags b error) = (52, codes "Write")
row_of Memory = (32, codes "Memory")

-- what is printed of it, where that does not have what a device answered
abbrev pub text_of : PipelineFault → Option (List ℕ)
text_of (Plant b fault) = Some (plants.text_of fault)
text_of (Joined b) = Some (codes "the block is joined already")
text_of (NotJoined b) = Some (codes "the block is joined to no reader of items")
text_of (CutItem b) = Some (codes "the input ends within an item")
text_of (BadMark b line) = Some (codes "line " ++ decimal line ++ codes " of the marks is no such line")
text_of (MarkPlace b line) = Some (codes "line " ++ decimal line
    ++ codes " of the marks is of no item that it may be of")
text_of Memory = Some (codes "out of memory")
text_of _ = None

-- what a plant refuses of a block
abbrev pub of_plant : BlockId → PlantFault → PipelineFault
of_plant b plant.Memory = Memory
of_plant b fault = Plant b fault

-- a fault of a source's readers: a read of one failed, what that of items gave ends within an item, what that of marks
-- gave is refused, or the plant refuses what they gave
abbrev pub IsOfReader : {R : Type 0} → (R → Option (List ℕ)) → BlockId → InputState R → PipelineFault → Type 0
IsOfReader remaining b i Memory = ⊤
IsOfReader remaining b i (Plant c fault) = c ≡ b
IsOfReader remaining b i (Read c error) = (c ≡ b) × (i.has_failed ≡ true)
IsOfReader remaining b i (CutItem c) = (c ≡ b) × IsAtEnd (remaining i.reader) × (i.decoder.cut ≡ [] → ⊥)
IsOfReader remaining b i (ReadMarks c error) = (c ≡ b) × (have_failed i.marks ≡ true)
IsOfReader remaining b i (BadMark c line) = (c ≡ b) × IsSome i.marks
IsOfReader remaining b i (MarkPlace c line) = (c ≡ b) × IsSome i.marks
IsOfReader remaining b i _ = ⊥

-- a fault of a reader of marks: it failed, a line says nothing that it may, or is of no item that it may be of
abbrev pub IsOfMarks : BlockId → PipelineFault → Type 0
IsOfMarks b Memory = ⊤
IsOfMarks b (ReadMarks c error) = c ≡ b
IsOfMarks b (BadMark c line) = c ≡ b
IsOfMarks b (MarkPlace c line) = c ≡ b
IsOfMarks b _ = ⊥

-- that a read of marks failed is told just where one did
abbrev pub NotesMarks : (old new : Bool) → PipelineFault → Type 0
NotesMarks old new (ReadMarks b error) = new ≡ true
NotesMarks old new _ = new ≡ old

-- that a read of a source's readers failed is told just where one did, and of the one that failed
abbrev pub NotesReads : {R : Type 0} → (old new : InputState R) → PipelineFault → Type 0
NotesReads old new (Read b error) = (new.has_failed ≡ true) × (have_failed new.marks ≡ have_failed old.marks)
NotesReads old new (ReadMarks b error) = (new.has_failed ≡ old.has_failed) × (have_failed new.marks ≡ true)
NotesReads old new _ = (new.has_failed ≡ old.has_failed) × (have_failed new.marks ≡ have_failed old.marks)

-- a fault of a sink's writers: that of its items failed, or that of its tags
abbrev pub IsOfWriters : {W : Type 0} → BlockId → Output W → PipelineFault → Type 0
IsOfWriters b o Memory = ⊤
IsOfWriters b o (Plant c fault) = c ≡ b
IsOfWriters b o (WriteItems c error) = (c ≡ b) × IsSome o.items_to
IsOfWriters b o (WriteTags c error) = (c ≡ b) × IsSome o.tags_to
IsOfWriters b o _ = ⊥

-- the tags were not written, nor their writer asked, where that of the items failed
abbrev pub LeavesTags : {W : Type 0} → (old new : Output W) → PipelineFault → Type 0
LeavesTags old new (WriteItems c error) = new.tags_to ≡ old.tags_to
LeavesTags old new _ = ⊤

-- it is not that the writer of tags failed, nor in the second that that of items did
abbrev pub IsNotOfTags : PipelineFault → Type 0
IsNotOfTags (WriteTags c error) = ⊥
IsNotOfTags _ = ⊤

abbrev pub IsNotOfItems : PipelineFault → Type 0
IsNotOfItems (WriteItems c error) = ⊥
IsNotOfItems _ = ⊤

-- an input ends within an item
abbrev pub IsCut : PipelineFault → Type 0
IsCut (CutItem b) = ⊤
IsCut _ = ⊥

-- a fault of what a block is joined to
abbrev pub IsOfEnd : {R W : Type 0} → (R → Option (List ℕ)) → BlockId → End R W → PipelineFault → Type 0
IsOfEnd remaining b (ends.Input i) fault = IsOfReader remaining b i fault
IsOfEnd remaining b (ends.Output o) fault = IsOfWriters b o fault
IsOfEnd remaining b ends.Open fault = ⊥

-- memory ran out, or it is the fault of what a block is joined to
pub data IsFaultOf {R W : Type 0} (remaining : R → Option (List ℕ)) (es : List (End R W)) : PipelineFault → Type 0 where
  NoMemory : IsFaultOf remaining es Memory
  OfEnd : (b : BlockId) (fault : PipelineFault) → IsOfEnd remaining b (end_at es b.0) fault
      → IsFaultOf remaining es fault

-- the reply of the machine that a result tells of; none where memory ran out
abbrev pub told_reply : {A : Type 0} → (A → Reply) → Result A PipelineFault → Option Reply
told_reply accepted (Ok a) = Some (accepted a)
told_reply accepted (Err (Plant b fault)) = refusal_of fault
told_reply accepted (Err _) = None

-- the plant refuses what a source is to be fed, or memory ran out
abbrev pub IsOfPlant : BlockId → PipelineFault → Type 0
IsOfPlant b Memory = ⊤
IsOfPlant b (Plant c fault) = c ≡ b
IsOfPlant b _ = ⊥
