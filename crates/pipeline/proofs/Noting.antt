-- What is told of a read that failed.
use Rattle.std.proofs.Common.{◌≡◌, Bool, ◌∙◌}
use Rattle.pipeline.specs.declared.fault.PipelineFault.{PipelineFault}
use Rattle.pipeline.specs.declared.fault.PipelineFault.TheVariants.{Plant, Joined, NotJoined, Read, CutItem, ReadMarks, BadMark, MarkPlace, WriteItems, WriteTags, Memory}
use Rattle.pipeline.specs.Ends.{InputState}
use Rattle.pipeline.specs.Faults.{NotesMarks, NotesReads}
use Rattle.pipeline.specs.Marks.{have_failed}

-- what was noted of marks before a call in which no more of them failed
pub noted_from : {R : Type 0} (i j k : InputState R) (fault : PipelineFault) → j.has_failed ≡ i.has_failed → have_failed j.marks ≡ have_failed i.marks → NotesReads j k fault → NotesReads i k fault
noted_from i j k (Plant c f) same marks noted = (noted.0 ∙ same, noted.1 ∙ marks)
noted_from i j k (Joined c) same marks noted = (noted.0 ∙ same, noted.1 ∙ marks)
noted_from i j k (NotJoined c) same marks noted = (noted.0 ∙ same, noted.1 ∙ marks)
noted_from i j k (Read c e) same marks noted = (noted.0, noted.1 ∙ marks)
noted_from i j k (CutItem c) same marks noted = (noted.0 ∙ same, noted.1 ∙ marks)
noted_from i j k (ReadMarks c e) same marks noted = (noted.0 ∙ same, noted.1)
noted_from i j k (BadMark c n) same marks noted = (noted.0 ∙ same, noted.1 ∙ marks)
noted_from i j k (MarkPlace c n) same marks noted = (noted.0 ∙ same, noted.1 ∙ marks)
noted_from i j k (WriteItems c e) same marks noted = (noted.0 ∙ same, noted.1 ∙ marks)
noted_from i j k (WriteTags c e) same marks noted = (noted.0 ∙ same, noted.1 ∙ marks)
noted_from i j k Memory same marks noted = (noted.0 ∙ same, noted.1 ∙ marks)

-- the same of the reader of marks alone
pub marks_noted_from : (was mid new : Bool) (fault : PipelineFault) → mid ≡ was → NotesMarks mid new fault → NotesMarks was new fault
marks_noted_from was mid new (Plant c f) same noted = noted ∙ same
marks_noted_from was mid new (Joined c) same noted = noted ∙ same
marks_noted_from was mid new (NotJoined c) same noted = noted ∙ same
marks_noted_from was mid new (Read c e) same noted = noted ∙ same
marks_noted_from was mid new (CutItem c) same noted = noted ∙ same
marks_noted_from was mid new (ReadMarks c e) same noted = noted
marks_noted_from was mid new (BadMark c n) same noted = noted ∙ same
marks_noted_from was mid new (MarkPlace c n) same noted = noted ∙ same
marks_noted_from was mid new (WriteItems c e) same noted = noted ∙ same
marks_noted_from was mid new (WriteTags c e) same noted = noted ∙ same
marks_noted_from was mid new Memory same noted = noted ∙ same
