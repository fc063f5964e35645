-- What calls from C answer, and what they write into the caller's buffers.
use Rattle.std.specs.Prelude.{◌≡◌, ℕ, ◌==◌, List, [], ◌++◌, length, drop, nat_le, Option, Some, Result, if◌then◌else◌}
use Rattle.graph_file.specs.Refusals.{Refusal}
use Rattle.flow_core.specs.declared.fault.Fault.{Fault}
use Rattle.flow_core.specs.Faults.{fault_line, row_of, status_of}
use Rattle.raw_items.specs.declared.byte_order.ByteOrder.{ByteOrder}
use Rattle.raw_items.specs.declared.byte_order.ByteOrder.TheVariants.{Little, Big}
use Rattle.flow_core.specs.declared.raw_fault.RawFault.{RawFault}
use Rattle.flow_core.specs.RawFaults.{raw_fault_line, raw_row, raw_status_of}
use Rattle.flow_core.specs.Serve.{IsScript, StopsScript, Tries, WritesNot, stream}
use Rattle.magbelu_c.specs.declared.answer.Answer.{Answer}
use Rattle.magbelu_c.specs.declared.tables.Input.{Input}
use Rattle.magbelu_c.specs.declared.tables.Output.{Output}
use Rattle.magbelu_c.specs.Between.{FailsBetween, RunsBetween}

-- a buffer into which items were put: they stand at its front, where they fit; else it is as it was
abbrev pub shown : {A : Type 0} → List A → List A → List A
shown xs buffer = if nat_le (length xs) (length buffer) then xs ++ drop (length xs) buffer else buffer

-- a call was done, with a text and a status
pub record ToldWell (text : List ℕ) (status : ℕ) (out out' : List ℕ) (a : Answer) : Type 0 where
  pub output : out' ≡ shown text out
  pub answer : a ≡ record { status = status; number = 0; output_len = length text; error_len = 0 }

-- the line of a fault, or a beginning of it where memory ran out
abbrev pub IsLineOf : Fault → List ℕ → Type 0
IsLineOf fault line = (failed : ℕ) × Tries (stream (Some []) 0) (stream (Some line) failed) (fault_line [] fault)

-- a call was not done, for a fault; a text was made before
pub record ToldBadly (text : List ℕ) (fault : Fault) (out out' err err' : List ℕ) (a : Answer) : Type 0 where
  pub line : List ℕ
  pub tells : IsLineOf fault line
  pub output : out' ≡ shown text out
  pub error : err' ≡ shown line err
  pub answer : a ≡ record {
    status = status_of fault;
    number = (row_of fault).0;
    output_len = length text;
    error_len = length line;
  }

-- a call was done, and no fault is reported; or it was not, and its fault is reported
pub data Answers (Does : List ℕ → ℕ → Type 0) (DoesNot : List ℕ → Fault → Type 0) (out out' err err' : List ℕ)
    (a : Answer) : Type 0 where
  Done : (text : List ℕ) → (status : ℕ) → Does text status → ToldWell text status out out' a → err' ≡ err
      → Answers Does DoesNot out out' err err' a
  Failed : (text : List ℕ) → (fault : Fault) → DoesNot text fault → ToldBadly text fault out out' err err' a
      → Answers Does DoesNot out out' err err' a

-- what the program would have written of a command that reads nothing, where it was not done
abbrev pub WasNot : {A : Type 0} → (List ℕ → ℕ → Type 0) → Result A Refusal → List ℕ → Fault → Type 0
WasNot IsDone r text fault = WritesNot IsDone r (Some []) (Some text) fault

-- a script ran to its end, or stopped; what it wrote
abbrev pub IsScripted : List ℕ → List ℕ → List ℕ → ℕ → Type 0
IsScripted file script text status = (rest : Option (List ℕ)) × IsScript file (Some script) rest (Some []) (Some text)
    × (status ≡ 0)

abbrev pub WasNotScripted : List ℕ → List ℕ → List ℕ → Fault → Type 0
WasNotScripted file script text fault = (rest : Option (List ℕ)) × StopsScript file (Some script) rest (Some [])
    (Some text) fault

-- a run with raw items was not done, for a fault; no bytes were made
pub record ToldRaw (fault : RawFault) (err err' : List ℕ) (a : Answer) : Type 0 where
  pub line : List ℕ
  pub failed : ℕ
  pub tells : Tries (stream (Some []) 0) (stream (Some line) failed) (raw_fault_line [] fault)
  pub error : err' ≡ shown line err
  pub answer : a ≡ record {
    status = raw_status_of fault;
    number = (raw_row fault).0;
    output_len = 0;
    error_len = length
        line;
  }

-- the order of the bytes of an item that a number names
abbrev pub order_of : ℕ → ByteOrder
order_of n = if n == 0 then Little else Big

-- a run with raw items was done, and no fault is reported; or it was not, nothing is written but the line of its fault
pub data AnswersRun (file : List ℕ) (order : ByteOrder) (inputs : List Input) (outputs : List Output)
    (lens lens' out out' err err' : List ℕ) (a : Answer) : Type 0 where
  Ran : (all bytes : List ℕ) → (status : ℕ) → RunsBetween file order inputs outputs all bytes status →
      lens' ≡ shown all lens → ToldWell bytes status out out' a → err' ≡ err
      → AnswersRun file order inputs outputs lens lens' out out' err err' a
  RanNot : (fault : RawFault) → FailsBetween file order inputs outputs fault → ToldRaw fault err err' a →
      lens' ≡ lens → out' ≡ out → AnswersRun file order inputs outputs lens lens' out out' err err' a
