-- What is told of the place at which a graph file is refused.
use Rattle.std.specs.Prelude.{◌≡◌, ℕ, List, length, IsOk}
use Rattle.graph_file.specs.declared.fault.FileFault.{FileFault}
use Rattle.graph_file.specs.Refusals.{IsRefused}
use Rattle.flow_core.specs.declared.fault.Fault.{Fault}
use Rattle.flow_core.specs.declared.fault.Fault.TheVariants.{File}
use Rattle.flow_core.specs.Faults.{row_of, status_of}
use Rattle.flow_core.specs.Serve.{plant_in}
use Rattle.magbelu_c.specs.CallAnswers.{shown}
use Rattle.magbelu_c.specs.declared.fault_place.FaultPlace.{FaultPlace}

-- nothing is refused
abbrev pub nowhere : FaultPlace
nowhere = record { status = 0; number = 0; line = 0; column = 0; length = 0; why_len = 0 }

-- a fault is told by its number, with a reason in the buffer. The place and the reason may be any
pub record TellsFault (fault : Fault) (why why' : List ℕ) (r : FaultPlace) : Type 0 where
  pub reason : List ℕ
  pub shows : why' ≡ shown reason why
  pub answer :
      r ≡ record {
        status = status_of fault;
        number = (row_of fault).0;
        line = r.line;
        column = r.column;
        length = r.length;
        why_len = length reason;
      }

-- the plant of the file can be opened, and nothing is told; or it cannot, and why is told, or that memory ran out
pub data TellsPlace (file why why' : List ℕ) (r : FaultPlace) : Type 0 where
  IsTaken : IsOk (plant_in file) → why' ≡ why → r ≡ nowhere → TellsPlace file why why' r
  IsNotTaken : (fault : FileFault) → IsRefused (plant_in file) fault → TellsFault (File fault) why why' r →
      TellsPlace file why why' r
