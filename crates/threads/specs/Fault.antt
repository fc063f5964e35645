-- The numbers, names and texts of what may stop a run in threads.
use Rattle.std.specs.Prelude.{ℕ, List, codes}
use Rattle.threads.specs.declared.fault.RunFault.{RunFault}
use Rattle.threads.specs.declared.fault.RunFault.TheVariants as faults
use Rattle.threads.specs.declared.fault.RunError.{RunError}
use Rattle.threads.specs.declared.fault.RunError.TheVariants.{Memory, Thread, Foreign}

-- a fault without the plant that it gives back
abbrev pub error_of : {B P : Type 0} → RunFault B P → RunError
error_of (faults.Memory p) = Memory
error_of (faults.Thread p) = Thread
error_of faults.Foreign = Foreign

-- the number by which it is reported, and the name beside it
abbrev pub row_of : RunError → ℕ × List ℕ
row_of Memory = (60, codes "Memory")
row_of Thread = (61, codes "Thread")
row_of Foreign = (62, codes "Foreign")

-- what is printed of it
abbrev pub text_of : RunError → List ℕ
text_of Memory = codes "out of memory"
text_of Thread = codes "a thread could not be started"
text_of Foreign = codes "what came back is not what was handed in"
