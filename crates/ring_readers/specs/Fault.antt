-- The texts of refusals.
use Rattle.std.specs.Prelude.{ℕ, List, codes}
use Rattle.ring_readers.specs.declared.fault.RingFault.{RingFault}
use Rattle.ring_readers.specs.declared.fault.RingFault.TheVariants.{Memory}

-- what is printed of it
abbrev pub text_of : RingFault → List ℕ
text_of Memory = codes "out of memory"
