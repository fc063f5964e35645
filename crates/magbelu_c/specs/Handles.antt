-- What a handle owns.
use Rattle.std.specs.Prelude.{Bool, true, false, Option, Some, None}
use base.Fml.{Fml, ftrue, ffalse}
use base.Stored.{Coded}
use denote.RawPtr.{Ptr}
use mir.Syntax.{Ty}
use Rattle.std.specs.declared.alloc.Global.{Global}
use Rattle.std.specs.contracts.impls.GlobalAllocator.TheImpl.{ghosts}
use Rattle.std_alloc.specs.Box.Ownership.{box_owns}
use Rattle.magbelu_c.specs.contracts.any_plant.AnyPlant.{the_row}

abbrev pub Kept : Type 0
Kept = the_row.Denot

abbrev pub kept_code : Coded Kept
kept_code = the_row.coded

-- the right to free a block of the heap
abbrev pub frees : Ty → Ptr → Fml
frees = let heap : Global = record { memory = record { seal = tt } } in ghosts.dealloc_token heap

-- what lies at the pointer of a handle that is open, with the right to free it; a closed one owns nothing
abbrev pub holds : Bool → Ptr → Option Kept → Fml
holds true p (Some x) = box_owns frees the_row p x
holds true p None = ffalse
holds false p (Some x) = ffalse
holds false p None = ftrue
