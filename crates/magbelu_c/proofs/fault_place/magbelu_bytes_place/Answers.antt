use Rattle.std.proofs.Common.{refl, sym, subst}
use Rattle.std.specs.Prelude.{IsOk}
use Rattle.magbelu_c.specs.FaultPlaces.{IsTaken, IsNotTaken}
use Rattle.magbelu_c.proofs.fault_place.magbelu_bytes_place.Goals as goal

pub returns-in-Ok : goal.returns-in-Ok
returns-in-Ok c = IsTaken (subst IsOk (sym c.in-Ok.ensures.opens) refl) refl c.nowhere.ensures

pub returns : goal.returns
returns c = IsNotTaken c.in-Err.fault c.in-Err.ensures.refused c.told.ensures
