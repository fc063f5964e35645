use Rattle.std.proofs.Common.{[], refl, sym, subst}
use Rattle.std.specs.Prelude.{IsOk}
use Rattle.flow_core.specs.declared.fault.Fault.TheVariants.{File}
use Rattle.magbelu_c.specs.CallAnswers.{Done, Failed}
use Rattle.magbelu_c.proofs.explaining.magbelu_bytes_explain.Goals as goal

pub returns-in-Ok : goal.returns-in-Ok
returns-in-Ok c = Done [] 0 (subst IsOk (sym c.in-Ok.ensures.opens) refl, refl, refl) c.well.ensures refl

pub returns : goal.returns
returns c = Failed c.as_bytes.result.now (File c.in-Err.fault) (c.in-Err.fault, refl, c.in-Err.ensures.refused) c.badly.ensures
