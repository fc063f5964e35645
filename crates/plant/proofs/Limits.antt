-- No call makes a tape too long for its graph.
use Rattle.std.proofs.Common.{sym, subst}
use Rattle.stream_model.specs.Network.{Network, State}
use Rattle.stream_model.specs.Machine.{Capacities, Call, next}
use Rattle.graph_model.specs.Gains.{AreWithinGain, IsWithinGain}
use Rattle.machine_laws.proofs.Limits.{limits_stay}

pub gain_stays : (net : Network) (caps : Capacities) (st : State) (call : Call) → AreWithinGain net st.handed → AreWithinGain net (next net caps st call).1.handed
gain_stays net caps st call gain = λ b in' e. subst (IsWithinGain net) (sym (limits_stay net caps st call b)) (gain b in' e)
