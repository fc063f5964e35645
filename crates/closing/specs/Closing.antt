-- Sources that are closed.
use Rattle.std.specs.Prelude.{ℕ, zero, suc, length}
use Rattle.stream_model.specs.Meaning.{Meaning}
use Rattle.stream_model.specs.Network.{Network, State}
use Rattle.stream_model.specs.Machine.{close_of}
use Rattle.flowgraph.specs.Flowgraph.{net_of}
use Rattle.plant.specs.Plant.{PlantState}

-- the tapes of the sources below n are closed, one after the other, and those of all sources. Closing what is no
-- source, or is closed, changes nothing
abbrev pub closed_below : Network → State → ℕ → State
closed_below net st zero = st
closed_below net st (suc n) = (close_of net (closed_below net st n) n).1

abbrev pub closed : Network → State → State
closed net st = closed_below net st (length net.nodes)

-- a plant with the tapes of all its sources closed
abbrev pub with_all_closed : {B : Type 0} → (B → Meaning) → PlantState B → PlantState B
with_all_closed meaning p = record p { state = closed (net_of meaning p.graph) p.state }
