-- Which source of a pipeline is read next.
use Rattle.std.specs.Prelude.{ℕ, ◌≡◌, ◌<◌, ◌⊎◌, Bool, true, false, List, length, Result, Ok, Err}
use Rattle.stream_model.specs.declared.vocabulary.Role.{Role}
use Rattle.stream_model.specs.declared.vocabulary.Role.TheVariants.{Source, Work, Keep, Discard}
use Rattle.stream_model.specs.Network.{Network, State, role_at}
use Rattle.stream_model.specs.Machine.{Capacities}
use Rattle.machine_laws.specs.Waits.{Wait, repeated, waited_for}
use Rattle.plant_faults.specs.declared.fault.PlantFault.{PlantFault}
use Rattle.plant.specs.Waits.{need_of}
use Rattle.streaming.specs.Streaming.{StreamingState}
use Rattle.pipeline.specs.declared.end.End.{End}
use Rattle.pipeline.specs.Pipeline.{Lacks, end_at}

-- whether a block takes items and gives none
abbrev pub is_sink : Role → Bool
is_sink Source = false
is_sink Work = false
is_sink Keep = true
is_sink Discard = true

-- the block that block b waits for, by what is answered of it; b itself where it waits for none
abbrev pub needed_in : ℕ → Result Wait PlantFault → ℕ
needed_in b (Ok wait) = waited_for b wait
needed_in b (Err fault) = b

abbrev pub needed_by : Network → Capacities → State → ℕ → ℕ
needed_by net caps st b = needed_in b (need_of net caps st b)

-- the block to which as many waits lead from block b as there are blocks
abbrev pub led_to : Network → Capacities → State → ℕ → ℕ
led_to net caps st b = repeated (needed_by net caps st) (length net.nodes) b

-- block k is a sink, and its waits lead to block b
pub record Awaits {B : Type 0} (net : Network) (p : StreamingState B) (k b : ℕ) : Type 0 where
  pub inside : k < length net.nodes
  pub sink : is_sink (role_at net k) ≡ true
  pub leads : led_to net p.plant.capacities p.plant.state k ≡ b

-- the waits of block k lead to no source that lacks items
abbrev pub AwaitsNone : {R W B : Type 0} → Network → StreamingState B → List (End R W) → ℕ → Type 0
AwaitsNone net p es k = (b : ℕ) → Awaits net p k b → Lacks net p b (end_at es b) → ⊥

-- a source lacks items, and the waits of a sink lead to it, or those of no sink lead to one that lacks items
pub record IsNext {R W B : Type 0} (net : Network) (p : StreamingState B) (es : List (End R W)) (b : ℕ) : Type 0 where
  pub lacks : Lacks net p b (end_at es b)
  pub awaited : ((k : ℕ) × Awaits net p k b) ⊎ ((k : ℕ) → AwaitsNone net p es k)
