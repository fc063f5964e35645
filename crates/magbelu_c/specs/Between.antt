-- Runs between bytes of raw items: sources are fed bytes, and what sinks hold comes out as bytes.
use Rattle.std.specs.Prelude.{◌≡◌, ℕ, suc, ◌==◌, List, [], ◌∷◌, ◌++◌, ◌⊎◌, length, position, bytes_eq, Option, Some, Result, Ok, Err, IsOk, if◌then◌else◌}
use Rattle.stream_model.specs.Network.{State}
use Rattle.stream_model.specs.Machine.{is_all_done}
use Rattle.flowgraph.specs.declared.parts.BlockId.{BlockId}
use Rattle.graph_file.specs.declared.fault.FileFault.{FileFault}
use Rattle.graph_file.specs.Blocks.{Draft}
use Rattle.file_plants.specs.Opening.{Opened}
use Rattle.graph_file.specs.Refusals.{IsRefused}
use Rattle.raw_items.specs.declared.byte_order.ByteOrder.{ByteOrder}
use Rattle.flow_core.specs.declared.fault.Fault.TheVariants.{File, Script}
use Rattle.flow_core.specs.declared.script.ScriptFault.TheVariants as script
use Rattle.flow_core.specs.declared.raw_fault.EndPlace.TheVariants.{Input as at_input, Output as at_output}
use Rattle.flow_core.specs.declared.raw_fault.RawFault.{RawFault}
use Rattle.flow_core.specs.declared.raw_fault.RawFault.TheVariants.{Whole}
use Rattle.flow_core.specs.RawEnds.{StepsToRest, held_bytes, held_lines}
use Rattle.flow_core.specs.RawFeeds.{IsFedBy, StopsFeeding, sink_at, source_at}
use Rattle.flow_core.specs.Serve.{plant_in}
use Rattle.magbelu_c.specs.declared.tables.Input.{Input}
use Rattle.magbelu_c.specs.declared.tables.Output.{Output}

-- the block that an entry of the table of inputs names, or why it is no source; and of outputs
abbrev pub source_of : Draft → ℕ → Input → Result BlockId RawFault
source_of d n i = source_at d.net (at_input n) (position (bytes_eq i.name.now) d.names)

abbrev pub sink_of : Draft → ℕ → Output → Result BlockId RawFault
sink_of d n o = sink_at d.net (at_output n) (position (bytes_eq o.name.now) d.names)

-- input n was fed, to its end
pub record IsFed (d : Draft) (order : ByteOrder) (n : ℕ) (i : Input) (st st' : State) : Type 0 where
  pub source : BlockId
  pub named : source_of d n i ≡ Ok source
  pub rest : Option (List ℕ)
  pub fed : IsFedBy d.net st st' source.0 order (Some i.bytes.now) rest

-- or it was not: it names no source, or its bytes are refused
pub record IsRefusedBytes (d : Draft) (order : ByteOrder) (n : ℕ) (i : Input) (st : State) (fault : RawFault) : Type 0
  where
    pub source : BlockId
    pub named : source_of d n i ≡ Ok source
    pub rest : Option (List ℕ)
    pub stops : StopsFeeding d.net st source.0 order n (Some i.bytes.now) rest fault

abbrev pub IsMisfed : Draft → ByteOrder → ℕ → Input → State → RawFault → Type 0
IsMisfed d order n i st fault = (source_of d n i ≡ Err fault) ⊎ IsRefusedBytes d order n i st fault

-- the inputs from input n on were fed, one after the other
abbrev pub AreFed : Draft → ByteOrder → ℕ → List Input → State → State → Type 0
AreFed d order n [] st st' = st' ≡ st
AreFed d order n (i ∷ is) st st' = (mid : State) × IsFed d order n i st mid × AreFed d order (suc n) is mid st'

-- or the first of them that is not stops
abbrev pub AreMisfed : Draft → ByteOrder → ℕ → List Input → State → RawFault → Type 0
AreMisfed d order n [] st fault = ⊥
AreMisfed d order n (i ∷ is) st fault = IsMisfed d order n i st fault
    ⊎ ((mid : State) × IsFed d order n i st mid × AreMisfed d order (suc n) is mid fault)

-- one of the outputs from output n on names no sink
abbrev pub IsMisnamed : Draft → ℕ → List Output → RawFault → Type 0
IsMisnamed d n [] fault = ⊥
IsMisnamed d n (o ∷ os) fault = (sink_of d n o ≡ Err fault) ⊎ IsMisnamed d (suc n) os fault

-- what an output has of a sink: the bytes of its items, or a line for each tag
abbrev pub output_bytes : Draft → State → ByteOrder → Output → BlockId → List ℕ
output_bytes d st order o sink = if o.tags == 0 then held_bytes d.net st order sink.0 else held_lines d.net st sink.0

-- output n was appended to bytes
pub record IsTaken (d : Draft) (st : State) (order : ByteOrder) (n : ℕ) (o : Output) (old new : List ℕ) : Type 0 where
  pub sink : BlockId
  pub named : sink_of d n o ≡ Ok sink
  pub appended : new ≡ old ++ output_bytes d st order o sink

-- the outputs from output n on, one behind the other, and how many bytes each has
abbrev pub AreHeld : Draft → State → ByteOrder → ℕ → List Output → List ℕ → List ℕ → Type 0
AreHeld d st order n [] lens bytes = (lens ≡ []) × (bytes ≡ [])
AreHeld d st order n (o ∷ os) lens bytes =
    (sink : BlockId) × (sink_of d n o ≡ Ok sink) × (lens' : List ℕ) × (bytes' : List ℕ)
    × (lens ≡ length (output_bytes d st order o sink) ∷ lens') × (bytes ≡ output_bytes d st order o sink ++ bytes')
    × AreHeld d st order (suc n) os lens' bytes'

-- the plant of a file was fed, all sources were closed, it came to rest block by block, and this is what its sinks hold
pub record RunsBetween (file : List ℕ) (order : ByteOrder) (inputs : List Input) (outputs : List Output)
    (lens bytes : List ℕ) (status : ℕ) : Type 0 where
  pub plant : Opened
  pub opens : plant_in file ≡ Ok plant
  pub fed : State
  pub feeds : AreFed plant.draft order 0 inputs plant.state fed
  pub last : Opened
  pub rests : StepsToRest (record plant { state = fed }) last
  pub held : AreHeld plant.draft last.state order 0 outputs lens bytes
  pub well : status ≡ (if is_all_done last.state then 0 else 3)

-- or not: the file, an input or the name of an output is refused, or memory ran out
pub data FailsBetween (file : List ℕ) (order : ByteOrder) (inputs : List Input) (outputs : List Output) : RawFault
    → Type 0 where
  NoPlant : (why : FileFault) → IsRefused (plant_in file) why → FailsBetween file order inputs outputs
      (Whole (File why))
  Misfed : (fault : RawFault) → (plant : Opened) → plant_in file ≡ Ok plant
      → AreMisfed plant.draft order 0 inputs plant.state fault → FailsBetween file order inputs outputs fault
  Misnamed : (fault : RawFault) → (plant : Opened) → plant_in file ≡ Ok plant → IsMisnamed plant.draft 0 outputs fault
      → FailsBetween file order inputs outputs fault
  NoMemory : IsOk (plant_in file) → FailsBetween file order inputs outputs (Whole (Script script.Memory))
