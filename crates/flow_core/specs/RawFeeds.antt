-- Sources that are fed the raw items of an input, and the blocks that inputs and outputs name.
use Rattle.std.specs.Prelude.{◌≡◌, ℕ, ◌<◌, List, [], length, Option, Some, None, Result, Ok, Err, if◌then◌else◌}
use Rattle.std.specs.Io.KnownBytes.{Consumes, IsAtEnd}
use Rattle.stream_model.specs.Network.{Network, State, role_at, is_source, is_keeper}
use Rattle.stream_model.specs.Machine as machine
use Rattle.stream_model.specs.Machine.{Reply, feed_of}
use Rattle.flowgraph.specs.declared.parts.BlockId.{BlockId}
use Rattle.flowgraph.specs.Fault.{id}
use Rattle.plant.specs.Feeding.{given_type}
use Rattle.raw_items.specs.declared.byte_order.ByteOrder.{ByteOrder}
use Rattle.raw_items.specs.Layout.{cut_of}
use Rattle.raw_items.specs.Values.{items_of}
use Rattle.flow_core.specs.declared.fault.Fault.TheVariants.{Script}
use Rattle.flow_core.specs.declared.script.ScriptFault.TheVariants as script
use Rattle.flow_core.specs.declared.raw_fault.EndFault.{EndFault}
use Rattle.flow_core.specs.declared.raw_fault.EndFault.TheVariants.{NoSuchBlock, NotSource, NotSink, Closed, TapeFull, Read, Write, CutItem, BadLine, TagPlace}
use Rattle.flow_core.specs.declared.raw_fault.EndPlace.{EndPlace}
use Rattle.flow_core.specs.declared.raw_fault.EndPlace.TheVariants.{Input}
use Rattle.flow_core.specs.declared.raw_fault.RawFault.{RawFault}
use Rattle.flow_core.specs.declared.raw_fault.RawFault.TheVariants.{Whole, End}

-- the block that an end names, where it is a source or a sink as is asked
abbrev pub source_at : Network → EndPlace → Option ℕ → Result BlockId RawFault
source_at net place None = Err (End place NoSuchBlock)
source_at net place (Some b) = if is_source (role_at net b) then Ok (id b) else Err (End place NotSource)

abbrev pub sink_at : Network → EndPlace → Option ℕ → Result BlockId RawFault
sink_at net place None = Err (End place NoSuchBlock)
sink_at net place (Some b) = if is_keeper (role_at net b) then Ok (id b) else Err (End place NotSink)

-- what comes of feeding block b bytes: the items of its type that they are, without tags
abbrev pub feed_bytes : Network → State → ℕ → ByteOrder → List ℕ → Reply × State
feed_bytes net st b order bytes = feed_of net st b (given_type net b) (items_of (given_type net b) order bytes) []

-- an input was read to its end, its bytes are whole items, and block b was fed these
pub record IsFedBy (net : Network) (st st' : State) (b : ℕ) (order : ByteOrder) (input input' : Option (List ℕ)) : Type
    0 where
  pub bytes : List ℕ
  pub read : Consumes input input' bytes
  pub at_end : IsAtEnd input'
  pub whole : cut_of (given_type net b) bytes ≡ []
  pub total : ℕ
  pub fed : feed_bytes net st b order bytes ≡ (machine.Fed total, st')

-- a feed is refused for a fault of the source
abbrev pub IsRefusedFor : Reply → EndFault → Type 0
IsRefusedFor reply NoSuchBlock = reply ≡ machine.Refused machine.no_such_block
IsRefusedFor reply NotSource = reply ≡ machine.Refused machine.not_source
IsRefusedFor reply NotSink = ⊥
IsRefusedFor reply Closed = reply ≡ machine.Refused machine.already_closed
IsRefusedFor reply TapeFull = reply ≡ machine.Refused machine.tape_full
IsRefusedFor reply Read = ⊥
IsRefusedFor reply Write = ⊥
IsRefusedFor reply CutItem = ⊥
IsRefusedFor reply (BadLine line) = ⊥
IsRefusedFor reply (TagPlace line) = ⊥

-- what is wrong behind these bytes of an input: the source does not take the items that they are, no more could be
-- read, or the input ends there within an item
abbrev pub IsWrong : Network → State → ℕ → ByteOrder → Option (List ℕ) → List ℕ → EndFault → Type 0
IsWrong net st b order input' bytes Read = (total : ℕ) × ((feed_bytes net st b order bytes).0 ≡ machine.Fed total)
IsWrong net st b order input' bytes CutItem = IsAtEnd input' × (0 < length (cut_of (given_type net b) bytes))
IsWrong net st b order input' bytes fault = IsRefusedFor (feed_bytes net st b order bytes).0 fault

-- a fault of an end, or memory ran out
abbrev pub IsOfEnd : EndPlace → (EndFault → Type 0) → RawFault → Type 0
IsOfEnd place Wrong (End at fault) = (at ≡ place) × Wrong fault
IsOfEnd place Wrong (Whole fault) = fault ≡ Script script.Memory

-- input n was read up to where something is wrong, or where memory ran out
pub record StopsFeeding (net : Network) (st : State) (b : ℕ) (order : ByteOrder) (n : ℕ)
    (input input' : Option (List ℕ)) (fault : RawFault) : Type 0 where
  pub bytes : List ℕ
  pub read : Consumes input input' bytes
  pub stops : IsOfEnd (Input n) (IsWrong net st b order input' bytes) fault

-- how many reads failed by a fault, and how many writes
abbrev pub end_reads : RawFault → ℕ
end_reads (End place Read) = 1
end_reads fault = 0

abbrev pub end_writes : RawFault → ℕ
end_writes (End place Write) = 1
end_writes fault = 0

-- the same of a result
abbrev pub raw_reads : {X : Type 0} → Result X RawFault → ℕ
raw_reads (Ok x) = 0
raw_reads (Err fault) = end_reads fault

abbrev pub raw_writes : {X : Type 0} → Result X RawFault → ℕ
raw_writes (Ok x) = 0
raw_writes (Err fault) = end_writes fault
