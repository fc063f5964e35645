-- What calls of a held plant answer.
use Rattle.std.specs.Prelude.{◌≡◌, ℕ, ◌==◌, List, length, nat_lt, Bool, true, false, position, bytes_eq, Option, Some, None, Result, Ok, Err, if◌then◌else◌}
use Rattle.stream_model.specs.declared.vocabulary.ItemType.{ItemType}
use Rattle.stream_model.specs.Network.{Network, State}
use Rattle.stream_model.specs.Tags.{Mark}
use Rattle.stream_model.specs.Machine as machine
use Rattle.stream_model.specs.Machine.{Refused, feed_of}
use Rattle.flowgraph.specs.Flowgraph.{net_of}
use Rattle.kinds.specs.declared.kind.Kind.{Kind}
use Rattle.kinds.specs.Kind.{meaning_of}
use Rattle.plant.specs.Answers.{Answered, source_type_of}
use Rattle.plant_faults.specs.Fault.{number_of}
use Rattle.plant.specs.Plant.{PlantState}
use Rattle.plant_faults.specs.declared.fault.PlantFault.{PlantFault}
use Rattle.raw_items.specs.declared.byte_order.ByteOrder.{ByteOrder}
use Rattle.raw_items.specs.Layout.{cut_of, size_of}
use Rattle.raw_items.specs.Values.{items_of}
use Rattle.magbelu_c.specs.declared.any_plant.AnyPlant.{AnyPlant}
use Rattle.magbelu_c.specs.declared.reply.Reply.{Reply}
use Rattle.magbelu_c.specs.AnyPlants.{plant_of, with_plant}

-- a call was done, or refused by a number
abbrev pub done : ℕ → ℕ → Reply
done what value = record { status = 0; number = 0; what = what; value = value }

-- the plant came to rest before all blocks were done
abbrev pub at_rest : Reply
at_rest = record { status = 3; number = 0; what = 0; value = 0 }

abbrev pub refused : ℕ → ℕ → Reply
refused number value = record { status = 1; number = number; what = 0; value = value }

-- a reply of the machine. Jobs are handed to no caller in C, and pieces otherwise
abbrev pub told_of : machine.Reply → Reply
told_of (machine.Fed total) = done 0 total
told_of (machine.Closed total) = done 0 total
told_of (machine.Taken at) = done 0 at
told_of (machine.Claimed job) = done 0 0
told_of machine.Done = done 1 0
told_of machine.Busy = done 4 0
told_of (machine.WaitingItems port) = done 2 port
told_of (machine.WaitingRoom port) = done 3 port
told_of (machine.Did count) = done 0 count
told_of machine.Abandoned = done 0 0
told_of (machine.Piece from held items tags is_done) = done 0 held
told_of (machine.Refused code) = refused code 0
told_of (machine.Late floor) = refused 27 floor

abbrev pub no_memory : Reply
no_memory = record { status = 4; number = 32; what = 0; value = 0 }

-- or none, since memory ran out
abbrev pub told_maybe : Option machine.Reply → Reply
told_maybe None = no_memory
told_maybe (Some reply) = told_of reply

-- no plant is held
abbrev pub not_open : Reply
not_open = refused 55 0

-- what a call makes of the block of a name, where the plant has one
abbrev pub found : Option ℕ → (ℕ → machine.Reply × State) → State → machine.Reply × State
found None call st = (Refused machine.no_such_block, st)
found (Some b) call st = call b

abbrev pub named : PlantState Kind → List ℕ → (Network → State → ℕ → machine.Reply × State) → machine.Reply × State
named p name call = found (position (bytes_eq name) p.graph.names) (call (net_of meaning_of p.graph) p.state) p.state

-- whether a call of the block of a name takes what it is given, for which memory may run out
abbrev pub takes : Option ℕ → (ℕ → Bool) → Bool
takes None does = false
takes (Some b) does = does b

abbrev pub wants : PlantState Kind → List ℕ → (Network → ℕ → Bool) → Bool
wants p name does = takes (position (bytes_eq name) p.graph.names) (does (net_of meaning_of p.graph))

-- a call was answered as the machine does now, or memory ran out; it may also run out before, for what the call is
-- given
pub data Calls (may_want : Bool) (now : machine.Reply × State) (old new : PlantState Kind) (r : Reply) : Type 0 where
  Replied : (reply : Option machine.Reply) → Answered now old new reply → r ≡ told_maybe reply
      → Calls may_want now old new r
  Wanting : may_want ≡ true → new ≡ old → r ≡ no_memory → Calls may_want now old new r

-- the number of a refusal of bytes that end within an item
abbrev pub cut_item : ℕ
cut_item = 53

-- a source is fed the items of its type that bytes are, with marks; and whether there is one
abbrev pub fed_as : Result ItemType PlantFault → ByteOrder → List ℕ → List Mark → Network → State → ℕ → machine.Reply
    × State
fed_as (Err e) order bytes ms net st b = (Refused (number_of e), st)
fed_as (Ok t) order bytes ms net st b = if nat_lt 0 (length (cut_of t bytes)) then (Refused cut_item, st) else feed_of
    net st b t (items_of t order bytes) ms

abbrev pub fed_bytes : ByteOrder → List ℕ → List Mark → Network → State → ℕ → machine.Reply × State
fed_bytes order bytes ms net st b = fed_as (source_type_of net b) order bytes ms net st b

abbrev pub is_typed : Result ItemType PlantFault → Bool
is_typed (Err e) = false
is_typed (Ok t) = true

abbrev pub is_fed : Network → ℕ → Bool
is_fed net b = is_typed (source_type_of net b)

-- how many bytes an item of a source has, where a name is that of one
abbrev pub sized_as : Result ItemType PlantFault → Reply
sized_as (Err e) = refused (number_of e) 0
sized_as (Ok t) = done 0 (size_of t)

abbrev pub sized : Network → Option ℕ → Reply
sized net None = refused machine.no_such_block 0
sized net (Some b) = sized_as (source_type_of net b)

-- at most no firings are none
abbrev pub stepped : List (List ℕ) → ℕ → Network → State → ℕ → machine.Reply × State
stepped caps max net st b = if max == 0 then (machine.Did 0, st) else machine.step_of net caps st b max

-- the same of a plant that is held, of which as much is kept in memory as before
pub record CallsOn (may_want : Bool) (now : machine.Reply × State) (old new : AnyPlant) (r : Reply) : Type 0 where
  pub keeps : new ≡ with_plant old (plant_of new)
  pub calls : Calls may_want now (plant_of old) (plant_of new) r

-- a call of the plant that is held, or none is
pub data OnHeld (old new : Option AnyPlant) (Does : AnyPlant → AnyPlant → Reply → Type 0) (r : Reply) : Type 0 where
  Held : (p p' : AnyPlant) → old ≡ Some p → new ≡ Some p' → Does p p' r → OnHeld old new Does r
  NotHeld : old ≡ None → new ≡ None → r ≡ not_open → OnHeld old new Does r
