-- What a block of a pipeline is joined to.
use Rattle.std.specs.Prelude.{ℕ, ◌≡◌, List, [], length, false, not, nat_lt, if◌then◌else◌, Option, Some, None, Result, Ok, Err, ⊤, slice_set}
use Rattle.stream_model.specs.declared.vocabulary.ItemType.{ItemType}
use Rattle.stream_model.specs.Network.{Network, node_at, role_at, is_keeper}
use Rattle.items.specs.Items.{type_of}
use Rattle.raw_items.specs.declared.byte_order.ByteOrder.{ByteOrder}
use Rattle.plant_faults.specs.declared.fault.PlantFault.{PlantFault}
use Rattle.plant_faults.specs.declared.fault.PlantFault.TheVariants.{NoSuchBlock, NotSink}
use Rattle.pipeline.specs.declared.end.End.{End}
use Rattle.pipeline.specs.declared.end.End.TheVariants as ends
use Rattle.pipeline.specs.declared.end.Output.{Output}
use Rattle.pipeline.specs.declared.part.StreamPart.{StreamPart}
use Rattle.pipeline.specs.declared.part.TapePart.{TapePart}
use Rattle.pipeline.specs.Ends.{InputState}
use Rattle.pipeline.specs.Marks.{unread}
use Rattle.pipeline.specs.Pipeline.{end_at}

-- the type of the items that a sink takes, where the block is one
abbrev pub sink_type_of : Network → ℕ → Result ItemType PlantFault
sink_type_of net b =
    if not (nat_lt b (length net.nodes)) then Err NoSuchBlock
    else (if not (is_keeper (role_at net b)) then Err NotSink
    else Ok (node_at net b).meaning.inputs.item)

-- a block is joined to a reader of which nothing was read, and has no marks
abbrev pub JoinsReader : {R W : Type 0} → Network → ℕ → ByteOrder → R → List (End R W) → List (End R W) → Type 0
JoinsReader net b order reader es es' =
    es' ≡ slice_set es b (ends.Input (record {
      reader = reader;
      has_failed = false;
      decoder = record { item_type = (node_at net b).meaning.outputs.item; order = order; cut = [] };
      marks = None;
      is_ended = false;
    }))

-- the items of a reader, which are this part of a whole tape, are marked by another, of which nothing was read
pub record JoinsMarks {R W : Type 0} (b : ℕ) (part : TapePart) (reader : R) (es es' : List (End R W)) : Type 0 where
  pub input : InputState R
  pub was : end_at es b ≡ ends.Input input
  pub unmarked : input.marks ≡ None
  pub joined : es' ≡ slice_set es b (ends.Input (record input { marks = Some (unread part reader) }))

-- a block has a reader of items, and none of marks
abbrev pub IsUnmarked : {R W : Type 0} → End R W → Type 0
IsUnmarked (ends.Input i) = i.marks ≡ None
IsUnmarked ends.Open = ⊥
IsUnmarked (ends.Output o) = ⊥

-- it has both
abbrev pub IsMarked : {R W : Type 0} → End R W → Type 0
IsMarked (ends.Input i) = i.marks ≡ None → ⊥
IsMarked ends.Open = ⊥
IsMarked (ends.Output o) = ⊥

-- it has no reader
abbrev pub IsUnread : {R W : Type 0} → End R W → Type 0
IsUnread (ends.Input i) = ⊥
IsUnread ends.Open = ⊤
IsUnread (ends.Output o) = ⊤

-- it is joined to writers of this part of a whole stream
pub record JoinsWriters {R W : Type 0} (net : Network) (b : ℕ) (part : StreamPart) (order : ByteOrder)
    (items tags : Option W) (es es' : List (End R W)) : Type 0 where
  pub output : Output W
  pub joined : es' ≡ slice_set es b (ends.Output output)
  pub order_is : output.order ≡ order
  pub item_is : type_of output.items ≡ (node_at net b).meaning.inputs.item
  pub items_is : output.items_to ≡ items
  pub tags_is : output.tags_to ≡ tags
  pub part_is : output.part ≡ part
