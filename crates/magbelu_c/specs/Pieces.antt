-- What sinks of a held plant show.
use Rattle.std.specs.Prelude.{◌≡◌, ℕ, ℤ, List, length, map, Bool, position, bytes_eq, Some, Result, Ok, Err}
use Rattle.std.specs.List.{flat_map}
use Rattle.stream_model.specs.declared.vocabulary.ItemType.{ItemType}
use Rattle.stream_model.specs.Tags.{Tag}
use Rattle.stream_model.specs.Network.{State}
use Rattle.stream_model.specs.Machine as machine
use Rattle.stream_model.specs.Machine.{read_of}
use Rattle.flowgraph.specs.Flowgraph.{net_of}
use Rattle.kinds.specs.declared.kind.Kind.{Kind}
use Rattle.kinds.specs.Kind.{meaning_of}
use Rattle.plant.specs.Answers.{AnsweredBy, piece_reply, refusal_of}
use Rattle.plant.specs.declared.answers.Piece as plant
use Rattle.plant_faults.specs.declared.fault.PlantFault.{PlantFault}
use Rattle.plant.specs.Plant.{PlantState}
use Rattle.items.specs.Items.{type_of, numbers_of}
use Rattle.items.specs.Tags.{tag_of}
use Rattle.raw_items.specs.declared.byte_order.ByteOrder.{ByteOrder}
use Rattle.raw_items.specs.Layout.{size_of}
use Rattle.raw_items.specs.Values.{all_bytes_of}
use Rattle.flow_core.specs.RawEnds.{held_type, tag_line}
use Rattle.magbelu_c.specs.declared.any_plant.AnyPlant.{AnyPlant}
use Rattle.magbelu_c.specs.declared.any_plant.AnyPlant.TheVariants.{Whole, Streaming}
use Rattle.magbelu_c.specs.declared.piece.Piece.{Piece}
use Rattle.magbelu_c.specs.declared.reply.Reply.{Reply}
use Rattle.magbelu_c.specs.CallAnswers.{shown}
use Rattle.magbelu_c.specs.Replies.{named, no_memory, not_open, told_maybe}

-- nothing is shown, for a reply
abbrev pub unshown : Reply → Piece
unshown r = record { status = r.status; number = r.number; held = 0; item_size = 0; bytes_len = 0; tags_len = 0 }

-- what a read is answered now
abbrev pub read_now : PlantState Kind → List ℕ → ℕ → ℕ → machine.Reply × State
read_now p sink from max = named p sink (λ net st b. read_of net st b from max)

-- the piece that a sink shows, or why it shows none
pub record IsPiece (p : PlantState Kind) (sink : List ℕ) (from max : ℕ) (piece : plant.Piece) : Type 0 where
  pub b : ℕ
  pub is : Some b ≡ position (bytes_eq sink) p.graph.names
  pub shows : piece_reply piece ≡ (read_now p sink from max).0
  pub typed : type_of piece.items ≡ held_type (net_of meaning_of p.graph) b

abbrev pub IsRead : PlantState Kind → List ℕ → ℕ → ℕ → Result plant.Piece PlantFault → Type 0
IsRead p sink from max (Ok piece) = IsPiece p sink from max piece
IsRead p sink from max (Err fault) = AnsweredBy (read_now p sink from max) (refusal_of fault)

-- a piece of what a sink holds: the bytes of its items, which are of this type, in a buffer, and a line for each of its
-- tags in another
pub record IsShown (t : ItemType) (held : ℕ) (items : List ℤ) (tags : List Tag) (order : ByteOrder)
    (bytes bytes' lines lines' : List ℕ) (r : Piece) : Type 0 where
  pub bytes_are : bytes' ≡ shown (all_bytes_of t order items) bytes
  pub lines_are : lines' ≡ shown (flat_map tag_line tags) lines
  pub told : r ≡ record {
    status = 0;
    number = 0;
    held = held;
    item_size = size_of t;
    bytes_len = length (all_bytes_of t order items);
    tags_len = length (flat_map tag_line tags);
  }

-- a piece was shown; or memory ran out, and nothing is written
pub data ShowsPiece (piece : plant.Piece) (order : ByteOrder) (bytes bytes' lines lines' : List ℕ) (r : Piece) : Type 0
  where
    Shown : IsShown (type_of piece.items) piece.held (numbers_of piece.items) (map tag_of piece.tags.items) order bytes
        bytes' lines lines' r → ShowsPiece piece order bytes bytes' lines lines' r
    ShownNot : bytes' ≡ bytes → lines' ≡ lines → r ≡ unshown no_memory
        → ShowsPiece piece order bytes bytes' lines lines' r

-- a sink was read; or that is refused, or memory ran out, and nothing is written
pub data Reads (p : PlantState Kind) (sink : List ℕ) (from max : ℕ) (order : ByteOrder)
    (bytes bytes' lines lines' : List ℕ) (r : Piece) : Type 0 where
  Shows : (b start held : ℕ) → (items : List ℤ) → (tags : List Tag) → (is_done : Bool) → Some b
      ≡ position (bytes_eq sink) p.graph.names →
      machine.Piece start held items tags is_done ≡ (read_now p sink from max).0
      → IsShown (held_type (net_of meaning_of p.graph) b) held items tags order bytes bytes' lines lines' r →
      Reads p sink from max order bytes bytes' lines lines' r
  ShowsNot : (fault : PlantFault) → AnsweredBy (read_now p sink from max) (refusal_of fault) → bytes' ≡ bytes → lines'
      ≡ lines →
      r ≡ unshown (told_maybe (refusal_of fault)) → Reads p sink from max order bytes bytes' lines lines' r

-- and of either: one that streams holds nothing to be read again
abbrev pub ReadsOn : AnyPlant → List ℕ → ℕ → ℕ → ByteOrder → List ℕ → List ℕ → List ℕ → List ℕ → Piece → Type 0
ReadsOn (Whole p) sink from max order bytes bytes' lines lines' r = Reads p sink from max order bytes bytes' lines
    lines' r
ReadsOn (Streaming s) sink from max order bytes bytes' lines lines' r = (bytes' ≡ bytes) × (lines' ≡ lines)
    × (r ≡ unshown not_open)
