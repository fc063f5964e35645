-- What is drained of a plant that streams.
use Rattle.std.specs.Prelude.{◌≡◌, ◌+◌, ◌≤◌, ℕ, ℤ, List, length, Bool, position, bytes_eq, Some}
use Rattle.stream_model.specs.Network.{State}
use Rattle.stream_model.specs.Machine as machine
use Rattle.stream_model.specs.Machine.{read_of}
use Rattle.stream_model.specs.Tags.{Tag}
use Rattle.flowgraph.specs.Flowgraph.{net_of}
use Rattle.kinds.specs.declared.kind.Kind.{Kind}
use Rattle.kinds.specs.Kind.{meaning_of}
use Rattle.plant.specs.Answers.{AnsweredBy, refusal_of}
use Rattle.plant_faults.specs.declared.fault.PlantFault.{PlantFault}
use Rattle.raw_items.specs.declared.byte_order.ByteOrder.{ByteOrder}
use Rattle.streaming.specs.Streaming.{HasDrainedTo, StreamingState, drained}
use Rattle.flow_core.specs.RawEnds.{held_type}
use Rattle.magbelu_c.specs.declared.any_plant.AnyPlant.{AnyPlant}
use Rattle.magbelu_c.specs.declared.any_plant.AnyPlant.TheVariants.{Whole, Streaming}
use Rattle.magbelu_c.specs.declared.piece.Piece.{Piece}
use Rattle.magbelu_c.specs.Pieces.{IsShown, unshown}
use Rattle.magbelu_c.specs.Replies.{named, not_open, told_maybe}

-- what a sink shows that was not drained yet
abbrev pub drain_now : StreamingState Kind → List ℕ → ℕ → machine.Reply × State
drain_now s sink max = named s.plant sink (λ net st b. read_of net st b (drained s b) max)

-- both parts of what is shown fit their buffers
abbrev pub Fits : Piece → List ℕ → List ℕ → Type 0
Fits r bytes lines = (r.bytes_len ≤ length bytes) × (r.tags_len ≤ length lines)

-- what was shown of block b is taken away where it fits; else it stays
pub record IsTakenAway (s s' : StreamingState Kind) (b count : ℕ) (Fit : Type 0) : Type 0 where
  pub taken : Fit → HasDrainedTo s s' b (drained s b + count)
  pub left : ¬ Fit → s' ≡ s

-- a sink was drained; or that is refused, or memory ran out, and nothing is written or taken away
pub data DrainsFrom (s s' : StreamingState Kind) (sink : List ℕ) (max : ℕ) (order : ByteOrder)
    (bytes bytes' lines lines' : List ℕ) (r : Piece) : Type 0 where
  Drained : (b start held : ℕ) → (items : List ℤ) → (tags : List Tag) → (is_done : Bool) → Some b
      ≡ position (bytes_eq sink) s.plant.graph.names →
      machine.Piece start held items tags is_done ≡ (drain_now s sink max).0
      → IsShown (held_type (net_of meaning_of s.plant.graph) b) held items tags order bytes bytes' lines lines' r →
      IsTakenAway s s' b (length items) (Fits r bytes lines) → DrainsFrom s s' sink max order bytes bytes' lines lines'
      r
  DrainedNot : (fault : PlantFault) → AnsweredBy (drain_now s sink max) (refusal_of fault) → s' ≡ s → bytes' ≡ bytes
      → lines' ≡ lines →
      r ≡ unshown (told_maybe (refusal_of fault)) → DrainsFrom s s' sink max order bytes bytes' lines lines' r

-- and of either: one that keeps what it took is not drained
abbrev pub DrainsOn : AnyPlant → AnyPlant → List ℕ → ℕ → ByteOrder → List ℕ → List ℕ → List ℕ → List ℕ → Piece → Type 0
DrainsOn (Streaming s) (Streaming s') sink max order bytes bytes' lines lines' r = DrainsFrom s s' sink max order bytes
    bytes' lines lines' r
DrainsOn (Whole p) (Whole p') sink max order bytes bytes' lines lines' r = (p' ≡ p) × (bytes' ≡ bytes)
    × (lines' ≡ lines) × (r ≡ unshown not_open)
DrainsOn (Streaming s) (Whole p') sink max order bytes bytes' lines lines' r = ⊥
DrainsOn (Whole p) (Streaming s') sink max order bytes bytes' lines lines' r = ⊥
