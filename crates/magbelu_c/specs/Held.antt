-- What calls of a plant that is held come to.
use Rattle.std.specs.Prelude.{◌≡◌, ℕ, ◌-◌, ◌^◌, ◌==◌, List, [], Bool, Option, Some, None, if◌then◌else◌}
use Rattle.raw_items.specs.declared.byte_order.ByteOrder.{ByteOrder}
use Rattle.flow_core.specs.declared.fault.Fault.{Fault}
use Rattle.flow_core.specs.Serve.{Refuses}
use Rattle.magbelu_c.specs.declared.answer.Answer.{Answer}
use Rattle.magbelu_c.specs.declared.any_plant.AnyPlant.{AnyPlant}
use Rattle.magbelu_c.specs.declared.piece.Piece.{Piece}
use Rattle.magbelu_c.specs.declared.reply.Reply.{Reply}
use Rattle.magbelu_c.specs.CallAnswers.{ToldBadly}
use Rattle.magbelu_c.specs.AnyPlants.{IsOpened, opening_in}
use Rattle.magbelu_c.specs.Draining.{DrainsOn}
use Rattle.magbelu_c.specs.Pieces.{ReadsOn, unshown}
use Rattle.magbelu_c.specs.Replies.{done, not_open}

abbrev pub answered : ℕ → ℕ → Answer
answered status number = record { status = status; number = number; output_len = 0; error_len = 0 }

-- what a file opens is held from now on; or it is refused; or a plant is held already
pub data Opens (streams : Bool) (file : List ℕ) (old new : Option AnyPlant) (err err' : List ℕ) (a : Answer) : Type 0
  where
    Opened : old ≡ None → (p : AnyPlant) → IsOpened streams file p → new ≡ Some p → err' ≡ err → a ≡ answered 0 0
        → Opens streams file old new err err' a
    Refused : old ≡ None → new ≡ None → (fault : Fault) → Refuses (opening_in streams file) fault
        → ToldBadly [] fault [] [] err err' a → Opens streams file old new err err' a
    IsOpen : (p : AnyPlant) → old ≡ Some p → new ≡ Some p → err' ≡ err → a ≡ answered 1 56
        → Opens streams file old new err err' a

-- no plant is held from now on, and whether one was is answered
abbrev pub freed : Option AnyPlant → Reply
freed None = not_open
freed (Some p) = done 0 0

abbrev pub Frees : Option AnyPlant → Option AnyPlant → Reply → Type 0
Frees old new r = (new ≡ None) × (r ≡ freed old)

-- the item that a number names; the greatest is none
abbrev pub at_of : ℕ → Option ℕ
at_of n = if n == 2 ^ 64 - 1 then None else Some n

-- a sink of the plant that is held was read, and the plant stays; or none is held
pub data Shows (old new : Option AnyPlant) (sink : List ℕ) (from max : ℕ) (order : ByteOrder)
    (bytes bytes' lines lines' : List ℕ) (r : Piece) : Type 0 where
  Held : (p : AnyPlant) → old ≡ Some p → new ≡ Some p → ReadsOn p sink from max order bytes bytes' lines lines' r
      → Shows old new sink from max order bytes bytes' lines lines' r
  NotHeld : old ≡ None → new ≡ None → bytes' ≡ bytes → lines' ≡ lines → r ≡ unshown not_open
      → Shows old new sink from max order bytes bytes' lines lines' r

-- or drained
pub data Drains (old new : Option AnyPlant) (sink : List ℕ) (max : ℕ) (order : ByteOrder)
    (bytes bytes' lines lines' : List ℕ) (r : Piece) : Type 0 where
  HeldToDrain : (p p' : AnyPlant) → old ≡ Some p → new ≡ Some p' → DrainsOn p p' sink max order bytes bytes' lines
      lines' r → Drains old new sink max order bytes bytes' lines lines' r
  NoneToDrain : old ≡ None → new ≡ None → bytes' ≡ bytes → lines' ≡ lines → r ≡ unshown not_open
      → Drains old new sink max order bytes bytes' lines lines' r
