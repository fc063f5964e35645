-- What a claim decides, from the counts of a block and its neighbours alone (own): no item, tag or setting plays a
-- part.
use Rattle.std.specs.Prelude.{ℕ, zero, suc, ◌+◌, List, [], ◌∷◌, map, Option, Some, None, Bool, false, ◌&&◌, ◌||◌, not, nat_le, nat_lt, if◌then◌else◌, length}
use Rattle.std.specs.List.{list_all}
use Rattle.stream_model.specs.Lists.{greatest}
use Rattle.stream_model.specs.Network.{Node, taken_by, given_by, holds_inputs, within_limit}

-- an input: how many items have come to it, and whether nothing more will
pub record InputCounts : Type 0 where
  pub written : ℕ
  pub ended : Bool

-- a reader of an output: how many items it has taken, and whether it is done. A reader is live unless it is done
pub record ReaderCounts : Type 0 where
  pub taken : ℕ
  pub done : Bool

pub record OutputCounts : Type 0 where
  pub capacity : ℕ
  pub readers : List ReaderCounts

-- a block: the firings that are committed and claimed, whether it is done, and its used inputs and outputs
pub record Counts : Type 0 where
  pub firings : ℕ
  pub claimed : ℕ
  pub done : Bool
  pub inputs : List InputCounts
  pub outputs : List OutputCounts

pub data Decision : Type 0 where
  -- the block was done before
  IsDone : Decision
  -- a claim is in flight
  IsBusy : Decision
  -- the block becomes done
  Ends : Decision
  -- so many firings fit
  Fires : (count : ℕ) → Decision
  LacksItems : (port : ℕ) → Decision
  LacksRoom : (port : ℕ) → Decision

-- the inputs hold the items of r more firings
abbrev pub has_items : Node → Counts → ℕ → Bool
has_items n c r = holds_inputs n 0 (map (λ (i : InputCounts). i.written) c.inputs) (c.firings + r)

-- after k firings an output is at most its capacity ahead of each live reader
abbrev pub leaves_room : Node → ℕ → OutputCounts → Bool
leaves_room n k o = list_all (λ (r : ReaderCounts). r.done || nat_le (given_by n k) (r.taken + o.capacity)) o.readers

-- each output has room for r more firings
abbrev pub has_room : Node → Counts → ℕ → Bool
has_room n c r = list_all (leaves_room n (c.firings + r)) c.outputs

abbrev pub may_fire : Node → Counts → ℕ → Bool
may_fire n c r = has_items n c r && has_room n c r && within_limit n.meaning.limit (c.firings + r)

-- how many firings a claim of at most max gets: as many as there are items for, room for, and left of the limit
unfoldable pub most : Node → Counts → ℕ → ℕ
most n c max = greatest (may_fire n c) max

-- nobody reads an output any more
abbrev pub is_abandoned : OutputCounts → Bool
is_abandoned o = list_all (λ (r : ReaderCounts). r.done) o.readers

-- the block has outputs, and nobody reads any of them any more
abbrev pub is_unread : Counts → Bool
is_unread c = nat_lt 0 (length c.outputs) && list_all is_abandoned c.outputs

-- of inputs p, p + 1, .. one that has ended lacks items of k firings
abbrev pub lacks_for_good : Node → ℕ → ℕ → List InputCounts → Bool
lacks_for_good n k p [] = false
lacks_for_good n k p (i ∷ is) = i.ended && not (nat_le (taken_by n p k) i.written) || lacks_for_good n k (suc p) is

-- the block will not fire again: its limit is reached, or an ended input lacks the items of one firing
abbrev pub is_finished : Node → Counts → Bool
is_finished n c = not (within_limit n.meaning.limit (c.firings + 1)) || lacks_for_good n (c.firings + 1) 0 c.inputs

-- the lowest of inputs p, p + 1, .. that lacks items of k firings
abbrev pub lacks_items : Node → ℕ → ℕ → List InputCounts → Option ℕ
lacks_items n k p [] = None
lacks_items n k p (i ∷ is) = if nat_le (taken_by n p k) i.written then lacks_items n k (suc p) is else Some p

-- the lowest of outputs p, p + 1, .. that lacks room for k firings
abbrev pub lacks_room : Node → ℕ → ℕ → List OutputCounts → Option ℕ
lacks_room n k p [] = None
lacks_room n k p (o ∷ os) = if leaves_room n k o then lacks_room n k (suc p) os else Some p

-- what a block waits for: the lowest input that lacks the items of one firing, else the lowest output without room for
-- one. Where neither lacks, at least one firing fits: so a claim of at most 0 is the one that comes to the last case
abbrev pub waits_for : Option ℕ → Option ℕ → Decision
waits_for (Some p) q = LacksItems p
waits_for None (Some q) = LacksRoom q
waits_for None None = IsDone

abbrev pub waiting : Node → Counts → Decision
waiting n c = waits_for (lacks_items n (c.firings + 1) 0 c.inputs) (lacks_room n (c.firings + 1) 0 c.outputs)

-- where no firing fits, the block ends or waits
abbrev pub fires_or_waits : Node → Counts → ℕ → Decision
fires_or_waits n c zero = if is_finished n c then Ends else waiting n c
fires_or_waits n c (suc count) = Fires (suc count)

-- what a claim of at most max firings does, in the order of its cases
unfoldable pub decide : Node → Counts → ℕ → Decision
decide n c max =
    if c.done then IsDone
    else (if nat_lt 0 c.claimed then IsBusy
    else (if is_unread c then Ends
    else fires_or_waits n c (most n c max)))
