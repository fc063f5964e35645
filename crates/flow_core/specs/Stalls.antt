-- What is said of a run that stalled: of the ring of blocks that wait for one another, or of the sources that wait to
-- be fed.
use Rattle.std.specs.Prelude.{ℕ, zero, suc, List, [], ◌∷◌, ◌++◌, min, length, codes, Option, Some, None, Bool, true, false, ◌==◌, if◌then◌else◌}
use Rattle.std.specs.List.{flat_map}
use Rattle.std.specs.Fmt.{decimal}
use Rattle.stream_model.specs.Network.{Network, State}
use Rattle.stream_model.specs.Machine.{Capacities}
use Rattle.graph_model.specs.Rates.{Balance, Balanced, Uneven, TooLarge}
use Rattle.machine_laws.specs.Waits.{Wait, IsOver, HasClaim, MayAct, ForFeed, ForItems, ForRoom, wait_of, next_of, ring_of, is_for_block}
use Rattle.graph_file.specs.Blocks.{Draft}
use Rattle.script_text.specs.Replies.{line_text}
use Rattle.flow_core.specs.Reports.{each_block, name_at}

abbrev pub stall_line : List ℕ → List ℕ
stall_line text = line_text (codes "flow: stalled: " ++ text)

-- block b waits for items of a writer, or for room until a reader has read, or is a source that is left open
abbrev pub items_line : Draft → ℕ → ℕ → ℕ → List ℕ
items_line d b port writer = stall_line (name_at d b ++ codes " waits for items of " ++ name_at d writer
    ++ codes " on input " ++ decimal port)

abbrev pub room_line : Draft → ℕ → ℕ → ℕ → List ℕ
room_line d b port reader =
    stall_line (name_at d b ++ codes " waits for room on output " ++ decimal port ++ codes ", which "
    ++ name_at d reader ++ codes " has not read")

abbrev pub feed_line : Draft → ℕ → List ℕ
feed_line d b = stall_line (name_at d b ++ codes " is open: it waits to be fed")

-- nothing is said of a block that waits for no other
abbrev pub wait_line : Draft → ℕ → Wait → List ℕ
wait_line d b IsOver = []
wait_line d b HasClaim = []
wait_line d b MayAct = []
wait_line d b ForFeed = []
wait_line d b (ForItems port writer) = items_line d b port writer
wait_line d b (ForRoom port reader) = room_line d b port reader

-- the blocks of a ring from b on, each the one that the last waits for, before the first comes again; so many at most
abbrev pub ring_from : Network → Capacities → State → ℕ → ℕ → ℕ → List ℕ
ring_from net caps st first zero b = []
ring_from net caps st first (suc k) b = b ∷ (if next_of net caps st b == first then [] else ring_from net caps st first
    k (next_of net caps st b))

-- the lowest of b and of so many blocks to which waits lead from it
abbrev pub lowest_from : Network → Capacities → State → ℕ → ℕ → ℕ
lowest_from net caps st zero b = b
lowest_from net caps st (suc k) b = min b (lowest_from net caps st k (next_of net caps st b))

-- the ring that block b is on, from its lowest block
abbrev pub ring_at : Network → Capacities → State → ℕ → List ℕ
ring_at net caps st b =
    let first = lowest_from net caps st (length net.nodes) b in
    ring_from net caps st first (length net.nodes) first

abbrev pub is_for_room : Wait → Bool
is_for_room (ForRoom port reader) = true
is_for_room IsOver = false
is_for_room HasClaim = false
is_for_room MayAct = false
is_for_room ForFeed = false
is_for_room (ForItems port writer) = false

-- the first of these blocks that waits for room
abbrev pub full_in : Network → Capacities → State → List ℕ → Option ℕ
full_in net caps st [] = None
full_in net caps st (b ∷ bs) = if is_for_room (wait_of net caps st b) then Some b else full_in net caps st bs

-- what may open the ring
abbrev pub opener_line : Draft → Option ℕ → List ℕ
opener_line d None = []
opener_line d (Some b) = stall_line (codes "a greater capacity of " ++ name_at d b ++ codes " may open this ring")

-- what uneven rates do to that. Where memory runs out they are not known
abbrev pub uneven_line : Bool → Balance → List ℕ
uneven_line true Uneven = stall_line (codes "the rates are uneven: on longer streams any capacity may fill")
uneven_line true (Balanced q) = []
uneven_line true TooLarge = []
uneven_line false r = []

abbrev pub waits_text : Draft → Capacities → State → List ℕ → List ℕ
waits_text d caps st ring = flat_map (λ b. wait_line d b (wait_of d.net caps st b)) ring

abbrev pub ring_text : Draft → Capacities → State → List ℕ → List ℕ
ring_text d caps st ring = waits_text d caps st ring ++ opener_line d (full_in d.net caps st ring)

-- of each source that is left open
abbrev pub open_by : Draft → ℕ → Wait → List ℕ
open_by d b ForFeed = feed_line d b
open_by d b IsOver = []
open_by d b HasClaim = []
open_by d b MayAct = []
open_by d b (ForItems port writer) = []
open_by d b (ForRoom port reader) = []

abbrev pub open_line : Draft → Capacities → State → ℕ → List ℕ
open_line d caps st b = open_by d b (wait_of d.net caps st b)

abbrev pub open_text : Draft → Capacities → State → List ℕ
open_text d caps st = each_block d (open_line d caps st)

-- the waits of the lowest live block lead to a block: it is on a ring, or a source that ends them
abbrev pub stall_at : List ℕ → Draft → Capacities → State → Option ℕ → List ℕ
stall_at rates d caps st None = []
stall_at rates d caps st (Some b) = if is_for_block (wait_of d.net caps st b) then ring_text d caps st
    (ring_at d.net caps st b) ++ rates else open_text d caps st

-- what is said of a run that stalled, with this text on the rates
abbrev pub stall_text : List ℕ → Draft → Capacities → State → List ℕ
stall_text rates d caps st = stall_at rates d caps st (ring_of d.net caps st)
