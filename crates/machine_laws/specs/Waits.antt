-- What a block waits for, and of which block. A closed network that rests before its end has a ring of blocks, each
-- waiting for the next.
use Rattle.std.specs.Prelude.{ℕ, zero, suc, ◌<◌, ◌≤◌, ◌≡◌, List, [], ◌∷◌, length, Option, Some, None, Bool, true, false, nat_lt, not, position, if◌then◌else◌}
use Rattle.std.specs.Option.{option_map}
use Rattle.stream_model.specs.Network.{Connection, Network, State, Progress, node_at, progress_at, role_at, is_source, writer_of, readers_of, taken_by}
use Rattle.stream_model.specs.Claims.{Decision, IsDone, IsBusy, Ends, Fires, LacksItems, LacksRoom, decide}
use Rattle.stream_model.specs.Machine.{Capacities, counts_of, is_quiet}
use Rattle.stream_laws.specs.CanRun.{CanRun}
use Rattle.machine_laws.specs.Sound.{Sound, fired}
use Rattle.machine_laws.specs.Stalls.{AreClosed}

-- what a claim of a block comes to, or waits for
pub data Wait : Type 0 where
  -- the block is done
  IsOver : Wait
  -- a claim is in flight
  HasClaim : Wait
  -- firings fit, or the block becomes done
  MayAct : Wait
  -- a source has given all items of its tape, which is open
  ForFeed : Wait
  -- items on an input, of the block that writes them
  ForItems : (port writer : ℕ) → Wait
  -- room on an output, of the block that is the slowest to read it
  ForRoom : (port reader : ℕ) → Wait

-- how many items a reader has taken
abbrev pub taken_at : Network → State → Connection → ℕ
taken_at net st c = taken_by (node_at net c.to) c.in_port (fired st c.to)

-- the slower of the slowest reader so far and one more, which counts unless it is done; of two that took as much, the
-- first
abbrev pub slower_of : Network → State → Connection → Option Connection → Connection
slower_of net st c None = c
slower_of net st c (Some best) = if nat_lt (taken_at net st c) (taken_at net st best) then c else best

abbrev pub slower : Network → State → Option Connection → Connection → Option Connection
slower net st best c = if (progress_at st.progress c.to).done then best else Some (slower_of net st c best)

-- the slowest live reader among these connections, if there is one, behind the slowest so far
abbrev pub slowest : Network → State → Option Connection → List Connection → Option Connection
slowest net st best [] = best
slowest net st best (c ∷ cs) = slowest net st (slower net st best c) cs

-- the block that a connection leads to. (Where there is no room, there is one.)
abbrev pub reader_in : Option Connection → ℕ
reader_in None = 0
reader_in (Some c) = c.to

abbrev pub slowest_reader : Network → State → ℕ → ℕ → ℕ
slowest_reader net st b p = reader_in (slowest net st None (readers_of net b p))

abbrev pub items_wait : Network → ℕ → ℕ → Wait
items_wait net b p = if is_source (role_at net b) then ForFeed else ForItems p (writer_of net b p).from

-- what a block waits for by what a claim decides
abbrev pub wait_by : Network → State → ℕ → Decision → Wait
wait_by net st b IsDone = IsOver
wait_by net st b IsBusy = HasClaim
wait_by net st b Ends = MayAct
wait_by net st b (Fires count) = MayAct
wait_by net st b (LacksItems p) = items_wait net b p
wait_by net st b (LacksRoom p) = ForRoom p (slowest_reader net st b p)

-- what block b waits for
abbrev pub wait_of : Network → Capacities → State → ℕ → Wait
wait_of net caps st b = wait_by net st b (decide (node_at net b) (counts_of net caps st b) 1)

-- whether another block is waited for
abbrev pub is_for_block : Wait → Bool
is_for_block IsOver = false
is_for_block HasClaim = false
is_for_block MayAct = false
is_for_block ForFeed = false
is_for_block (ForItems p writer) = true
is_for_block (ForRoom p reader) = true

-- the block that block b waits for; b itself where it waits for none
abbrev pub waited_for : ℕ → Wait → ℕ
waited_for b IsOver = b
waited_for b HasClaim = b
waited_for b MayAct = b
waited_for b ForFeed = b
waited_for b (ForItems p writer) = writer
waited_for b (ForRoom p reader) = reader

abbrev pub next_of : Network → Capacities → State → ℕ → ℕ
next_of net caps st b = waited_for b (wait_of net caps st b)

-- a function, so often
abbrev pub repeated : (ℕ → ℕ) → ℕ → ℕ → ℕ
repeated f zero b = b
repeated f (suc k) b = repeated f k (f b)

-- the block to which so many waits lead from block b
abbrev pub followed : Network → Capacities → State → ℕ → ℕ → ℕ
followed net caps st k b = repeated (next_of net caps st) k b

-- the lowest block that is not done, and where as many waits lead from it as there are blocks
abbrev pub lowest_live : State → Option ℕ
lowest_live st = position (λ (s : Progress). not s.done) st.progress

abbrev pub ring_of : Network → Capacities → State → Option ℕ
ring_of net caps st = option_map (followed net caps st (length net.nodes)) (lowest_live st)

-- block b is on a ring: the waits lead from it back to it, and on the way each block waits for another
pub record IsOnRing (net : Network) (caps : Capacities) (st : State) (b : ℕ) : Type 0 where
  pub count : ℕ
  pub some : 0 < count
  pub few : count ≤ length net.nodes
  pub back : followed net caps st count b ≡ b
  pub waits : (k : ℕ) → is_for_block (wait_of net caps st (followed net caps st k b)) ≡ true

-- with all tapes closed, a network that rests before its end has a ring, and from whichever live block the waits lead
-- to it
abbrev pub WaitsComeBack : Type 0
WaitsComeBack =
    (net : Network) (caps : Capacities) (st : State) → CanRun net → Sound net caps st → AreClosed net st
    → is_quiet net caps st ≡ true →
    (b : ℕ) → b < length net.nodes → (progress_at st.progress b).done ≡ false
    → IsOnRing net caps st (followed net caps st (length net.nodes) b)
