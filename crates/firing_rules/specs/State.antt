-- The states that counts of firings and tapes stand for. What a claim decides looks at no item, so that lengths stand
-- for tapes.
use Rattle.std.specs.Prelude.{ℕ, ◌≡◌, pos, List, [], map, length, replicate}
use Rattle.stream_model.specs.Network as model
use Rattle.stream_model.specs.Network.{Network, Handed, State}
use Rattle.stream_model.specs.Machine.{Capacities}
use Rattle.graph_model.specs.Gains.{AreWithinGain}
use Rattle.stream_laws.specs.CanRun.{CanRun}
use Rattle.machine_laws.specs.Sound.{Sound}
use Rattle.firing_rules.specs.declared.progress.Progress.{Progress}
use Rattle.firing_rules.specs.declared.progress.Tape.{Tape}

abbrev pub progress_of : Progress → model.Progress
progress_of p = record { firings = p.firings; claimed = p.claimed; done = p.done }

abbrev pub state_of : List Handed → List model.Progress → State
state_of hs ps = record { handed = hs; progress = ps }

-- the length and the mark of a tape
abbrev pub tape_of : Handed → Tape
tape_of h = record { length = length h.tape; closed = h.closed }

-- the blocks were handed tapes of these lengths and marks
abbrev pub HasTapes : List Tape → List Handed → Type 0
HasTapes tapes hs = map tape_of hs ≡ tapes

-- a tape of zeros, of this length and mark
abbrev pub zeros : Tape → Handed
zeros t = record { tape = replicate t.length (pos 0); tags = []; closed = t.closed; settings = []; longest = t.length }

-- a state with such tapes and this progress
abbrev pub lent : List Tape → List model.Progress → State
lent tapes ps = state_of (map zeros tapes) ps

-- tapes and progress are those of some sound state, whose tapes come to be no longer than fit
pub record IsRunning (net : Network) (caps : Capacities) (tapes : List Tape) (ps : List model.Progress) : Type 0 where
  pub handed : List Handed
  pub tapes_are : HasTapes tapes handed
  pub within : AreWithinGain net handed
  pub sound : Sound net caps (state_of handed ps)

-- the capacities of the outputs, block by block
abbrev pub rows_of : {V : Type 0} → (V → List ℕ) → List V → Capacities
rows_of items rows = map items rows

-- where one was the progress of some sound state with these tapes, so is the other
abbrev pub StaysRunning : List model.Progress → List model.Progress → Type 0
StaysRunning old new =
    (net : Network) (caps : Capacities) (tapes : List Tape) → CanRun net → IsRunning net caps tapes old
    → IsRunning net caps tapes new
