-- Rounds in which some blocks are held back.
use Rattle.std.specs.Prelude.{ℕ, ◌≡◌, ◌<◌, ◌≤◌, ◌⊎◌, List, length, Bool, true, false, slice_index_or}
use Rattle.stream_model.specs.Network.{Network, State}
use Rattle.stream_model.specs.Machine.{Capacities, Claim, step_of}
use Rattle.machine_laws.specs.Steps.{moves_on, steps_left}

-- block b is held back
abbrev pub is_held : List Bool → ℕ → Bool
is_held held b = slice_index_or held b false

-- the turn of block b in a round: it is held back, and nothing changes, or it is stepped; and whether it moved on
abbrev pub IsTurn : List Bool → Network → Capacities → (max : ℕ) → State → State → (b : ℕ) → Bool → Type 0
IsTurn held net caps max old new b moved =
    ((is_held held b ≡ true) × (new ≡ old) × (moved ≡ false)) ⊎
    ((new ≡ (step_of net caps old b max).1) × (moved ≡ moves_on old (Claim b max) (step_of net caps old b max).0))

-- a step of a block, of few firings, would not move it on
abbrev pub StaysAt : Network → Capacities → (few : ℕ) → State → ℕ → Type 0
StaysAt net caps few st b = moves_on st (Claim b few) (step_of net caps st b few).0 ≡ false

-- after a round of all blocks but those that are held back, of at most max firings each: where one moved on fewer steps
-- are left, and else nothing changed, and none of the others can move on
abbrev pub HasMovedBeside : List Bool → Network → Capacities → (max : ℕ) → State → State → Bool → Type 0
HasMovedBeside held net caps max old new true = steps_left net new < steps_left net old
HasMovedBeside held net caps max old new false =
    (new ≡ old) × ((few : ℕ) × (1 ≤ few) × (few ≤ max) ×
    ((b : ℕ) → b < length net.nodes → is_held held b ≡ false → StaysAt net caps few old b))
