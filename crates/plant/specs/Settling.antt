-- Steps of all blocks in turn.
use Rattle.std.specs.Prelude.{◌≡◌, ℕ, ◌<◌, List, [], ◌∷◌, length, All, Bool, true, false}
use Rattle.stream_model.specs.Network.{Network, State}
use Rattle.stream_model.specs.Machine.{Capacities, step_of, is_all_done, is_quiet, IsWhole}
use Rattle.graph_model.specs.Rates.{Balanced, balance_of}
use Rattle.machine_laws.specs.Stalls.{AreClosed}
use Rattle.machine_laws.specs.Steps.{steps_left}
use Rattle.plant.specs.declared.answers.Settled.{Settled}
use Rattle.plant.specs.declared.answers.Settled.TheVariants.{Done, Quiet}

-- steps of at most max firings, one after another
abbrev pub steps_of : Network → Capacities → ℕ → State → List ℕ → State
steps_of net caps max st [] = st
steps_of net caps max st (b ∷ bs) = steps_of net caps max (step_of net caps st b max).1 bs

-- steps of blocks that there are led from one state to the other
abbrev pub StepsLead : Network → Capacities → ℕ → State → State → Type 0
StepsLead net caps max old new = (bs : List ℕ) × All (λ b. b < length net.nodes) bs
    × (new ≡ steps_of net caps max old bs)

-- each block is done, or the network is quiet and a block is not
abbrev pub HasSettled : Network → Capacities → State → Settled → Type 0
HasSettled net caps st Done = is_all_done st ≡ true
HasSettled net caps st Quiet = (is_all_done st ≡ false) × (is_quiet net caps st ≡ true)

-- with each block done, each sink holds its whole stream; a block that is not done at rest has rates without a balance,
-- or an open tape
abbrev pub HoldsSettled : Network → State → Settled → Type 0
HoldsSettled net st Done = IsWhole net st
HoldsSettled net st Quiet = (q : List ℕ) → balance_of net ≡ Balanced q → AreClosed net st → ⊥

-- after a round of all blocks: where one moved on fewer steps are left, and else the network is quiet
abbrev pub HasMoved : Network → Capacities → State → State → Bool → Type 0
HasMoved net caps old new true = steps_left net new < steps_left net old
HasMoved net caps old new false = is_quiet net caps new ≡ true
