-- What a worker brings to its next turn.
use Rattle.std.specs.Prelude.{◌≡◌, Option, Some, None}
use Rattle.claimed_work.specs.Jobs.{JobState, WorkedState}

-- what was made of this job
abbrev pub BringsJob : {B : Type 0} → JobState B → Option (WorkedState B) → Type 0
BringsJob job None = ⊥
BringsJob job (Some work) = (work.graph ≡ job.graph) × (work.job ≡ job.job)
