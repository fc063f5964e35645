-- Blocks in a list.
use Rattle.std.specs.Prelude.{ℕ, ◌<◌, List, All}
use Rattle.flowgraph.specs.declared.parts.BlockId.{BlockId}

-- they are among the first n
abbrev pub AreWithin : ℕ → List BlockId → Type 0
AreWithin n ids = All (λ (id : BlockId). id.0 < n) ids
