-- When the block of a job is the graph's own.
use Rattle.std.specs.Prelude.{ℕ, Option, Some, None, Bool, false, slice_get}
use Rattle.flowgraph.specs.declared.parts.Entry.{Entry}
use Rattle.flowgraph.specs.Flowgraph.{Flowgraph}

abbrev pub same_blocks : {B : Type 0} → (B → B → Bool) → Option (Entry B) → Option (Entry B) → Bool
same_blocks eq None other = false
same_blocks eq (Some own) None = false
same_blocks eq (Some own) (Some other) = eq own.block other.block

-- a graph has block b, the other has it too, and the two are equal
abbrev pub is_own : {B : Type 0} → (B → B → Bool) → Flowgraph B → Flowgraph B → ℕ → Bool
is_own eq graph other b = same_blocks eq (slice_get graph.blocks b) (slice_get other.blocks b)
