-- Orders of blocks for steps.
use Rattle.std.specs.Prelude.{ℕ, ◌≡◌, ◌<◌, List, length, All, Any, true, false, slice_index_or}
use Rattle.flowgraph.specs.declared.parts.BlockId.{BlockId}
use Rattle.flowgraph.specs.declared.step_order.Order.{Order}

-- each is one of so many blocks, and each of these is there
pub record IsOrderOf (blocks : ℕ) (order : List BlockId) : Type 0 where
  pub within : All (λ b. b.0 < blocks) order
  pub all : (block : ℕ) → block < blocks → Any (λ b. b.0 ≡ block) order

-- the same, of the blocks that have their place
pub record IsMade (order : Order) : Type 0 where
  pub within : All (λ b. b.0 < length order.placed.items) order.blocks.items
  pub placed : (block : ℕ) → slice_index_or order.placed.items block false ≡ true
      → Any (λ b. b.0 ≡ block) order.blocks.items
