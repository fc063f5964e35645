-- Searches along connections.
use Rattle.std.specs.Prelude.{ℕ, ◌≡◌, ◌<◌, length}
use Rattle.std.specs.List.{All}
use Rattle.flowgraph.specs.declared.ranks.Search.{Search}

-- a search has a place for each of so many blocks, and speaks of no others
pub record IsSearch (blocks : ℕ) (s : Search) : Type 0 where
  pub stack : All (λ step. step.block < blocks) s.stack.items
  pub seen : length s.seen.items ≡ blocks
  pub left : All (λ b. b < blocks) s.found.left.items
  pub roots : length s.found.roots.items ≡ blocks
