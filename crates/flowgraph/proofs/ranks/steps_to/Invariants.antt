use Rattle.std.proofs.Common.{◌<◌, ℕ}
use Rattle.std.specs.List.{All}
use Rattle.flowgraph.specs.declared.ranks.Step.{Step}
use Rattle.flowgraph.proofs.ranks.steps_to.Given as goal

abbrev pub invariant-loop-root : goal.invariant-loop-root
invariant-loop-root l = (blocks : ℕ) → All (λ b. b < blocks) l.roots → All (λ (s : Step). s.block < blocks) l.stack.items
