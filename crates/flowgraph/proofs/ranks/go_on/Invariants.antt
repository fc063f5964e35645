use Rattle.std.proofs.Common.{◌<◌, ℕ}
use Rattle.std.specs.List.{All}
use Rattle.flowgraph.specs.declared.ranks.Step.{Step}
use Rattle.flowgraph.proofs.ranks.go_on.Given as goal

abbrev pub invariant-loop-block : goal.invariant-loop-block
invariant-loop-block l =
    (blocks : ℕ) → All (λ (s : Step). s.block < blocks) l.fn.stack.items → l.step.block < blocks → All (λ b. b < blocks) l.neighbours → All (λ (s : Step). s.block < blocks) l.stack.items
