use Rattle.std.proofs.Common.{◌≡◌, ◌++◌}
use Rattle.std.specs.List.{flat_map}
use Rattle.stream_model.specs.Lists.{below}
use Rattle.rates.specs.Answer.{sizes_of}
use Rattle.drawings.specs.Parts.{arrow_at}
use Rattle.drawings.specs.Drawings.{connection_text}
use Rattle.drawings.proofs.drawing.push_connections.Given as goal

-- the first connections were written
abbrev pub invariant-loop-number : goal.invariant-loop-number
invariant-loop-number l = l.text.items ≡ l.initial.text.items ++ flat_map (λ n. connection_text l.format n (arrow_at l.graph (sizes_of l.sizes) n)) (below l.number)
