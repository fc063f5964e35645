use Rattle.std.proofs.Common.{◌≡◌, ◌++◌}
use Rattle.std.specs.List.{flat_map}
use Rattle.stream_model.specs.Lists.{below}
use Rattle.rates.specs.Answer.{answer_of}
use Rattle.drawings.specs.Parts.{box_at}
use Rattle.drawings.specs.Drawings.{block_text}
use Rattle.drawings.proofs.drawing.push_blocks.Given as goal

-- the first blocks were written
abbrev pub invariant-loop-number : goal.invariant-loop-number
invariant-loop-number l = l.text.items ≡ l.initial.text.items ++ flat_map (λ n. block_text l.format n (box_at l.graph (answer_of l.rates) n)) (below l.number)
