use Rattle.std.proofs.Common.{◌≡◌, ◌++◌, take, map}
use Rattle.std.specs.List.{flat_map}
use Rattle.script_text.specs.Replies.{item_text}
use Rattle.script_text.proofs.print.push_numbers.Given as goal

-- the first numbers were written
abbrev pub invariant-loop-number : goal.invariant-loop-number
invariant-loop-number g l = l.out.items ≡ l.fn.out.items ++ flat_map item_text (map g.T.Number.number (take l.number-index l.numbers))
