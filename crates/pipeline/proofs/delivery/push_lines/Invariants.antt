use Rattle.std.proofs.Common.{◌≡◌, ◌++◌, take}
use Rattle.pipeline.specs.Parts.{lines_of_part}
use Rattle.script_text.specs.Printed.{tags_seen}
use Rattle.pipeline.proofs.delivery.push_lines.Given as goal

-- the lines of the first tags were written
abbrev pub invariant-loop-tag : goal.invariant-loop-tag
invariant-loop-tag l = l.bytes.items ≡ l.fn.bytes.items ++ lines_of_part l.part (tags_seen (take l.tag-index l.tags))
