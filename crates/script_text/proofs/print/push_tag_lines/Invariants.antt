use Rattle.std.proofs.Common.{◌≡◌, ◌++◌, take}
use Rattle.std.specs.List.{flat_map}
use Rattle.script_text.specs.Replies.{tag_line}
use Rattle.script_text.specs.Printed.{tags_seen}
use Rattle.script_text.proofs.print.push_tag_lines.Given as goal

-- the first tags were written
abbrev pub invariant-loop-tag : goal.invariant-loop-tag
invariant-loop-tag l = l.out.items ≡ l.fn.out.items ++ flat_map tag_line (tags_seen (take l.tag-index l.tags))
