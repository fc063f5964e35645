use Rattle.std.proofs.Common.{◌<◌, length, drop, arith}
use Rattle.std.proofs.lemmas.List.{length-drop, take_rest}
use Rattle.script_text.proofs.LineLemmas.{only_line}
use Rattle.script_text.proofs.splitter.LineSplitter.last_line.Goals as goal

pub returns-then-self-len : goal.returns-then-self-len
returns-then-self-len c =
    let xs = c.self.inside.buffer.items in
    let start = c.self.inside.start in
    let some : 0 < length (drop start xs) = omega (arith, length-drop start xs, c.self.inside.buffer.ok.0) in
    rw (c.deref.ensures.value, take_rest, ← c.self.view_is) (only_line (drop start xs) some (rw (← c.self.view_is) at c.requires.no_end))
