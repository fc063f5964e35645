use Rattle.std.proofs.Common.{◌≡◌, ◌<◌, ◌≤◌, length, drop, get_or, arith, refl}
use Rattle.script_text.specs.Lines.{without_return}
use Rattle.script_text.proofs.LineLemmas.{taken_line, none_between, too_long, rest_none, rest_length}
use Rattle.script_text.proofs.splitter.LineSplitter.take_line.Goals as goal
use Rattle.script_text.proofs.splitter.LineSplitter.take_line.Goals.{then-length-gt-LONGEST_LINE, else-length-gt-LONGEST_LINE}

pub returns-then-end-len : goal.returns-then-end-len
returns-then-end-len c =
    let s = c.self.inside in
    let xs = s.buffer.items in
    let end = c.position_from-end.result in
    let none = none_between xs s.start s.searched end c.self.invariant.4 (rw c.as_slice.ensures.value at c.position_from-end.ensures.before) in
    let high : end < length xs = omega (arith, s.buffer.ok.0) in
    let found : get_or xs end 0 ≡ 10 = (rw c.as_slice.ensures.value at c.position_from-end.ensures.found) high in
    let within = rw c.deref.ensures.value at c.length_without_return-length.ensures.within in
    let value = rw c.deref.ensures.value at c.length_without_return-length.ensures.value in
    rw (← c.self.view_is) (record {
      first = λ more. taken_line xs s.start end c.length_without_return-length.result more (omega arith) high none found within value;
      counted = omega arith;
    })

pub returns-after-length-gt-LONGEST_LINE : goal.returns-after-length-gt-LONGEST_LINE
returns-after-length-gt-LONGEST_LINE c =
    let s = c.self.inside in
    let xs = s.buffer.items in
    let end = c.position_from-end.result in
    let none = none_between xs s.start s.searched end c.self.invariant.4 (rw c.as_slice.ensures.value at c.position_from-end.ensures.before) in
    let past : length xs ≤ end = omega (arith, s.buffer.ok.0) in
    let within = rw c.deref.ensures.value at c.length_without_return-length.ensures.within in
    let value = rw c.deref.ensures.value at c.length_without_return-length.ensures.value in
    let long : length (without_return (drop s.start xs)) ≡ c.length_without_return-length.result = rest_length xs s.start end _ past within value in
    let no_end = rest_none xs s.start end past none in
    rw (← c.self.view_is) elim c.if-length-gt-LONGEST_LINE.branch [
      | then-length-gt-LONGEST_LINE w ↦ rw w.result-is (too_long (drop s.start xs) no_end (omega (arith, long, w.if-length-gt-LONGEST_LINE.true)), record { rest = refl; line = refl; taken = refl })
      | else-length-gt-LONGEST_LINE w ↦ rw w.result-is (record { no_end = no_end; short = omega (arith, long, w.if-length-gt-LONGEST_LINE.false) }, record { rest = refl; line = refl; taken = refl })
    ]
