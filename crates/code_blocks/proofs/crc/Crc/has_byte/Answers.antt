use Rattle.std.proofs.Common.{◌+◌, ◌<◌, length, map, get_or, pos, arith, ap, ap₂, sym, ◌∙◌}
use Rattle.std.specs.Ordering.{int_eq}
use Rattle.std.proofs.lemmas.List.{get_or-map}
use Rattle.stream_model.specs.Lists.{item}
use Rattle.code_blocks.proofs.Bytes.{same-test}
use Rattle.code_blocks.proofs.crc.Crc.has_byte.Goals as goal

pub returns : goal.returns
returns c =
    let frame = c.args.frame.now in
    let place = c.args.self.now.length + c.args.j in
    let within : place < length frame = omega (arith, c.requires.frame, c.requires.byte) in
    let here = sym (get_or-map pos frame place 0 (pos 0) within) ∙ ap (item (map pos frame)) (omega arith) in
    same-test (get_or frame place 0) c.byte.result ∙ ap₂ int_eq here c.byte.ensures
