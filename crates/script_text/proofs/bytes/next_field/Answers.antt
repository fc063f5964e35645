use Rattle.std.proofs.Common.{◌<◌, length, arith}
use Rattle.std.proofs.lemmas.List.{take_rest}
use Rattle.script_text.proofs.FieldLemmas.{field_between, no_field}
use Rattle.script_text.proofs.bytes.next_field.Goals as goal

pub returns-then-start-bytes-clause-none : goal.returns-then-start-bytes-clause-none
returns-then-start-bytes-clause-none c = no_field c.args.bytes.now (λ k low. c.spaces_before-start.ensures.spaces k (omega (arith, c.if-start-bytes.true)))

pub returns-clause-found : goal.returns-clause-found
returns-clause-found c =
    let before = c.spaces_before-start.ensures in
    let word = c.position_from-end.ensures in
    let some : c.spaces_before-start.result < length c.args.bytes.now = omega (arith, before.within, c.if-start-bytes.false) in
    rw (take_rest (c.args.bytes.now) (c.position_from-end.result))
    (field_between c.args.bytes.now c.spaces_before-start.result c.position_from-end.result some word.after word.within before.spaces (before.other some) word.before word.found)
