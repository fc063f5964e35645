use Rattle.std.proofs.Common.{sym, arith, add-one}
use Rattle.std.proofs.lemmas.List.{take_rest}
use Rattle.script_text.proofs.FieldLemmas.{cut_found, cut_none}
use Rattle.script_text.proofs.bytes.cut_at.Goals as goal

pub returns-then-place-bytes : goal.returns-then-place-bytes
returns-then-place-bytes c =
    let found = c.position_from-place.ensures in
    rw (take_rest, add-one) (sym (cut_found c.args.byte c.args.bytes.now c.position_from-place.result c.if-place-bytes.true (λ k low. found.before k (omega arith) low) (found.found c.if-place-bytes.true)))

pub returns-else-place-bytes : goal.returns-else-place-bytes
returns-else-place-bytes c =
    sym (cut_none c.args.byte c.args.bytes.now (λ k low. c.position_from-place.ensures.before k (omega arith) (omega (arith, c.if-place-bytes.false))))
