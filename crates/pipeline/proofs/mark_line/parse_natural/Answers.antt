use Rattle.std.proofs.Common.{◌≡◌, ℕ, ◌+◌, drop, get_or, List, true, sym, ◌∙◌, arith}
use Rattle.std.proofs.lemmas.List.{at_drop_more}
use Rattle.script_text.specs.Numbers.{digits_after, within, is_digit}
use Rattle.script_text.proofs.NumberLemmas.{natural_of_some, digit_too_great}
use Rattle.pipeline.proofs.mark_line.parse_natural.Goals as goal

pub returns-then-number-most : goal.returns-then-number-most
returns-then-number-most c =
    let digits = c.args.digits.now in
    let index = c.loop-digit.digit-index in
    let digit = get_or digits index 0 in
    let more = at_drop_more (λ (ds : List ℕ). within 0 c.args.most (digits_after c.loop-digit.number ds)) digits index 0 c.loop-digit-test.true in
    let is : is_digit digit ≡ true = sym c.is_ascii_digit.ensures.value ∙ c.if-not-is_ascii_digit.false in
    rw (natural_of_some digits (omega arith), ← c.loop-digit.invariant.value)
    (sym (more ∙ digit_too_great c.args.most c.loop-digit.number digit (drop (index + 1) digits) is (omega arith)))

pub returns-then-value-most : goal.returns-then-value-most
returns-then-value-most c =
    let digits = c.args.digits.now in
    let index = c.loop-digit.digit-index in
    let digit = get_or digits index 0 in
    let more = at_drop_more (λ (ds : List ℕ). within 0 c.args.most (digits_after c.loop-digit.number ds)) digits index 0 c.loop-digit-test.true in
    let is : is_digit digit ≡ true = sym c.is_ascii_digit.ensures.value ∙ c.if-not-is_ascii_digit.false in
    rw (natural_of_some digits (omega arith), ← c.loop-digit.invariant.value)
    (sym (more ∙ digit_too_great c.args.most c.loop-digit.number digit (drop (index + 1) digits) is (omega arith)))
