use Rattle.std.proofs.Common.{ℕ, ◌≡◌, ◌<◌, ◌≤◌, List, length, get_or, true, arith, sym, ◌∙◌}
use Rattle.kind_schema.specs.Ranges.{is_code}
use Rattle.kind_schema.proofs.Lists.{code-decides, code_from-more, below-more, below-room}
use Rattle.kind_schema.proofs.code.code_of.Goals as goal

-- each digit is 0 or 1
digit : (text : List ℕ) (i : ℕ) → is_code text ≡ true → i < length text → (48 ≤ get_or text i 0) × (get_or text i 0 ≤ 49)
digit text i is lt = ((code-decides text).0 is).1 i 0 lt

room : (text : List ℕ) (i : ℕ) → is_code text ≡ true → i < length text → i < 64
room text i is lt = let few = ((code-decides text).0 is).0.1 in omega arith

pub overflow_add-code : goal.overflow_add-code
overflow_add-code c =
    let below = below-room c.loop-digit.code c.loop-digit.digit-index (room c.args.text.now c.loop-digit.digit-index c.requires c.loop-digit-test.true) c.loop-digit.invariant.1 in
    let d = digit c.args.text.now c.loop-digit.digit-index c.requires c.loop-digit-test.true in
    omega (arith, c.from.ensures)

pub loop-digit-preserved : goal.loop-digit-preserved
loop-digit-preserved c =
    let d = digit c.args.text.now c.loop-digit.digit-index c.requires c.loop-digit-test.true in
    let more = code_from-more c.loop-digit.code c.loop-digit.digit-index c.args.text.now 0 c.loop-digit-test.true in (
      rw c.from.ensures (sym more ∙ c.loop-digit.invariant.0),
      below-more c.loop-digit.code c.loop-digit.digit-index c.from.result c.loop-digit.invariant.1 (omega (arith, c.from.ensures)),
    )
