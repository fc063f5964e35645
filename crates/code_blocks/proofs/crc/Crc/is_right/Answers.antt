use Rattle.std.proofs.Common.{◌≡◌, ◌+◌, inl, inr, map, pos, true, arith, ap, subst, sym, ◌∙◌}
use Rattle.std.specs.Ordering.{int_eq}
use Rattle.std.proofs.lemmas.Bool.{cases_lt}
use Rattle.kind_model.specs.Codes.{checksum, checksum_byte}
use Rattle.stream_model.specs.Lists.{item}
use Rattle.code_blocks.proofs.Frames.{checked-right, checked-wrong, checksum-part}
use Rattle.code_blocks.proofs.crc.Crc.is_right.Goals as goal

pub returns-then-not-has_byte : goal.returns-then-not-has_byte
returns-then-not-has_byte c =
    let self = c.args.self.now in
    let x = map pos c.args.frame.now in
    let j = c.loop-j.j in
    let sum = c.checksum-sum.ensures ∙ checksum-part self.rule self.length c.args.frame.now (omega (arith, c.requires)) in
    let fails = ap (λ s. int_eq (item x (0 + self.length + j)) (checksum_byte self.rule s j)) (sym sum) ∙ sym c.has_byte.ensures ∙ c.if-not-has_byte.true in
    sym (checked-wrong self.rule self.length x j (omega (arith, c.loop-j-test.true, c.requires)) fails)

pub loop-j-preserved : goal.loop-j-preserved
loop-j-preserved c i h =
    let self = c.args.self.now in
    let x = map pos c.args.frame.now in
    let j = c.loop-j.j in
    let sum = c.checksum-sum.ensures ∙ checksum-part self.rule self.length c.args.frame.now (omega (arith, c.requires)) in
    let passes = ap (λ s. int_eq (item x (0 + self.length + j)) (checksum_byte self.rule s j)) (sym sum) ∙ sym c.has_byte.ensures ∙ c.if-not-has_byte.false in
    elim (cases_lt i j) [
      | inl sooner ↦ c.loop-j.invariant i sooner
      | inr now ↦
          let here : j ≡ i = omega (arith, now, h) in
          subst (λ k. int_eq (item x (0 + self.length + k)) (checksum_byte self.rule (checksum self.rule x 0 self.length) k) ≡ true) here passes
    ]

pub returns : goal.returns
returns c =
    let self = c.args.self.now in
    sym (checked-right self.rule self.length (map pos c.args.frame.now) (λ j h. c.loop-j.invariant j (omega (arith, h, c.loop-j-test.false, c.requires))))
