use Rattle.std.proofs.Common.{◌≡◌, inl, inr, ◌+◌, ◌<◌, length, map, set, pos, get_or, arith, ap, sym, ◌∙◌}
use Rattle.std.proofs.lemmas.Bool.{cases_lt}
use Rattle.std.proofs.lemmas.List.{get_or-map, length-set}
use Rattle.stream_model.specs.Lists.{item}
use Rattle.kind_model.specs.Codes.{checksum, checksum_byte, with_checksum}
use Rattle.code_blocks.proofs.Frames.{item-written, item-kept, with-frame, with-sum}
use Rattle.code_blocks.proofs.crc.Crc.append.Goals as goal

pub loop-r-preserved : goal.loop-r-preserved
loop-r-preserved c =
    let self = c.args.self.now in
    let frame = c.args.frame.now in
    let out = c.loop-r.out in
    let r = c.loop-r.r in
    let place = c.args.at + r in
    let v = get_or frame r 0 in
    let taken = c.requires.taken in
    let within : place < length out = omega (arith, c.loop-r.invariant.len, c.requires.given, taken, c.loop-r-test.true) in
    record {
      len = length-set out place v ∙ c.loop-r.invariant.len;
      stays = λ i h.
          item-kept out place v i
          (λ e. elim h as (λ _. ⊥) [ inl less ↦ omega (arith, less, e) | inr more ↦ omega (arith, more, e, c.loop-r-test.true, taken) ])
          ∙ c.loop-r.invariant.stays i h;
      written = λ i h.
          elim (cases_lt i r) [
            | inl sooner ↦ item-kept out place v (c.args.at + i) (λ e. omega (arith, e, sooner)) ∙ c.loop-r.invariant.written i sooner
            | inr now ↦
                let here : c.args.at + i ≡ place = omega (arith, now, h) in
                let there : 0 + i ≡ r = omega (arith, now, h) in
                ap (item (map pos (set out place v))) here ∙ item-written out place v within
                ∙ sym (with-frame self.rule self.length (map pos frame) 0 i (omega (arith, now, h, taken, c.loop-r-test.true)) ∙ ap (item (map pos frame)) there ∙ get_or-map pos frame r 0 (pos 0) c.loop-r-test.true)
          ];
    }

pub loop-j-init : goal.loop-j-init
loop-j-init c =
    record {
      len = c.loop-r.invariant.len;
      stays = c.loop-r.invariant.stays;
      written = λ i h. c.loop-r.invariant.written i (omega (arith, h, c.loop-r-test.false));
    }

pub loop-j-preserved : goal.loop-j-preserved
loop-j-preserved c =
    let self = c.args.self.now in
    let frame = c.args.frame.now in
    let out = c.loop-j.out in
    let j = c.loop-j.j in
    let place = c.args.at + length frame + j in
    let v = c.byte.result in
    let taken = c.requires.taken in
    let within : place < length out = omega (arith, c.loop-j.invariant.len, c.requires.given, taken, c.loop-j-test.true, c.bytes-bytes.ensures) in
    record {
      len = length-set out place v ∙ c.loop-j.invariant.len;
      stays = λ i h.
          item-kept out place v i
          (λ e. elim h as (λ _. ⊥) [ inl less ↦ omega (arith, less, e) | inr more ↦ omega (arith, more, e, c.loop-j-test.true, taken, c.bytes-bytes.ensures) ])
          ∙ c.loop-j.invariant.stays i h;
      written = λ i h.
          elim (cases_lt i (length frame + j)) [
            | inl sooner ↦ item-kept out place v (c.args.at + i) (λ e. omega (arith, e, sooner)) ∙ c.loop-j.invariant.written i sooner
            | inr now ↦
                let here : c.args.at + i ≡ place = omega (arith, now, h) in
                let there : self.length + j ≡ i = omega (arith, now, h, taken) in
                ap (item (map pos (set out place v))) here ∙ item-written out place v within ∙ c.byte.ensures
                ∙ ap (λ s. checksum_byte self.rule s j) (c.checksum-sum.ensures ∙ ap (checksum self.rule (map pos frame) 0) taken)
                ∙ sym (with-sum self.rule self.length (map pos frame) 0 j)
                ∙ ap (with_checksum self.rule self.length (map pos frame) 0) there
          ];
    }
