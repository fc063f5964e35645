use Rattle.std.proofs.Common.{◌∷◌, [], ◌++◌, ◌∙◌, pos, map, take, get_or, ap, sym, arith}
use Rattle.std.proofs.lemmas.List.{map-append}
use Rattle.bit_blocks.specs.Codes.{coded, word_after}
use Rattle.bit_blocks.proofs.Codes.{coded-push, word_after-push, one_read}
use Rattle.bit_blocks.proofs.code.push_code.Goals as goal

pub loop-byte-preserved : goal.loop-byte-preserved
loop-byte-preserved g c =
    let i = c.loop-byte.byte-index in
    let gives = g.C.Coder.gives c.args.coder in
    let next = g.C.Coder.next c.args.coder in
    let byte = get_or c.args.items.now i 0 in
    let before = map pos (take i c.args.items.now) in
    let more = one_read c.args.items.now i c.loop-byte-test.true in
    record {
      is_word = c.step-given.ensures.word;
      items = ap (map pos) c.push_reserved.ensures.items
          ∙ map-append pos c.loop-byte.made.items (c.step-given.result.0 ∷ [])
          ∙ (λ j. c.loop-byte.invariant.items j ++ pos (c.step-given.ensures.given j) ∷ [])
          ∙ ap (λ v. coded gives next c.args.start before ++ pos (gives v (pos byte)) ∷ []) c.loop-byte.invariant.word
          ∙ sym (coded-push gives next c.args.start before (pos byte))
          ∙ sym (ap (coded gives next c.args.start) more);
      word = c.step-given.ensures.next
          ∙ ap (λ v. next v (pos byte)) c.loop-byte.invariant.word
          ∙ sym (word_after-push gives next c.args.start before (pos byte))
          ∙ sym (ap (word_after next c.args.start) more);
      len = omega (arith, c.push_reserved.ensures.len, c.loop-byte.invariant.len);
      capacity = c.push_reserved.ensures.capacity ∙ c.loop-byte.invariant.capacity;
    }
