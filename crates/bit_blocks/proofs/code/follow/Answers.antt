use Rattle.std.proofs.Common.{◌∙◌, pos, map, take, get_or, ap, sym}
use Rattle.bit_blocks.specs.Codes.{word_after}
use Rattle.bit_blocks.proofs.Codes.{word_after-push, one_read}
use Rattle.bit_blocks.proofs.code.follow.Goals as goal

pub loop-byte-preserved : goal.loop-byte-preserved
loop-byte-preserved g c =
    let i = c.loop-byte.byte-index in
    let next = g.C.Coder.next c.args.coder in
    let byte = get_or c.args.items.now i 0 in
    record {
      is_word = c.step-given.ensures.word;
      word = c.step-given.ensures.next
          ∙ ap (λ v. next v (pos byte)) c.loop-byte.invariant.word
          ∙ sym (word_after-push (g.C.Coder.gives c.args.coder) next c.args.start (map pos (take i c.args.items.now)) (pos byte))
          ∙ sym (ap (word_after next c.args.start) (one_read c.args.items.now i c.loop-byte-test.true));
    }
