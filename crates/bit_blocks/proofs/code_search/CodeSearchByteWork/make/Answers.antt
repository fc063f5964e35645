use Rattle.std.proofs.Common.{◌≡◌, ◌+◌, ◌-◌, ◌*◌, ◌%◌, ◌^◌, ◌<◌, ◌≤◌, ◌&&◌, length, map, get_or, pos, arith, ap, ap₂, ◌∙◌}
use Rattle.std.specs.Prelude.{nat_le, if◌then◌else◌}
use Rattle.std.proofs.Math.Nat.{pow-le-pow_right, mod-eq_of_lt}
use Rattle.std.proofs.lemmas.List.{length-map}
use Rattle.kind_model.specs.Bits.{low_bit}
use Rattle.kind_model.specs.BitStreams.{distance}
use Rattle.item_dispatch.proofs.Written.{write_next, written_all}
use Rattle.bit_blocks.specs.Marked.{word_at, marked}
use Rattle.bit_blocks.proofs.Marks.{low_bit-byte, word_at-begun, word_at-next}
use Rattle.bit_blocks.proofs.code_search.CodeSearchByteWork.make.Goals as goal

pub loop-k-init : goal.loop-k-init
loop-k-init c =
    let b = c.args.self.now in
    let enough : b.length ≤ length c.args.items.now = omega (arith, c.requires.0, length-map c.args.items.now pos) in
    record {
      word = c.word_of-word.ensures ∙ word_at-begun c.args.items.now b.length enough;
      written = λ j h. absurd (omega arith);
    }

pub loop-k-preserved : goal.loop-k-preserved
loop-k-preserved c =
    let b = c.args.self.now in
    let w = map pos c.args.items.now in
    let k = c.loop-k.k in
    let there : k + b.length < length c.args.items.now = omega (arith, c.requires.0, length-map c.args.items.now pos, c.loop-k-test.true) in
    let bit : get_or c.args.items.now (k + b.length) 0 % 2 ≡ low_bit w (k + b.length) = low_bit-byte c.args.items.now (k + b.length) there in
    let few : b.length - 1 ≤ 63 = omega (arith, b.few) in
    let most : 2 ^ (b.length - 1) ≤ 2 ^ 63 = pow-le-pow_right (omega arith) few in
    let power : 1 * 2 ^ (b.length - 1) % 18446744073709551616 ≡ 2 ^ (b.length - 1) =
    ap (λ p. p % 18446744073709551616) (omega arith) ∙ mod-eq_of_lt (omega (arith, most)) in
    let next : c.from.result ≡ low_bit w (k + b.length) = c.from.ensures ∙ bit in
    let given : c.mark.result
    ≡ low_bit w (k + b.length) + 2 * (if nat_le b.length (b.first + k) && nat_le (distance (word_at b.length w k) b.code) b.threshold then 1 else 0) =
    c.mark.ensures
    ∙ ap₂ (λ u v. u + 2 * (if nat_le b.length (b.first + k) && nat_le (distance v b.code) b.threshold then 1 else 0)) bit c.loop-k.invariant.word in
    record {
      word = (λ i. 2 * (c.loop-k.invariant.word i % power i) + next i) ∙ word_at-next b.length w k b.some;
      written = write_next pos c.loop-k.out k c.mark.result (marked b.code b.length b.threshold b.first w) c.loop-k.invariant.written (omega (arith, c.loop-k-test.true)) (ap pos given);
    }

pub returns : goal.returns
returns c = written_all pos c.loop-k.out (length c.args.out.now) _ (omega arith) (λ j h. c.loop-k.invariant.written j (omega arith))
