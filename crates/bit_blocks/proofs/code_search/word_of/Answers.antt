use Rattle.std.proofs.Common.{◌≡◌, ℕ, ◌+◌, ◌*◌, ◌^◌, ◌<◌, ◌≤◌, List, length, map, pos, arith, ap, ap₂, ◌∙◌}
use Rattle.std.proofs.Math.Nat.{pow-le-pow_right}
use Rattle.kind_model.specs.Bits.{low_bit}
use Rattle.bit_blocks.specs.Marked.{word_at}
use Rattle.bit_blocks.proofs.Marks.{low_bit-byte, word_at-few, word_at-more}
use Rattle.bit_blocks.proofs.code_search.word_of.Goals as goal

-- a word of fewer than 64 bits
few_bits : (bytes : List ℕ) (k word : ℕ) → k ≤ 63 → word ≡ word_at k (map pos bytes) 0 → word < 9223372036854775808
few_bits bytes k word few is =
    let most : 2 ^ k ≤ 2 ^ 63 = pow-le-pow_right (omega arith) few in
    omega (arith, most, is, word_at-few k (map pos bytes) 0)

pub overflow_mul-word : goal.overflow_mul-word
overflow_mul-word c =
    let few : c.loop-k.k ≤ 63 = omega (arith, c.loop-k-test.true, c.requires) in
    omega (arith, few_bits c.args.bytes.now c.loop-k.k c.loop-k.word few c.loop-k.invariant)

pub overflow_add-word : goal.overflow_add-word
overflow_add-word c =
    let few : c.loop-k.k ≤ 63 = omega (arith, c.loop-k-test.true, c.requires) in
    let one : c.from.result < 2 = omega (arith, c.from.ensures) in
    omega (arith, few_bits c.args.bytes.now c.loop-k.k c.loop-k.word few c.loop-k.invariant, one)

pub loop-k-preserved : goal.loop-k-preserved
loop-k-preserved c =
    let w = map pos c.args.bytes.now in
    let k = c.loop-k.k in
    let there : k < length c.args.bytes.now = omega (arith, c.loop-k-test.true) in
    let place : k ≡ 0 + k = omega arith in
    let bit : c.from.result ≡ low_bit w (0 + k) = c.from.ensures ∙ low_bit-byte c.args.bytes.now k there ∙ ap (low_bit w) place in
    ap₂ (λ u b. 2 * u + b) c.loop-k.invariant bit ∙ word_at-more k w 0
