use Rattle.std.proofs.Common.{◌≡◌, ◌<◌, ◌∙◌, length, map, sym, arith, pos}
use Rattle.std.specs.Simd.Lanes.{zip2}
use Rattle.std.proofs.lemmas.List.{length-map}
use Rattle.std.proofs.lemmas.Simd.{get_or-zip2}
use Rattle.lane_kernels.proofs.Appended.{read_number}
use Rattle.lane_kernels.proofs.Parts.{all_there, length-zipped}
use Rattle.lane_kernels.proofs.Seconds.{number_more}
use Rattle.lane_kernels.proofs.plain.EachTwoZipBlock.block.Goals as goal

pub loop-k-preserved : goal.loop-k-preserved
loop-k-preserved g c =
    let number = g.T.Number.number in
    let f = g.O.OfTwo.means in
    let a = c.args.a.now in
    let b = c.args.b.now in
    let k = c.loop-k.k in
    let same : length b ≡ length a = c.requires.b_block.whole ∙ sym c.requires.a_block.whole in
    let near : k < length a = omega (arith, c.requires.a_block.whole, c.requires.out_block, c.loop-k-test.true) in
    let near' : k < length b = omega (arith, near, same) in
    number_more number (zip2 f (map number a) (map number b)) k c.loop-k.out c.of.result (omega arith) (omega (arith, near, length-zipped number f a b same)) c.loop-k.invariant
    (c.of.ensures
    ∙ (λ i. f (read_number number a k c.index-a-k.result c.index-a-k.is near i) (read_number number b k c.index-b-k.result c.index-b-k.is near' i))
    ∙ sym (get_or-zip2 f (map number a) (map number b) k (pos 0) (pos 0) (pos 0) (omega (arith, near, length-map a number)) (omega (arith, near', length-map b number))))

pub returns : goal.returns
returns g c =
    let number = g.T.Number.number in
    let f = g.O.OfTwo.means in
    let a = c.args.a.now in
    let b = c.args.b.now in
    let same : length b ≡ length a = c.requires.b_block.whole ∙ sym c.requires.a_block.whole in
    all_there number (zip2 f (map number a) (map number b)) c.loop-k.k c.loop-k.out (omega (arith, c.loop-k-test.false))
    (omega (arith, c.loop-k-test.false, length-zipped number f a b same, c.requires.a_block.whole, c.requires.out_block)) c.loop-k.invariant
