use Rattle.std.proofs.Common.{◌<◌, ◌∙◌, length, map, ap, sym, arith, pos}
use Rattle.std.proofs.lemmas.List.{length-map, get_or-map}
use Rattle.lane_kernels.proofs.Appended.{read_number}
use Rattle.lane_kernels.proofs.Seconds.{number_more}
use Rattle.lane_kernels.proofs.plain.EachMapBlock.block.Goals as goal

pub loop-k-preserved : goal.loop-k-preserved
loop-k-preserved g c =
    let number = g.T.Number.number in
    let f = g.O.OfOne.means c.args.self.now.op in
    let a = c.args.a.now in
    let k = c.loop-k.k in
    let near : k < length a = omega (arith, c.requires.a_block.whole, c.requires.out_block, c.loop-k-test.true) in
    number_more number (map f (map number a)) k c.loop-k.out c.of.result (omega arith) (omega (arith, near, length-map (map number a) f, length-map a number)) c.loop-k.invariant
    (c.of.ensures ∙ ap f (read_number number a k c.index-a-k.result c.index-a-k.is near)
    ∙ sym (get_or-map f (map number a) k (pos 0) (pos 0) (omega (arith, near, length-map a number))))
