use Rattle.std.proofs.Common.{◌≡◌, ◌+◌, ◌*◌, ◌-◌, ◌<◌, ◌∙◌, ap, sym, map, take, length, arith, refl, pos}
use lib.Lanes.{put_chunk}
use Rattle.std.proofs.lemmas.List.{length-set}
use Rattle.stream_model.specs.Lists.{listed}
use Rattle.lane_filters.specs.Words.{decoded}
use Rattle.lane_filters.proofs.Neighbours.{decoded_first, decoded_is, differences_more, one_more}
use Rattle.lane_filters.proofs.differences.diff_decode.Goals as goal

pub loop-block-init : goal.loop-block-init
loop-block-init c =
    let some : 0 < length c.args.out.now = omega arith in
    one_more (decoded c.args.m (pos c.args.before) (map pos c.args.x.now)) c.args.out.now 0 c.difference.result some
    (ap pos c.difference.ensures ∙ sym (decoded_first c.args.m c.args.before c.args.x.now)) refl

pub loop-block-preserved : goal.loop-block-preserved
loop-block-preserved c =
    let at = 16 * c.loop-block.block in
    let x = c.args.x.now in
    let f = decoded c.args.m (pos c.args.before) (map pos x) in
    let same : length x ≡ length c.loop-block.out = omega (arith, c.loop-block.auto.out, length-set c.args.out.now 0 c.difference.result) in
    let end : 16 * (c.loop-block.block + 1) + 1 ≡ at + 17 = omega arith in
    let zs = map pos (put_chunk (at + 1) c.loop-block.out c.sixteen_differences-differences.result) in
    ap (λ n. take n zs) end
    ∙ differences_more c.args.m (pos c.args.before) x c.loop-block.out c.sixteen_differences-differences.result at c.sixteen_differences-differences.ensures (omega arith) same c.loop-block.invariant
    ∙ ap (λ n. listed n f) (sym end)

pub loop-n-preserved : goal.loop-n-preserved
loop-n-preserved c =
    let n = c.loop-n.n in
    let x = c.args.x.now in
    let back : n ≡ (n - 1) + 1 = omega arith in
    let room : n < length c.loop-n.out = omega (arith, c.loop-n.auto.out, c.loop-block.auto.out, length-set c.args.out.now 0 c.difference.result) in
    one_more (decoded c.args.m (pos c.args.before) (map pos x)) c.loop-n.out n c.difference-in-loop-n.result room
    (ap pos c.difference-in-loop-n.ensures ∙ sym (decoded_is c.args.m (pos c.args.before) x n (n - 1) back)) c.loop-n.invariant
