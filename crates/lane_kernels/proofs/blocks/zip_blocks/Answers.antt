use Rattle.std.proofs.Common.{◌≡◌, ◌+◌, ◌-◌, ◌*◌, ◌∙◌, length, map, take, drop, ap, arith}
use Rattle.std.specs.Simd.Lanes.{zip2}
use Rattle.lane_kernels.proofs.Parts.{part_zip, length-zipped, stepped, ended, all_there, sooner}
use Rattle.lane_kernels.proofs.blocks.zip_blocks.Goals as goal

pub loop-turn-preserved : goal.loop-turn-preserved
loop-turn-preserved g c =
    let number = g.T.Number.number in
    let f = g.Z.ZipBlock.means in
    let a = c.args.a.now in
    let b = c.args.b.now in
    let at = c.loop-turn.turn * 16 in
    let long : length (zip2 f (map number a) (map number b)) ≡ length a = length-zipped number f a b c.requires.b_length in
    stepped number (zip2 f (map number a) (map number b)) at ((c.loop-turn.turn + 1) * 16) _ (at + 16 - at) c.loop-turn.out c.zip_steps.new.out
    (omega arith) (omega (arith, long)) (omega (arith, long)) c.loop-turn.invariant
    (c.zip_steps.ensures ∙ part_zip number f at (at + 16 - at) a b c.requires.b_length)

pub returns-then-a-gt0 : goal.returns-then-a-gt0
returns-then-a-gt0 g c =
    let number = g.T.Number.number in
    let f = g.Z.ZipBlock.means in
    let a = c.args.a.now in
    let b = c.args.b.now in
    let at = c.saturating_sub-at.result in
    let long : length (zip2 f (map number a) (map number b)) ≡ length a = length-zipped number f a b c.requires.b_length in
    ended number (zip2 f (map number a) (map number b)) at _ (length a - at) c.loop-turn.out c.zip_last.new.out
    (omega (arith, long, c.saturating_sub-at.ensures)) (omega arith) (omega (arith, long))
    (sooner number (zip2 f (map number a) (map number b)) at (c.loop-turn.turn * 16) c.loop-turn.out (omega (arith, c.saturating_sub-at.ensures)) c.loop-turn.invariant)
    (c.zip_last.ensures ∙ ap (λ k. zip2 f (map number (take (length a - at) (drop at a))) (map number (take (k - at) (drop at b)))) c.requires.b_length
    ∙ part_zip number f at (length a - at) a b c.requires.b_length)

pub returns-else-a-gt0 : goal.returns-else-a-gt0
returns-else-a-gt0 g c =
    let long = length-zipped g.T.Number.number g.Z.ZipBlock.means c.args.a.now c.args.b.now c.requires.b_length in
    all_there g.T.Number.number _ (c.loop-turn.turn * 16) c.loop-turn.out (omega arith) (omega (arith, long)) c.loop-turn.invariant
