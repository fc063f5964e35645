use Rattle.std.proofs.Common.{◌≡◌, ◌+◌, ◌-◌, ◌∙◌, length, map, take, drop, ap, arith}
use Rattle.std.specs.Simd.Lanes.{zip2}
use Rattle.lane_kernels.proofs.Parts.{part_zip, length-zipped, stepped, ended, all_there, sooner}
use Rattle.lane_kernels.proofs.blocks.zip_steps.Goals as goal

pub blocks-2-preserved : goal.blocks-2-preserved
blocks-2-preserved g c =
    let number = g.T.Number.number in
    let f = g.Z.ZipBlock.means in
    let a = c.args.a.now in
    let b = c.args.b.now in
    let at = c.blocks-2.at in
    let end = at + c.LANES-lanes.result in
    let long : length (zip2 f (map number a) (map number b)) ≡ length a = length-zipped number f a b c.requires.b_length in
    record {
      within = omega arith;
      there = stepped number (zip2 f (map number a) (map number b)) at end (end - at) (end - at) c.blocks-2.out c.zip_one.new.out
          (omega arith) (omega (arith, long)) (omega (arith, long)) c.blocks-2.invariant.there (c.zip_one.ensures ∙ part_zip number f at (end - at) a b c.requires.b_length);
    }

pub returns-then-at-a : goal.returns-then-at-a
returns-then-at-a g c =
    let number = g.T.Number.number in
    let f = g.Z.ZipBlock.means in
    let a = c.args.a.now in
    let b = c.args.b.now in
    let from = c.min-from.result in
    let long : length (zip2 f (map number a) (map number b)) ≡ length a = length-zipped number f a b c.requires.b_length in
    ended number (zip2 f (map number a) (map number b)) from (length c.blocks-2.out - from) (length a - from) c.blocks-2.out c.zip_rest.new.out
    (omega (arith, long, c.min-from.ensures)) (omega arith) (omega (arith, long))
    (sooner number (zip2 f (map number a) (map number b)) from c.blocks-2.at c.blocks-2.out (omega (arith, c.min-from.ensures)) c.blocks-2.invariant.there)
    (c.zip_rest.ensures ∙ ap (λ k. zip2 f (map number (take (length a - from) (drop from a))) (map number (take (k - from) (drop from b)))) c.requires.b_length
    ∙ part_zip number f from (length a - from) a b c.requires.b_length)

pub returns-else-at-a : goal.returns-else-at-a
returns-else-at-a g c =
    let long = length-zipped g.T.Number.number g.Z.ZipBlock.means c.args.a.now c.args.b.now c.requires.b_length in
    all_there g.T.Number.number _ c.blocks-2.at c.blocks-2.out (omega arith) (omega (arith, long)) c.blocks-2.invariant.there
