use Rattle.std.proofs.Common.{◌≡◌, ◌+◌, ◌-◌, ◌*◌, ◌/◌, ◌∙◌, length, map, take, drop, ap, subst, arith}
use Rattle.std.specs.Simd.Lanes.{zip2}
use Rattle.lane_kernels.proofs.Parts.{part_zip, length-zipped, stepped, ended, all_there, behind}
use Rattle.lane_kernels.proofs.joining.zip_into.Goals as goal

pub loop-turn-preserved : goal.loop-turn-preserved
loop-turn-preserved g c =
    let number = g.T.Number.number in
    let f = g.Z.ZipBlock.means in
    let a = c.args.out.now in
    let b = c.args.items.now in
    let at = c.loop-turn.turn * 16 in
    let n = at + 16 - at in
    let long : length (zip2 f (map number a) (map number b)) ≡ length a = length-zipped number f a b c.requires in
    record {
      made = stepped number (zip2 f (map number a) (map number b)) at ((c.loop-turn.turn + 1) * 16) _ n c.loop-turn.out c.zip_turn_into.new.out
          (omega arith) (omega (arith, long)) (omega (arith, long)) c.loop-turn.invariant.made
          (c.zip_turn_into.ensures
          ∙ ap (λ xs. zip2 f (map number (take n xs)) (map number (take n (drop at b)))) c.loop-turn.invariant.rest ∙ part_zip number f at n a b c.requires);
      rest = behind at ((c.loop-turn.turn + 1) * 16) n c.loop-turn.out a c.zip_turn_into.new.out (omega arith) (omega arith) (omega arith) c.loop-turn.invariant.rest;
    }

pub returns-then-at-out : goal.returns-then-at-out
returns-then-at-out g c =
    let number = g.T.Number.number in
    let f = g.Z.ZipBlock.means in
    let a = c.args.out.now in
    let b = c.args.items.now in
    let out = c.loop-turn.out in
    let at = length out / 16 * 16 in
    let n = length out - at in
    let t = zip2 f (map number a) (map number b) in
    let long : length t ≡ length a = length-zipped number f a b c.requires in
    let place : c.loop-turn.turn * 16 ≡ at = omega arith in
    let same : length b ≡ length out = omega arith in
    let rest : drop at out ≡ drop at a = subst (λ k. drop k out ≡ drop k a) place c.loop-turn.invariant.rest in
    ended number t at n n out c.zip_last_into.new.out (omega (arith, long)) (omega arith) (omega (arith, long))
    (subst (λ k. map number (take k out) ≡ take k t) place c.loop-turn.invariant.made)
    (c.zip_last_into.ensures ∙ (λ i. zip2 f (map number (take n (rest i))) (map number (take (same i - at) (drop at b)))) ∙ part_zip number f at n a b c.requires)

pub returns-else-at-out : goal.returns-else-at-out
returns-else-at-out g c =
    let long = length-zipped g.T.Number.number g.Z.ZipBlock.means c.args.out.now c.args.items.now c.requires in
    all_there g.T.Number.number _ (c.loop-turn.turn * 16) c.loop-turn.out (omega arith) (omega (arith, long)) c.loop-turn.invariant.made
