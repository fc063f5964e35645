use Rattle.std.proofs.Common.{◌≡◌, ◌^◌, ◌<◌, ◌≤◌, refl, arith, ap, ◌∙◌}
use Rattle.std.proofs.lemmas.List.{length-set}
use Rattle.std.proofs.lemmas.Nat.{one_shl}
use Rattle.bit_blocks.specs.Jumps.{stepped}
use Rattle.bit_blocks.proofs.Jumps.{makes-one, one-of-below, all-of-below}
use Rattle.bit_blocks.proofs.jump.step.Goals as goal

pub loop-place-preserved : goal.loop-place-preserved
loop-place-preserved c = (
  one-of-below (λ place. stepped c.args.taps.bits c.args.taps.mask (2 ^ place)) c.loop-place.columns _ c.loop-place.place c.step.result
      (let long = c.loop-place.invariant.1 in let there = c.loop-place-test.true in omega arith) refl
      (c.step.ensures ∙ ap (stepped c.args.taps.bits c.args.taps.mask) (one_shl c.loop-place.place 64 (omega arith)))
      c.loop-place.invariant.0,
  length-set c.loop-place.columns c.loop-place.place c.step.result ∙ c.loop-place.invariant.1,
)

pub returns : goal.returns
returns c =
    λ some.
    makes-one c.args.taps.bits c.args.taps.mask c.loop-place.place c.loop-place.columns some
    (let few = c.args.taps.few in let end = c.loop-place-test.false in omega arith)
    (all-of-below (λ place. stepped c.args.taps.bits c.args.taps.mask (2 ^ place)) c.loop-place.columns c.loop-place.place
    (let long = c.loop-place.invariant.1 in let end = c.loop-place-test.false in let most = c.loop-place.auto.place-end in omega arith)
    c.loop-place.invariant.0)
