use Rattle.std.proofs.Common.{◌≡◌, ◌∙◌, rules, length, get_or, arith, pos, w16}
use mir.Val.{SFits, to_z, of_z}
use Rattle.std.proofs.lemmas.List.{length-set}
use Rattle.lane_filters.proofs.SplitTaps.{halves_again, halves_more}
use Rattle.lane_filters.proofs.halves.Halves.of.Goals as goal

pub loop-j-preserved : goal.loop-j-preserved
loop-j-preserved c =
    let j = c.loop-j.j in
    let tap = get_or c.args.h.now j (pos 0) in
    let fits : SFits w16 tap = search rules in
    let upper = c.halves_of-upper.result.0 in
    let lower = c.halves_of-upper.result.1 in (
      length-set c.loop-j.high j (to_z w16 (of_z w16 upper)) ∙ c.loop-j.invariant.0,
      length-set c.loop-j.low j (to_z w16 (of_z w16 lower)) ∙ c.loop-j.invariant.1,
      halves_more c.args.h.now c.loop-j.high c.loop-j.low j (to_z w16 (of_z w16 upper)) (to_z w16 (of_z w16 lower)) (omega (arith, c.loop-j.invariant.0)) (omega (arith, c.loop-j.invariant.1))
          c.loop-j.invariant.2 (halves_again tap upper lower fits c.halves_of-upper.ensures),
    )

pub returns : goal.returns
returns c =
    let all : c.loop-j.j ≡ length c.args.h.now = omega arith in
    (omega (arith, c.loop-j.invariant.0), omega (arith, c.loop-j.invariant.1), λ k lt. c.loop-j.invariant.2 k (omega (arith, all, lt)))
