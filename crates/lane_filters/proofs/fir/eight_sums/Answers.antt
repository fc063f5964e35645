use Rattle.std.proofs.Common.{◌≡◌, ◌*◌, ◌<◌, ◌≤◌, ◌^◌, refl, length, map, arith, w64, pos}
use mir.Val.{to_z}
use Rattle.std.specs.Int.RustNames.{unsigned_abs}
use Rattle.std.proofs.lemmas.Simd.{Each1-replicate}
use Rattle.lane_filters.proofs.Signed.{nearer}
use Rattle.lane_filters.proofs.Taps.{eight_more}
use Rattle.lane_filters.proofs.fir.eight_sums.Goals as goal

pub loop-j-init : goal.loop-j-init
loop-j-init g c = (refl, Each1-replicate (λ z. unsigned_abs z ≤ 0) 8 (pos 0) (omega arith))

pub added-sums-requires-clause-left : goal.added-sums-requires-clause-left
added-sums-requires-clause-left g c =
    let few : c.loop-j.j < 256 = omega arith in
    nearer (c.loop-j.j * 2 ^ 46) (2 ^ 60) (map (to_z w64) c.loop-j.sums) (omega arith) c.loop-j.invariant.1

pub loop-j-preserved : goal.loop-j-preserved
loop-j-preserved g c =
    eight_more g.T.Number.number c.args.h.now c.args.x.now c.args.at c.loop-j.j c.loop-j-test.true (omega arith) c.requires.room c.requires.taps_in_range
    (map (to_z w64) c.loop-j.sums) c.products.result c.added-sums.result c.loop-j.invariant.0 c.loop-j.invariant.1 c.products.ensures.value c.products.ensures.within
    c.added-sums.ensures

pub returns-clause-value : goal.returns-clause-value
returns-clause-value g c = let e : c.loop-j.j ≡ length c.args.h.now = omega arith in rw e at c.loop-j.invariant.0

pub returns-clause-within : goal.returns-clause-within
returns-clause-within g c =
    let few : c.loop-j.j ≤ 256 = omega arith in
    nearer (c.loop-j.j * 2 ^ 46) (2 ^ 60) (map (to_z w64) c.loop-j.sums) (omega arith) c.loop-j.invariant.1
