use Rattle.std.proofs.Common.{◌≡◌, ◌∙◌, ap, w16, w64}
use mir.Val.{to_z, of_z}
use Rattle.std.proofs.lemmas.Int.{to_z-of_z}
use Rattle.stream_model.specs.Numbers.{rnd}
use Rattle.lane_filters.proofs.SplitTaps.{halves_back}
use Rattle.lane_filters.proofs.Taps.{abs_short}
use Rattle.lane_filters.proofs.halves.halves_of.Goals as goal

pub returns : goal.returns
returns c =
    let z = c.args.tap in
    let t = c.from-tap.result in
    let q = c.rounded-high.result in
    let tap : to_z w64 (of_z w64 t) ≡ z = to_z-of_z w64 t (record { sfits = c.from-tap.type_inv }) ∙ c.from-tap.ensures ∙ to_z-of_z w16 z c.ranges.tap in
    let high : to_z w64 (of_z w64 q) ≡ q = to_z-of_z w64 q (record { sfits = c.rounded-high.type_inv }) in
    halves_back z t q (abs_short z c.ranges.tap) tap high (c.rounded-high.ensures ∙ ap (λ k. rnd k 8) tap)
