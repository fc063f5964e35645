use Rattle.std.proofs.Common.{◌≡◌, ◌^◌, ap, sym, subst, ◌∙◌, map, arith, w16, w64}
use lib.Lanes.{Each1, put_chunk}
use mir.Val.{SFits, of_z, to_z}
use Rattle.std.proofs.lemmas.List.{map-id}
use Rattle.stream_model.specs.Numbers.{sat}
use Rattle.stream_model.specs.declared.vocabulary.ItemType.TheVariants.{Short}
use Rattle.lane_filters.proofs.Signed.{back, lanes_fit, near_again, nearer}
use Rattle.lane_filters.proofs.Capped.{sat_fits, short_sat}
use Rattle.lane_filters.proofs.filter_lane.I16ProductLane.store.Goals as goal

pub nearest_shorts-requires : goal.nearest_shorts-requires
nearest_shorts-requires c = near_again (2 ^ 61) (2 ^ 61) c.args.numbers (omega arith) (omega arith) c.requires.numbers

pub returns : goal.returns
returns c =
    let xs = c.args.numbers in
    let out = c.args.out.now in
    let caps = c.nearest_shorts.result in
    let is : caps ≡ map (sat Short) xs = c.nearest_shorts.ensures ∙ ap (map (sat Short)) (back w64 xs (lanes_fit xs (nearer (2 ^ 61) (2 ^ 62) xs (omega arith) c.requires.numbers))) in
    let fits = subst (Each1 (SFits w16)) (sym is) (sat_fits Short w16 short_sat xs) in
    rw (map-id out, map-id (put_chunk c.args.at out (map (to_z w16) (map (of_z w16) caps))))
    (ap (put_chunk c.args.at out) (back w16 caps fits ∙ is))
