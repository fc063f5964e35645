-- Sixteen outputs, of which every other one stands in one vector and those between in another.
use Rattle.std.proofs.Common.{◌≡◌, ℕ, ◌+◌, ◌-◌, ◌<◌, ◌≤◌, ◌^◌, List, [], ◌∷◌, ◌++◌, map, take, length, refl, ap, sym, subst, ◌∙◌, arith, ℤ, w32, w64}
use lib.Lanes.{pick_l, put_chunk}
use mir.Syntax.{Width}
use mir.Val.{SFits, of_z, to_z}
use Rattle.std.proofs.lemmas.Int.{to_z-of_z}
use Rattle.std.proofs.lemmas.Simd.{take_more_put_chunk}
use Rattle.std.specs.List.{range_with_len}
use Rattle.stream_model.specs.Lists.{listed}
use Rattle.stream_model.specs.Numbers.{AreItems, sat, rnd}
use Rattle.stream_model.specs.declared.vocabulary.ItemType.{ItemType}
use Rattle.stream_model.specs.declared.vocabulary.ItemType.TheVariants.{Short}
use Rattle.lane_filters.specs.Words.{AreWithin, every_other, output, spread_sums, tap_sum, weight}
use Rattle.lane_filters.proofs.Signed.{back, lanes_fit, nearer}
use Rattle.lane_filters.proofs.Lists.{listed_split}
use Rattle.lane_filters.proofs.RoundedInts.{ints_fit}
use Rattle.lane_filters.proofs.NarrowSums.{lanes_fit_32, spread_near}

abbrev pub woven : Width → List ℤ → List ℤ → List ℤ
woven w es os = map (to_z w) (pick_l 0 (map (of_z w) es ++ map (of_z w) os) (0 ∷ 8 ∷ 1 ∷ 9 ∷ 2 ∷ 10 ∷ 3 ∷ 11 ∷ 4 ∷ 12 ∷ 5 ∷ 13 ∷ 6 ∷ 14 ∷ 7 ∷ 15 ∷ []))

-- what lanes of 32 bits hold once the sums are rounded and capped
module _ (h x : List ℤ) (light : weight h < 2 ^ 16) (range : AreItems Short x) (s : ℕ) where
  pub lanes_are : (at : ℕ) (sums rounds caps : List ℤ) → sums ≡ spread_sums h x (length h) at
      → rounds ≡ map (λ z. rnd z s) (map (to_z w32) (map (of_z w32) sums)) → AreWithin (2 ^ 31 - 1) rounds
      → caps ≡ map (sat Short) (map (to_z w32) (map (of_z w32) rounds)) → caps ≡ map (output Short h x s) (every_other at)
  lanes_are at sums rounds caps e r near c =
      let sums_back = back w32 sums (lanes_fit_32 sums (subst (AreWithin (2 ^ 31 - 2 ^ 15)) (sym e) (spread_near h x light range (length h) at))) in
      let rounds_back = back w32 rounds (ints_fit rounds near) in
      c ∙ ap (map (sat Short)) (rounds_back ∙ r ∙ ap (map (λ z. rnd z s)) (sums_back ∙ e))

-- and lanes of 64 bits
pub wide_lanes_are : (t : ItemType) (h x : List ℤ) (s at : ℕ) (sums rounds caps : List ℤ) → sums ≡ spread_sums h x (length h) at → AreWithin (2 ^ 60) sums
    → rounds ≡ map (λ z. rnd z s) (map (to_z w64) (map (of_z w64) sums)) → AreWithin (2 ^ 61) rounds
    → caps ≡ map (sat t) (map (to_z w64) (map (of_z w64) rounds)) → caps ≡ map (output t h x s) (every_other at)
wide_lanes_are t h x s at sums rounds caps e sums_near r near c =
    let sums_back = back w64 sums (lanes_fit sums (nearer (2 ^ 60) (2 ^ 62) sums (omega arith) sums_near)) in
    let rounds_back = back w64 rounds (lanes_fit rounds (nearer (2 ^ 61) (2 ^ 62) rounds (omega arith) near)) in
    c ∙ ap (map (sat t)) (rounds_back ∙ r ∙ ap (map (λ z. rnd z s)) (sums_back ∙ e))

module _ (t : ItemType) (w : Width) (fits : (z : ℤ) → SFits w (sat t z)) (h x : List ℤ) (s : ℕ) where
  lane : (n m : ℕ) → n ≡ m → to_z w (of_z w (output t h x s n)) ≡ output t h x s m
  lane n m e = to_z-of_z w (output t h x s n) (fits (rnd (tap_sum h x (length h) n) s)) ∙ ap (output t h x s) e

  woven_are : (at : ℕ) → woven w (map (output t h x s) (every_other at)) (map (output t h x s) (every_other (at + 1))) ≡ map (output t h x s) (range_with_len at 16)
  woven_are at =
      let l0 = lane at (at) (omega arith) in
      let l1 = lane (at + 1) (at + 1) (omega arith) in
      let l2 = lane (at + 2) (at + 1 + 1) (omega arith) in
      let l3 = lane (at + 1 + 2) (at + 1 + 1 + 1) (omega arith) in
      let l4 = lane (at + 4) (at + 1 + 1 + 1 + 1) (omega arith) in
      let l5 = lane (at + 1 + 4) (at + 1 + 1 + 1 + 1 + 1) (omega arith) in
      let l6 = lane (at + 6) (at + 1 + 1 + 1 + 1 + 1 + 1) (omega arith) in
      let l7 = lane (at + 1 + 6) (at + 1 + 1 + 1 + 1 + 1 + 1 + 1) (omega arith) in
      let l8 = lane (at + 8) (at + 1 + 1 + 1 + 1 + 1 + 1 + 1 + 1) (omega arith) in
      let l9 = lane (at + 1 + 8) (at + 1 + 1 + 1 + 1 + 1 + 1 + 1 + 1 + 1) (omega arith) in
      let l10 = lane (at + 10) (at + 1 + 1 + 1 + 1 + 1 + 1 + 1 + 1 + 1 + 1) (omega arith) in
      let l11 = lane (at + 1 + 10) (at + 1 + 1 + 1 + 1 + 1 + 1 + 1 + 1 + 1 + 1 + 1) (omega arith) in
      let l12 = lane (at + 12) (at + 1 + 1 + 1 + 1 + 1 + 1 + 1 + 1 + 1 + 1 + 1 + 1) (omega arith) in
      let l13 = lane (at + 1 + 12) (at + 1 + 1 + 1 + 1 + 1 + 1 + 1 + 1 + 1 + 1 + 1 + 1 + 1) (omega arith) in
      let l14 = lane (at + 14) (at + 1 + 1 + 1 + 1 + 1 + 1 + 1 + 1 + 1 + 1 + 1 + 1 + 1 + 1) (omega arith) in
      let l15 = lane (at + 1 + 14) (at + 1 + 1 + 1 + 1 + 1 + 1 + 1 + 1 + 1 + 1 + 1 + 1 + 1 + 1 + 1) (omega arith) in
      λ i. l0 i ∷ l1 i ∷ l2 i ∷ l3 i ∷ l4 i ∷ l5 i ∷ l6 i ∷ l7 i ∷ l8 i ∷ l9 i ∷ l10 i ∷ l11 i ∷ l12 i ∷ l13 i ∷ l14 i ∷ l15 i ∷ []

  pub sixteen_more : (at : ℕ) (es os out : List ℤ) → es ≡ map (output t h x s) (every_other at) → os ≡ map (output t h x s) (every_other (at + 1))
      → at + 16 ≤ length out → take at out ≡ listed at (output t h x s) → take (at + 16) (put_chunk at out (woven w es os)) ≡ listed (at + 16) (output t h x s)
  sixteen_more at es os out e o room done =
      let f = output t h x s in
      ap (λ ys. take (at + 16) (put_chunk at out ys)) ((λ i. woven w (e i) (o i)) ∙ woven_are at)
      ∙ take_more_put_chunk at out (map f (range_with_len at 16)) (at + 16) refl room
      ∙ ap (λ l. l ++ map f (range_with_len at 16)) done
      ∙ sym (listed_split at 16 f)
