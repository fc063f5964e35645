-- The turns of the loops over blocks of eight.
use Rattle.std.proofs.Common.{◌≡◌, ℕ, ◌+◌, ◌-◌, ◌*◌, ◌<◌, ◌≤◌, ◌^◌, List, ◌++◌, map, take, drop, length, refl, ap, sym, subst, ◌∙◌, arith, ℤ, ◌+ℤ◌, ◌*ℤ◌, w16, w64}
use lib.Lanes.{zip2, put_chunk}
use mir.Val.{to_z, of_z}
use Rattle.std.specs.List.{range_with_len}
use Rattle.std.proofs.lemmas.List.Elements.{All-take, All-drop}
use Rattle.std.proofs.lemmas.List.{length-map, take_rest, length-take-le, take-append-drop, take-append-le}
use Rattle.std.proofs.Math.Seq.{take-length}
use Rattle.std.proofs.lemmas.List.FromFn.{length-map-range_with_len}
use Rattle.std.proofs.lemmas.Simd.{take_more_put_chunk, length-zip2}
use Rattle.stream_model.specs.Lists.{sum_below, listed}
use Rattle.stream_model.specs.Numbers.{IsItem, AreItems, total, sat, rnd}
use Rattle.stream_model.specs.declared.vocabulary.ItemType.{ItemType}
use Rattle.stream_model.specs.declared.vocabulary.ItemType.TheVariants.{Short}
use Rattle.numbers.proofs.Mapped.{map_part}
use Rattle.lane_filters.specs.Words.{AreWithin, tap_sums, tap_product, output}
use Rattle.lane_filters.proofs.Signed.{back, lanes_fit, nearer, sums_within}
use Rattle.lane_filters.proofs.Products.{shorts_known}
use Rattle.lane_filters.proofs.Lists.{listed_split, sum_split, total_sums, part_products, zip_number}

-- eight outputs are written behind those that stand
pub outputs_more : (t : ItemType) (h x : List ℤ) (s at : ℕ) (ys zs sums rounds : List ℤ)
    → sums ≡ tap_sums h x (length h) at → AreWithin (2 ^ 60) sums
    → rounds ≡ map (λ z. rnd z s) (map (to_z w64) (map (of_z w64) sums)) → AreWithin (2 ^ 61) rounds
    → zs ≡ put_chunk at ys (map (sat t) (map (to_z w64) (map (of_z w64) rounds)))
    → at + 8 ≤ length ys → take at ys ≡ listed at (output t h x s)
    → take (at + 8) zs ≡ listed (at + 8) (output t h x s)
outputs_more t h x s at ys zs sums rounds e near r within w room done =
    let b = back w64 sums (lanes_fit sums (nearer (2 ^ 60) (2 ^ 62) sums (omega arith) near)) in
    let c = back w64 rounds (lanes_fit rounds (nearer (2 ^ 61) (2 ^ 62) rounds (omega arith) within)) in
    let new : map (sat t) (map (to_z w64) (map (of_z w64) rounds)) ≡ map (output t h x s) (range_with_len at 8) =
    ap (map (sat t)) (c ∙ r ∙ ap (map (λ z. rnd z s)) (b ∙ e)) in
    ap (take (at + 8)) (w ∙ ap (put_chunk at ys) new)
    ∙ take_more_put_chunk at ys (map (output t h x s) (range_with_len at 8)) (at + 8) refl room
    ∙ ap (λ zs'. zs' ++ map (output t h x s) (range_with_len at 8)) done
    ∙ sym (listed_split at 8 (output t h x s))

-- fewer outputs stand, too
pub fewer : (f : ℕ → ℤ) (m n : ℕ) (ys : List ℤ) → m ≤ n → n ≤ length ys → take n ys ≡ listed n f → take m ys ≡ listed m f
fewer f m n ys le room e =
    let part : m ≤ length (take n ys) = omega (arith, length-take-le n ys room) in
    let sum : n ≡ m + (n - m) = omega arith in
    let long : length (listed m f) ≡ m = length-map-range_with_len f 0 m in
    ap (take m) (sym (take-append-drop n ys)) ∙ take-append-le m (take n ys) (drop n ys) part
    ∙ ap (take m) (e ∙ ap (λ k. listed k f) sum ∙ listed_split m (n - m) f)
    ∙ take-append-le m (listed m f) (map f (range_with_len m (n - m))) (omega (arith, long))
    ∙ ap (λ k. take k (listed m f)) (sym long) ∙ take-length (listed m f)

-- all outputs stand
pub all_listed : (f : ℕ → ℤ) (n : ℕ) (ys : List ℤ) → n ≡ length ys → take n ys ≡ listed n f → ys ≡ listed (length ys) f
all_listed f n ys e done = sym (take-length ys) ∙ ap (λ k. take k ys) (sym e) ∙ done ∙ ap (λ k. listed k f) e

part_known : (h : List ℤ) (i : ℕ) → AreItems Short h → AreItems Short (take 8 (drop i h))
part_known h i range = All-take (IsItem Short) 8 (drop i h) (All-drop (IsItem Short) i h range)

-- the taps of a load are in range
pub taps_in_range : (h : List ℤ) (i : ℕ) → AreItems Short h → AreItems Short (map (to_z w16) (map (of_z w16) (take 8 (drop i h))))
taps_in_range h i range = let k = part_known h i range in rw (back w16 (take 8 (drop i h)) (shorts_known (take 8 (drop i h)) k).own) k

module _ {X : Type 0} (number : X → ℤ) (h : List ℤ) (xs : List X) (i b : ℕ) (few : b < 32) (in_h : i + 8 ≤ length h) (in_x : i + 8 ≤ length xs) (range : AreItems Short h) where
  taps : map (to_z w16) (map (of_z w16) (take 8 (drop i h))) ≡ take 8 (drop i h)
  taps = back w16 (take 8 (drop i h)) (shorts_known (take 8 (drop i h)) (part_known h i range)).own

  part : map number (take 8 (drop i xs)) ≡ take 8 (drop i (map number xs))
  part = map_part number i 8 xs

  -- eight more products are added to the sums
  pub dots_more : (sums prods res : List ℤ) → total sums ≡ sum_below i (tap_product h (map number xs)) → AreWithin (b * 2 ^ 46) sums → length sums ≡ 8
      → prods ≡ zip2 (λ a b. a *ℤ number b) (map (to_z w16) (map (of_z w16) (take 8 (drop i h)))) (take 8 (take (length xs - i) (drop i xs)))
      → AreWithin (2 ^ 46) prods
      → res ≡ zip2 (λ a b. a +ℤ b) sums (map (to_z w64) (map (of_z w64) prods))
      → (total (map (to_z w64) (map (of_z w64) res)) ≡ sum_below (i + 8) (tap_product h (map number xs)))
      × AreWithin ((b + 1) * 2 ^ 46) (map (to_z w64) (map (of_z w64) res)) × (length (map (to_z w64) (map (of_z w64) res)) ≡ 8)
  dots_more sums prods res s near long p within r =
      let x = map number xs in
      let f = tap_product h x in
      let wide = lanes_fit prods (nearer (2 ^ 46) (2 ^ 62) prods (omega arith) within) in
      let ps : prods ≡ map f (range_with_len i 8) =
      p ∙ ap (λ ts. zip2 (λ a b. a *ℤ number b) ts (take 8 (take (length xs - i) (drop i xs)))) taps
      ∙ ap (λ ys. zip2 (λ a b. a *ℤ number b) (take 8 (drop i h)) (take 8 ys)) (take_rest xs i)
      ∙ zip_number number (take 8 (drop i h)) (take 8 (drop i xs)) ∙ ap (zip2 (λ a b. a *ℤ b) (take 8 (drop i h))) part
      ∙ part_products h x i 8 in_h (omega (arith, length-map xs number)) in
      let sum : res ≡ zip2 (λ a b. a +ℤ b) sums prods = r ∙ ap (zip2 (λ a b. a +ℤ b) sums) (back w64 prods wide) in
      let eight : length prods ≡ 8 = ap length ps in
      let both : AreWithin (b * 2 ^ 46 + 2 ^ 46) res = subst (AreWithin (b * 2 ^ 46 + 2 ^ 46)) (sym sum) (sums_within (b * 2 ^ 46) (2 ^ 46) sums prods near within) in
      let fits = lanes_fit res (nearer (b * 2 ^ 46 + 2 ^ 46) (2 ^ 62) res (omega arith) both) in
      let same = back w64 res fits in (
        ap total (same ∙ sum) ∙ total_sums sums prods (long ∙ sym eight) ∙ ap (λ z. z +ℤ total prods) s ∙ ap (λ ys. sum_below i f +ℤ total ys) ps ∙ sym (sum_split i 8 f),
        subst (AreWithin ((b + 1) * 2 ^ 46)) (sym same) (nearer (b * 2 ^ 46 + 2 ^ 46) ((b + 1) * 2 ^ 46) res (omega arith) both),
        ap length (same ∙ sum) ∙ length-zip2 (λ a b. a +ℤ b) sums prods (long ∙ sym eight) ∙ long,
      )
