-- Products of taps and items, lane by lane.
use Rattle.std.proofs.Common.{◌≡◌, ℕ, ◌*◌, ◌<◌, ◌≤◌, ◌^◌, List, map, w16, w32, w64, ℤ, pos, ◌*ℤ◌}
use lib.Lanes.{zip2, Each1, Each2}
use mir.Syntax.{Width, mul, cast, signed}
use mir.Val.{SFits, of_z, hbits}
use borrow.Table.Row.{s_int}
use borrow.Rule.Simd.Lanes.{act2, Asks2, act1, Asks1}
use Rattle.std.specs.Int.RustNames.{unsigned_abs}
use Rattle.std.proofs.lemmas.Simd.{Each1-weaker, Each1-zip2}
use Rattle.stream_model.specs.Numbers.{IsItem, AreItems}
use Rattle.stream_model.specs.declared.vocabulary.ItemType.TheVariants.{Short, Int}
use Rattle.numbers.proofs.Widths.{short_near, short_fits, short_in_64, int_near, int_fits, int_in_64, cast_asks}
use Rattle.lane_filters.specs.Words.{AreWithin}
use Rattle.lane_filters.proofs.Signed.{each, cast_is, mul_asks, mul_is, products_within, products_fit}

-- what is known of lanes of one type, at its own width and at wider ones
pub record Known (w v : Width) (most : ℕ) (xs : List ℤ) : Type 0 where
  pub own : Each1 (SFits w) xs
  pub wide : Each1 (SFits v) xs
  pub near : AreWithin most xs

pub shorts_known : (xs : List ℤ) → AreItems Short xs → Known w16 w64 (2 ^ 15) xs
shorts_known xs h =
    let e = each (IsItem Short) (pos 0) xs h in
    record {
      own = Each1-weaker (IsItem Short) (SFits w16) short_fits xs e;
      wide = Each1-weaker (IsItem Short) (SFits w64) short_in_64 xs e;
      near = Each1-weaker (IsItem Short) (λ z. unsigned_abs z ≤ 2 ^ 15) short_near xs e;
    }

pub ints_known : (xs : List ℤ) → AreItems Int xs → Known w32 w64 (2 ^ 31) xs
ints_known xs h =
    let e = each (IsItem Int) (pos 0) xs h in
    record {
      own = Each1-weaker (IsItem Int) (SFits w32) int_fits xs e;
      wide = Each1-weaker (IsItem Int) (SFits w64) int_in_64 xs e;
      near = Each1-weaker (IsItem Int) (λ z. unsigned_abs z ≤ 2 ^ 31) int_near xs e;
    }

pub known_cast : (w v : Width) (m : ℕ) (xs : List ℤ) → Known w v m xs → Each1 (Asks1 (cast signed signed v) (s_int w)) (map (of_z w) xs)
known_cast w v m xs k = cast_asks w v xs k.own k.wide

-- lanes that are cast to the width v and multiplied there
abbrev pub multiplied : Width → Width → Width → List ℤ → List ℤ → List ℕ
multiplied u w v hs xs =
    zip2 (act2 (mul signed) (s_int v) (s_int v) (s_int v)) (map (act1 (cast signed signed v) (s_int u) (s_int v)) (map (of_z u) hs))
    (map (act1 (cast signed signed v) (s_int w) (s_int v)) (map (of_z w) xs))

module _ (u w v : Width) (m n : ℕ) (hs xs : List ℤ) (h : Known u v m hs) (x : Known w v n xs) (le : m * n < 2 ^ hbits v) where
  pub product_asks : Each2 (Asks2 (mul signed) (s_int v) (s_int v)) (map (act1 (cast signed signed v) (s_int u) (s_int v)) (map (of_z u) hs)) (map (act1 (cast signed signed v) (s_int w) (s_int v)) (map (of_z w) xs))
  product_asks = rw (cast_is u v hs h.own, cast_is w v xs x.own) (mul_asks v hs xs h.wide x.wide (products_fit v m n le hs xs h.near x.near))

  pub product_is : multiplied u w v hs xs ≡ map (of_z v) (zip2 (λ a b. a *ℤ b) hs xs)
  product_is = rw (cast_is u v hs h.own, cast_is w v xs x.own) (mul_is v hs xs h.wide x.wide)

  pub product_within : AreWithin (m * n) (zip2 (λ a b. a *ℤ b) hs xs)
  product_within = products_within m n hs xs h.near x.near

  pub product_fits : Each1 (SFits v) (zip2 (λ a b. a *ℤ b) hs xs)
  product_fits = Each1-zip2 (λ a b. a *ℤ b) (SFits v) hs xs (products_fit v m n le hs xs h.near x.near)
