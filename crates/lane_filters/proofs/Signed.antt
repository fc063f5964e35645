-- Operations on vectors of signed numbers, as lists of the numbers.
use Rattle.std.proofs.Common.{◌≡◌, ℕ, ◌+◌, ◌*◌, ◌<◌, ◌≤◌, ◌^◌, List, [], ◌∷◌, map, length, refl, ap, ◌∙◌, arith, w16, w32, w64, ℤ, ◌+ℤ◌, ◌*ℤ◌, All, true}
use lib.Lanes.{zip2, Each1, Each2, Steps, fold_l}
use mir.Syntax.{Width, w8, w128, add, mul, cast, signed}
use mir.Val.{SFits, to_z, of_z, hbits, eq_w}
use borrow.Table.Row.{s_int}
use borrow.Rule.Simd.Lanes.{act2, Asks2, act1}
use Rattle.std.specs.Int.RustNames.{unsigned_abs}
use Rattle.std.proofs.lemmas.Int.{ints, to_z-of_z, fits_signed_from_abs, unsigned_abs-mul}
use Rattle.std.proofs.lemmas.Simd.{Each1-from_get_or, Each1-weaker}
use Rattle.std.proofs.Math.Nat.{mul-le-mul}
use Rattle.stream_model.specs.Numbers.{total}
use Rattle.lane_filters.specs.Words.{AreWithin}

pub abs_add : (x y : ℤ) → unsigned_abs (x +ℤ y) ≤ unsigned_abs x + unsigned_abs y
abs_add x y = omega (arith, ints)

-- the widths of numbers near 0
pub fits_near : (z : ℤ) → unsigned_abs z ≤ 2 ^ 62 → SFits w64 z
fits_near z h = fits_signed_from_abs w64 z (omega arith)

pub lanes_fit : (xs : List ℤ) → AreWithin (2 ^ 62) xs → Each1 (SFits w64) xs
lanes_fit xs h = Each1-weaker (λ z. unsigned_abs z ≤ 2 ^ 62) (SFits w64) fits_near xs h

pub nearer : (m n : ℕ) (xs : List ℤ) → m ≤ n → AreWithin m xs → AreWithin n xs
nearer m n xs le h = Each1-weaker (λ z. unsigned_abs z ≤ m) (λ z. unsigned_abs z ≤ n) (λ z k. omega arith) xs h

-- items of a type, as facts of the lanes
pub each : {X : Type 0} (P : X → Type 0) (d : X) (xs : List X) → All P xs → Each1 P xs
each P d xs h = Each1-from_get_or P xs d (λ i lt. h i d lt)

-- the numbers that bits stand for
pub back : (w : Width) (xs : List ℤ) → Each1 (SFits w) xs → map (to_z w) (map (of_z w) xs) ≡ xs
back w [] h = refl
back w (x ∷ xs) h = let f = h.0 in rw (to_z-of_z w x f, back w xs h.1)

-- a cast to a width that each number fits
pub cast_is : (w v : Width) (xs : List ℤ) → Each1 (SFits w) xs → map (act1 (cast signed signed v) (s_int w) (s_int v)) (map (of_z w) xs) ≡ map (of_z v) xs
cast_is w v [] h = refl
cast_is w v (x ∷ xs) h = rw (to_z-of_z w x h.0, cast_is w v xs h.1)

same_width : (w : Width) → eq_w w w ≡ true
same_width w8 = refl
same_width w16 = refl
same_width w32 = refl
same_width w64 = refl
same_width w128 = refl

-- `strict_add`
pub add_asks : (w : Width) (xs ys : List ℤ) → Each1 (SFits w) xs → Each1 (SFits w) ys → Each2 (λ x y. SFits w (x +ℤ y)) xs ys
    → Each2 (Asks2 (add signed) (s_int w) (s_int w)) (map (of_z w) xs) (map (of_z w) ys)
add_asks w [] ys h k l = tt
add_asks w (x ∷ xs) [] h k l = tt
add_asks w (x ∷ xs) (y ∷ ys) h k l = (rw (to_z-of_z w x h.0, to_z-of_z w y k.0, same_width w) l.0, add_asks w xs ys h.1 k.1 l.1)

pub add_is : (w : Width) (xs ys : List ℤ) → Each1 (SFits w) xs → Each1 (SFits w) ys
    → zip2 (act2 (add signed) (s_int w) (s_int w) (s_int w)) (map (of_z w) xs) (map (of_z w) ys) ≡ map (of_z w) (zip2 (λ x y. x +ℤ y) xs ys)
add_is w [] ys h k = refl
add_is w (x ∷ xs) [] h k = refl
add_is w (x ∷ xs) (y ∷ ys) h k = rw (to_z-of_z w x h.0, to_z-of_z w y k.0, same_width w, add_is w xs ys h.1 k.1)

pub sums_within : (m n : ℕ) (xs ys : List ℤ) → AreWithin m xs → AreWithin n ys → AreWithin (m + n) (zip2 (λ x y. x +ℤ y) xs ys)
sums_within m n [] ys h k = tt
sums_within m n (x ∷ xs) [] h k = tt
sums_within m n (x ∷ xs) (y ∷ ys) h k = (omega (arith, abs_add x y, h.0, k.0), sums_within m n xs ys h.1 k.1)

pub sums_fit : (xs ys : List ℤ) → AreWithin (2 ^ 60) xs → AreWithin (2 ^ 60) ys → Each2 (λ x y. SFits w64 (x +ℤ y)) xs ys
sums_fit [] ys h k = tt
sums_fit (x ∷ xs) [] h k = tt
sums_fit (x ∷ xs) (y ∷ ys) h k = (fits_near (x +ℤ y) (omega (arith, abs_add x y, h.0, k.0)), sums_fit xs ys h.1 k.1)

-- `strict_mul`
pub mul_asks : (w : Width) (xs ys : List ℤ) → Each1 (SFits w) xs → Each1 (SFits w) ys → Each2 (λ x y. SFits w (x *ℤ y)) xs ys
    → Each2 (Asks2 (mul signed) (s_int w) (s_int w)) (map (of_z w) xs) (map (of_z w) ys)
mul_asks w [] ys h k l = tt
mul_asks w (x ∷ xs) [] h k l = tt
mul_asks w (x ∷ xs) (y ∷ ys) h k l = (rw (to_z-of_z w x h.0, to_z-of_z w y k.0, same_width w) l.0, mul_asks w xs ys h.1 k.1 l.1)

pub mul_is : (w : Width) (xs ys : List ℤ) → Each1 (SFits w) xs → Each1 (SFits w) ys
    → zip2 (act2 (mul signed) (s_int w) (s_int w) (s_int w)) (map (of_z w) xs) (map (of_z w) ys) ≡ map (of_z w) (zip2 (λ x y. x *ℤ y) xs ys)
mul_is w [] ys h k = refl
mul_is w (x ∷ xs) [] h k = refl
mul_is w (x ∷ xs) (y ∷ ys) h k = rw (to_z-of_z w x h.0, to_z-of_z w y k.0, same_width w, mul_is w xs ys h.1 k.1)

abs_mul : (m n : ℕ) (x y : ℤ) → unsigned_abs x ≤ m → unsigned_abs y ≤ n → unsigned_abs (x *ℤ y) ≤ m * n
abs_mul m n x y h k = rw (unsigned_abs-mul x y) (mul-le-mul h k)

pub products_within : (m n : ℕ) (xs ys : List ℤ) → AreWithin m xs → AreWithin n ys → AreWithin (m * n) (zip2 (λ x y. x *ℤ y) xs ys)
products_within m n [] ys h k = tt
products_within m n (x ∷ xs) [] h k = tt
products_within m n (x ∷ xs) (y ∷ ys) h k = (abs_mul m n x y h.0 k.0, products_within m n xs ys h.1 k.1)

pub products_fit : (w : Width) (m n : ℕ) → m * n < 2 ^ hbits w → (xs ys : List ℤ) → AreWithin m xs → AreWithin n ys → Each2 (λ x y. SFits w (x *ℤ y)) xs ys
products_fit w m n le [] ys h k = tt
products_fit w m n le (x ∷ xs) [] h k = tt
products_fit w m n le (x ∷ xs) (y ∷ ys) h k = (fits_signed_from_abs w (x *ℤ y) (omega (arith, abs_mul m n x y h.0 k.0)), products_fit w m n le xs ys h.1 k.1)

-- `strict_reduce_sum`
pub total_asks : (m : ℕ) (xs : List ℤ) (a : ℤ) → AreWithin m xs → unsigned_abs a + m * length xs ≤ 2 ^ 62
    → Steps (Asks2 (add signed) (s_int w64) (s_int w64)) (act2 (add signed) (s_int w64) (s_int w64) (s_int w64)) (of_z w64 a) (map (of_z w64) xs)
total_asks m [] a h k = tt
total_asks m (x ∷ xs) a h k =
    let f = fits_near a (omega arith) in
    let g = fits_near x (omega (arith, h.0)) in
    rw (to_z-of_z w64 a f, to_z-of_z w64 x g)
    (fits_near (a +ℤ x) (omega (arith, abs_add a x, h.0)), total_asks m xs (a +ℤ x) h.1 (omega (arith, abs_add a x, h.0)))

pub total_is : (m : ℕ) (xs : List ℤ) (a : ℤ) → AreWithin m xs → unsigned_abs a + m * length xs ≤ 2 ^ 62
    → to_z w64 (fold_l (act2 (add signed) (s_int w64) (s_int w64) (s_int w64)) (of_z w64 a) (map (of_z w64) xs)) ≡ a +ℤ total xs
total_is m [] a h k = to_z-of_z w64 a (fits_near a (omega arith)) ∙ omega (arith, ints)
total_is m (x ∷ xs) a h k =
    let f = fits_near a (omega arith) in
    let g = fits_near x (omega (arith, h.0)) in
    let e : of_z w64 (to_z w64 (of_z w64 a) +ℤ to_z w64 (of_z w64 x)) ≡ of_z w64 (a +ℤ x) = rw (to_z-of_z w64 a f, to_z-of_z w64 x g) in
    ap (λ s. to_z w64 (fold_l (act2 (add signed) (s_int w64) (s_int w64) (s_int w64)) s (map (of_z w64) xs))) e
    ∙ (total_is m xs (a +ℤ x) h.1 (omega (arith, abs_add a x, h.0)) ∙ omega (arith, ints))

pub total_near : (m : ℕ) (xs : List ℤ) → AreWithin m xs → unsigned_abs (total xs) ≤ m * length xs
total_near m [] h = omega arith
total_near m (x ∷ xs) h = omega (arith, abs_add x (total xs), h.0, total_near m xs h.1)

-- the same of numbers that were bits in between
pub near_again : (m n : ℕ) (xs : List ℤ) → m ≤ n → m ≤ 2 ^ 62 → AreWithin m xs → AreWithin n (map (to_z w64) (map (of_z w64) xs))
near_again m n xs le wide h = rw (back w64 xs (lanes_fit xs (nearer m (2 ^ 62) xs wide h))) (nearer m n xs le h)
