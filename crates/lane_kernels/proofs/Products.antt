-- Products of lanes in lanes of twice the width, and quotients brought back.
use Rattle.std.proofs.Common.{◌≡◌, ℕ, zero, suc, ◌+◌, ◌*◌, ◌%◌, ◌^◌, ◌<◌, ◌≤◌, ◌∙◌, ap, sym, refl, arith, List, [], ◌∷◌, map, length, replicate, ℤ, pos, negsuc, ◌*ℤ◌, of_z, to_z, SFits, Fits, T, w8, w16, w32, w64, unsigned_abs, take, subst}
use Rattle.std.specs.Int.{Width}
use Rattle.std.specs.List.{All}
use Rattle.std.specs.Simd.Lanes.{zip2, put_chunk, Each1}
use Rattle.std.proofs.lemmas.Int.{ints, to_z-of_z, wrapping_mul_is, int_wrap_fits, fits_signed_mul, unsigned_abs-mul}
use Rattle.std.proofs.lemmas.List.{length-map, take_all}
use Rattle.std.proofs.lemmas.List.Elements.{All-head, All-tail, All-nil, All-cons}
use Rattle.std.proofs.Math.Nat.{mul-le-mul_left, mul-le-mul_right}
use Rattle.std.specs.Int.Signed.{mag, non_neg}
use Rattle.std.proofs.lemmas.Simd.{put_chunk_whole, map-map, Each1-from_get_or}
use mir.Val.{bits, hbits}
use Rattle.stream_model.specs.Numbers.{IsItem, sat, rnd, least_of, greatest_of}
use Rattle.kind_model.specs.Kernels.{scaled}
use Rattle.stream_model.specs.declared.vocabulary.ItemType.{ItemType}
use Rattle.stream_model.specs.declared.vocabulary.ItemType.TheVariants.{Byte, Short, Int}
use Rattle.lane_kernels.specs.Blocks.{IsBlock, IsWithin, clamped}
use Rattle.numbers.proofs.Widths.{byte_below, short_near, short_fits, short_in_32, int_near, int_fits, int_in_64, cast_asks}

pub All-map : {X Y : Type 0} (R : X → Type 0) (Q : Y → Type 0) (f : X → Y) → ((x : X) → R x → Q (f x)) → (xs : List X) → All R xs → All Q (map f xs)
All-map R Q f each [] p = All-nil Q
All-map R Q f each (x ∷ xs) p = All-cons Q (f x) (map f xs) (each x (All-head R x xs p)) (All-map R Q f each xs (All-tail R x xs p))

pub Each1-map : {X Y : Type 0} (R : X → Type 0) (Q : Y → Type 0) (f : X → Y) → ((x : X) → R x → Q (f x)) → (xs : List X) → All R xs → Each1 Q (map f xs)
Each1-map R Q f each [] p = tt
Each1-map R Q f each (x ∷ xs) p = (each x (All-head R x xs p), Each1-map R Q f each xs (All-tail R x xs p))

-- a number brought to an end of the range is in the range
pub sat_is_item : (t : ItemType) (z : ℤ) → IsItem t (sat t z)
sat_is_item Byte z = record { above = grind (arith, ints); below = grind (arith, ints) }
sat_is_item Short z = record { above = grind (arith, ints); below = grind (arith, ints) }
sat_is_item Int z = record { above = grind (arith, ints); below = grind (arith, ints) }

-- each lane of `xs`, cast to width w, times the factor, where a product is at most m * k from 0
module _ {X : Type 0} (w : Width) (number : X → ℤ) (cast : X → ℕ) (R : X → Type 0) (is_cast : (x : X) → R x → cast x ≡ of_z w (number x))
    (m k : ℕ) (within : (x : X) → R x → unsigned_abs (number x) ≤ m) (factor : ℤ) (near : unsigned_abs factor ≤ k) (room : m * k < 2 ^ hbits w)
    (one : (x : X) → R x → SFits w (number x)) (fits : SFits w factor) where
  pub products : (n : ℕ) (xs : List X) → length xs ≡ n → All R xs
      → map (to_z w) (zip2 (λ a b. (a * b) % 2 ^ bits w) (map cast xs) (replicate n (of_z w factor))) ≡ map (λ x. number x *ℤ factor) xs
  products zero [] e p = refl
  products (suc n) [] e p = absurd (omega arith)
  products zero (x ∷ xs) e p = absurd (omega arith)
  products (suc n) (x ∷ xs) e p =
      let r = All-head R x xs p in
      let lane : to_z w ((cast x * of_z w factor) % 2 ^ bits w) ≡ number x *ℤ factor =
      ap (λ u. to_z w ((u * of_z w factor) % 2 ^ bits w)) (is_cast x r) ∙ wrapping_mul_is w (number x) factor (one x r) fits
      ∙ int_wrap_fits w (number x *ℤ factor) (fits_signed_mul w (number x) factor m k (within x r) near room) in
      λ i. lane i ∷ products n xs (omega arith) (All-tail R x xs p) i

  pub are_within : (xs : List X) → All R xs → All (IsWithin (m * k)) (map (λ x. number x *ℤ factor) xs)
  are_within = All-map R (IsWithin (m * k)) (λ x. number x *ℤ factor)
      (λ x r. record { near = omega (arith, unsigned_abs-mul (number x) factor, mul-le-mul_right (unsigned_abs factor) (within x r), mul-le-mul_left m near) })

-- the numbers are those of the lanes that are stored, where each comes back from its lane
pub restored : {Y : Type 0} (number : Y → ℤ) (back : ℤ → Y) (t : ItemType) → ((z : ℤ) → IsItem t z → number (back z) ≡ z)
    → (n : ℕ) (out : List Y) → length out ≡ n → (zs : List ℤ) → length zs ≡ n → All (IsItem t) zs → map number (put_chunk 0 out (map back zs)) ≡ zs
restored number back t same n out whole zs e p =
    ap (map number) (put_chunk_whole out (map back zs) (whole ∙ sym (length-map zs back ∙ e))) ∙ each zs p
  where
    each : (zs : List ℤ) → All (IsItem t) zs → map number (map back zs) ≡ zs
    each [] p = refl
    each (z ∷ zs) p = λ i. same z (All-head (IsItem t) z zs p) i ∷ each zs (All-tail (IsItem t) z zs p) i

abs-le-mag : (z : ℤ) → unsigned_abs z ≤ mag z + 1
abs-le-mag (pos n) = omega arith
abs-le-mag (negsuc n) = omega arith

-- items of the type, at most m from 0, whose lanes are cast to lanes of width w, which have room for a product with a short
pub record Widened {X : Type 0} (t : ItemType) (w : Width) (number : X → ℤ) (cast : X → ℕ) (m : ℕ) : Type 0 where
  pub is_cast : (x : X) → IsItem t (number x) → cast x ≡ of_z w (number x)
  pub within : (x : X) → IsItem t (number x) → unsigned_abs (number x) ≤ m
  pub one : (x : X) → IsItem t (number x) → SFits w (number x)
  pub wide : m * 2 ^ 15 < 2 ^ hbits w
  pub long : 2 ^ 15 ≤ 2 ^ hbits w

pub byte_wide : Widened Byte w32 pos (λ x. x) (2 ^ 15)
byte_wide = record {
  is_cast = λ x p. refl;
  within = λ x p. omega (arith, byte_below x p);
  one = λ x p. record { sfits = omega (arith, byte_below x p) };
  wide = omega arith;
  long = omega arith;
}

pub short_wide : Widened Short w32 (λ (z : ℤ). z) (λ z. of_z w32 (to_z w16 (of_z w16 z))) (2 ^ 15)
short_wide = record {
  is_cast = λ z p. ap (of_z w32) (to_z-of_z w16 z (short_fits z p));
  within = short_near;
  one = short_in_32;
  wide = omega arith;
  long = omega arith;
}

pub int_wide : Widened Int w64 (λ (z : ℤ). z) (λ z. of_z w64 (to_z w32 (of_z w32 z))) (2 ^ 31)
int_wide = record {
  is_cast = λ z p. ap (of_z w64) (to_z-of_z w32 z (int_fits z p));
  within = int_near;
  one = int_in_64;
  wide = omega arith;
  long = omega arith;
}

-- items, one by one
items_each : (Q : ℤ → Type 0) (t : ItemType) → ((z : ℤ) → IsItem t z → Q z) → (zs : List ℤ) → All (IsItem t) zs → Each1 Q zs
items_each Q t each zs p = Each1-from_get_or Q zs (pos 0) (λ i lt. each _ (p i (pos 0) lt))

-- a cast between signed lanes is defined where both widths hold the numbers
pub cast_signed_asks : (w w' : Width) (t : ItemType) → ((z : ℤ) → IsItem t z → SFits w z) → ((z : ℤ) → IsItem t z → SFits w' z)
    → (zs : List ℤ) → All (IsItem t) zs → Each1 (λ u. SFits w' (to_z w u)) (map (of_z w) zs)
cast_signed_asks w w' t from to zs p = cast_asks w w' zs (items_each (SFits w) t from zs p) (items_each (SFits w') t to zs p)

byte_number : (z : ℤ) → IsItem Byte z → SFits w32 z × T (non_neg z) × Fits w8 (unsigned_abs z)
byte_number (pos n) p = (record { sfits = omega (arith, byte_below n p) }, tt, record { fits = byte_below n p })
byte_number (negsuc n) p = absurd (omega (arith, ints, p.above))

-- a cast of a byte's number to bytes
pub cast_byte_asks : (zs : List ℤ) → All (IsItem Byte) zs → Each1 (λ u. T (non_neg (to_z w32 u)) × Fits w8 (unsigned_abs (to_z w32 u))) (map (of_z w32) zs)
cast_byte_asks = Each1-map (IsItem Byte) (λ u. T (non_neg (to_z w32 u)) × Fits w8 (unsigned_abs (to_z w32 u))) (of_z w32)
    (λ z p. subst (λ y. T (non_neg y) × Fits w8 (unsigned_abs y)) (sym (to_z-of_z w32 z (byte_number z p).0)) ((byte_number z p).1, (byte_number z p).2))

-- a block that is scaled: `casts` are the lanes of a, cast to width w, and f is the factor
module _ {X : Type 0} (n : ℕ) (t : ItemType) (w : Width) (number : X → ℤ) (cast : X → ℕ) (m : ℕ) (h : Widened t w number cast m)
    (factor f : ℤ) (short : SFits w16 factor) (is_factor : f ≡ factor)
    (casts : List ℕ) (a : List X) (is_casts : casts ≡ map cast (take n a)) (p : IsBlock n t number a) where
  near : unsigned_abs factor ≤ 2 ^ 15
  near = omega (arith, abs-le-mag factor, short.sfits)

  fits : SFits w factor
  fits = record { sfits = omega (arith, short.sfits, h.long) }

  abbrev input : List ℤ
  input = map (to_z w) (zip2 (λ a b. (a * b) % 2 ^ bits w) casts (replicate n (of_z w f)))

  is_products : input ≡ map (λ x. number x *ℤ factor) a
  is_products =
      let all : take n a ≡ a = take_all n a (omega (arith, p.whole)) in
      let lanes : casts ≡ map cast a = is_casts ∙ ap (map cast) all in
      (λ i. map (to_z w) (zip2 (λ a b. (a * b) % 2 ^ bits w) (lanes i) (replicate n (of_z w (is_factor i)))))
      ∙ products w number cast (λ x. IsItem t (number x)) h.is_cast m (2 ^ 15) h.within factor near h.wide h.one fits n a p.whole p.items

  pub products_whole : length input ≡ n
  products_whole = ap length is_products ∙ length-map a (λ x. number x *ℤ factor) ∙ p.whole

  pub products_small : All (IsWithin (m * 2 ^ 15)) input
  products_small = subst (All (IsWithin (m * 2 ^ 15))) (sym is_products) (are_within w number cast (λ x. IsItem t (number x)) h.is_cast m (2 ^ 15) h.within factor near h.wide h.one fits a p.items)

  module _ (s : ℕ) (zs : List ℤ) (made : zs ≡ map (λ z. clamped (least_of t) (greatest_of t) (rnd z s)) input) where
    pub numbers_scaled : zs ≡ map (scaled t factor s) (map number a)
    numbers_scaled =
        made ∙ ap (map (λ z. clamped (least_of t) (greatest_of t) (rnd z s))) is_products ∙ map-map (λ z. clamped (least_of t) (greatest_of t) (rnd z s)) (λ x. number x *ℤ factor) a
        ∙ sym (map-map (scaled t factor s) number a)

    pub scaled_whole : length zs ≡ n
    scaled_whole = ap length numbers_scaled ∙ length-map (map number a) (scaled t factor s) ∙ length-map a number ∙ p.whole

    pub scaled_items : All (IsItem t) zs
    scaled_items = subst (All (IsItem t)) (sym made) (All-map (λ z. IsWithin (m * 2 ^ 15) z) (IsItem t) (λ z. clamped (least_of t) (greatest_of t) (rnd z s)) (λ z r. sat_is_item t (rnd z s)) input products_small)

-- a number that was cast to narrower lanes and is read there
pub byte_back : (z : ℤ) → IsItem Byte z → pos (unsigned_abs (to_z w32 (of_z w32 z))) ≡ z
byte_back (pos n) p = ap (λ y. pos (unsigned_abs y)) (to_z-of_z w32 (pos n) (byte_number (pos n) p).0)
byte_back (negsuc n) p = absurd (omega (arith, ints, p.above))

pub signed_back : (w w' : Width) (t : ItemType) → ((z : ℤ) → IsItem t z → SFits w z) → ((z : ℤ) → IsItem t z → SFits w' z)
    → (z : ℤ) → IsItem t z → to_z w' (of_z w' (to_z w (of_z w z))) ≡ z
signed_back w w' t from to z p = ap (λ y. to_z w' (of_z w' y)) (to_z-of_z w z (from z p)) ∙ to_z-of_z w' z (to z p)
