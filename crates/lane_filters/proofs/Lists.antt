-- Sums and lists over a range of numbers.
use Rattle.std.proofs.Common.{◌≡◌, ℕ, zero, suc, ◌+◌, ◌*◌, ◌<◌, ◌≤◌, List, [], ◌∷◌, ◌++◌, map, take, drop, get_or, length, refl, ap, ◌∙◌, arith, ℤ, pos, ◌+ℤ◌, ◌*ℤ◌, replicate}
use lib.Lanes.{zip2}
use Rattle.std.specs.Int.RustNames.{unsigned_abs}
use Rattle.std.specs.List.{range_with_len}
use Rattle.std.proofs.Math.Seq.{drop-cons}
use Rattle.std.proofs.lemmas.Int.{ints}
use Rattle.std.proofs.lemmas.List.{map-append}
use Rattle.stream_model.specs.Lists.{sum_below, listed}
use Rattle.stream_model.specs.Numbers.{total}
use Rattle.stream_model.proofs.Maps.{map-agree}
use Rattle.lane_filters.proofs.Signed.{abs_add}

pub map_same : {X Y : Type 0} (f g : X → Y) → ((x : X) → f x ≡ g x) → (xs : List X) → map f xs ≡ map g xs
map_same f g e xs = map-agree (λ x. Unit {0}) f g xs (λ k d lt. tt) (λ x h. e x)

pub range_split : (a m k : ℕ) → range_with_len a (m + k) ≡ range_with_len a m ++ range_with_len (a + m) k
range_split a zero k =
    let e : 0 + k ≡ k = omega arith in
    let s : a ≡ a + 0 = omega arith in
    ap (range_with_len a) e ∙ ap (λ b. range_with_len b k) s
range_split a (suc m) k =
    let e : suc m + k ≡ suc (m + k) = omega arith in
    let s : (a + 1) + m ≡ a + suc m = omega arith in
    ap (range_with_len a) e ∙ ap (λ ns. a ∷ ns) (range_split (a + 1) m k ∙ ap (λ b. range_with_len (a + 1) m ++ range_with_len b k) s)

pub total_append : (xs ys : List ℤ) → total (xs ++ ys) ≡ total xs +ℤ total ys
total_append [] ys = omega (arith, ints)
total_append (x ∷ xs) ys = let e = total_append xs ys in omega (arith, ints)

pub total_sums : (xs ys : List ℤ) → length xs ≡ length ys → total (zip2 (λ x y. x +ℤ y) xs ys) ≡ total xs +ℤ total ys
total_sums [] [] e = refl
total_sums [] (y ∷ ys) e = absurd (omega arith)
total_sums (x ∷ xs) [] e = absurd (omega arith)
total_sums (x ∷ xs) (y ∷ ys) e = let s = total_sums xs ys (omega arith) in omega (arith, ints)

from_zero : (m : ℕ) → 0 + m ≡ m
from_zero m = omega arith

pub listed_split : (m k : ℕ) (f : ℕ → ℤ) → listed (m + k) f ≡ listed m f ++ map f (range_with_len m k)
listed_split m k f = ap (map f) (range_split 0 m k ∙ ap (λ b. range_with_len 0 m ++ range_with_len b k) (from_zero m)) ∙ map-append f (range_with_len 0 m) (range_with_len m k)

pub sum_split : (m k : ℕ) (f : ℕ → ℤ) → sum_below (m + k) f ≡ sum_below m f +ℤ total (map f (range_with_len m k))
sum_split m k f = ap total (listed_split m k f) ∙ total_append (listed m f) (map f (range_with_len m k))

pub listed_more : (n : ℕ) (f : ℕ → ℤ) → listed (n + 1) f ≡ listed n f ++ f n ∷ []
listed_more n f = listed_split n 1 f

pub sum_more : (n : ℕ) (f : ℕ → ℤ) → sum_below (n + 1) f ≡ sum_below n f +ℤ f n
sum_more n f = sum_split n 1 f ∙ omega (arith, ints)

pub sum_near : (m n : ℕ) (f : ℕ → ℤ) → ((j : ℕ) → j < n → unsigned_abs (f j) ≤ m) → unsigned_abs (sum_below n f) ≤ n * m
sum_near m zero f h = omega arith
sum_near m (suc n) f h =
    let s : suc n ≡ n + 1 = omega arith in
    let e : sum_below (suc n) f ≡ sum_below n f +ℤ f n = ap (λ k. sum_below k f) s ∙ sum_more n f in
    let r = sum_near m n f (λ j lt. h j (omega arith)) in
    let l = h n (omega arith) in
    rw e (omega (arith, abs_add (sum_below n f) (f n)))

-- the products of parts of two lists
pub part_products : (hs xs : List ℤ) (i k : ℕ) → i + k ≤ length hs → i + k ≤ length xs
    → zip2 (λ a b. a *ℤ b) (take k (drop i hs)) (take k (drop i xs)) ≡ map (λ j. get_or hs j (pos 0) *ℤ get_or xs j (pos 0)) (range_with_len i k)
part_products hs xs i zero h x = refl
part_products hs xs i (suc k) h x =
    let lh : i < length hs = omega arith in
    let lx : i < length xs = omega arith in
    let e : suc i ≡ i + 1 = omega arith in
    rw (drop-cons hs i (pos 0) lh, drop-cons xs i (pos 0) lx)
    (ap (λ ns. (get_or hs i (pos 0) *ℤ get_or xs i (pos 0)) ∷ ns) (ap (λ m. zip2 (λ a b. a *ℤ b) (take k (drop m hs)) (take k (drop m xs))) e ∙ part_products hs xs (i + 1) k (omega arith) (omega arith)))

-- the items from i + c on, under the numbers from i on
pub part_items : (h : ℤ) (xs : List ℤ) (i c k : ℕ) → i + c + k ≤ length xs
    → zip2 (λ a b. a *ℤ b) (replicate k h) (take k (drop (i + c) xs)) ≡ map (λ n. h *ℤ get_or xs (n + c) (pos 0)) (range_with_len i k)
part_items h xs i c zero le = refl
part_items h xs i c (suc k) le =
    let lx : i + c < length xs = omega arith in
    let e : suc (i + c) ≡ (i + 1) + c = omega arith in
    rw (drop-cons xs (i + c) (pos 0) lx)
    (ap (λ ns. (h *ℤ get_or xs (i + c) (pos 0)) ∷ ns) (ap (λ m. zip2 (λ a b. a *ℤ b) (replicate k h) (take k (drop m xs))) e ∙ part_items h xs (i + 1) c k (omega arith)))

-- a lane's number, before or after the product
pub zip_number : {X : Type 0} (number : X → ℤ) (hs : List ℤ) (xs : List X) → zip2 (λ a b. a *ℤ number b) hs xs ≡ zip2 (λ a b. a *ℤ b) hs (map number xs)
zip_number number [] xs = refl
zip_number number (h ∷ hs) [] = refl
zip_number number (h ∷ hs) (x ∷ xs) = ap (λ ns. (h *ℤ number x) ∷ ns) (zip_number number hs xs)
