-- Bits in bytes, the highest first.
use Rattle.std.proofs.Common.{◌≡◌, ℕ, zero, suc, ◌+◌, ◌-◌, ◌*◌, ◌/◌, ◌%◌, ◌<◌, ◌≤◌, ◌^◌, List, [], ◌∷◌, ◌++◌, map, take, drop, set, replicate, get_or, length, refl, ap, sym, ◌∙◌, arith, Bool, true, false, cond, eqb, w8, ℤ, pos, ◌+ℤ◌}
use lib.Lanes.{zip2, fold_l, sel_l, top, put_chunk}
use lib.Bits.{bit_and, and_mask}
use mir.Syntax as S
use mir.Syntax.{wrap_add, mask}
use borrow.Table.Row.{s_int}
use borrow.Rule.Simd.Lanes.{act2}
use borrow.Author.Tests.{eqb-true}
use Rattle.std.specs.List.{range_with_len, take-map}
use Rattle.std.proofs.Common.{shr-shr, pow_pos}
use Rattle.std.proofs.Math.Pow.{mod-mod-pow}
use Rattle.std.proofs.lemmas.Int.{ints}
use Rattle.std.proofs.lemmas.List.{get_or-drop, map-append, append_assoc, take-take, take_rest, length-take-le, take_more_set}
use Rattle.std.proofs.lemmas.Simd.{take_more_put_chunk}
use Rattle.std.proofs.Math.Nat.{mul-add-mod_self_left, mod-eq_of_lt}
use Rattle.std.proofs.lemmas.Nat.{pow-add, mod-pow-add, div-mul-add}
use Rattle.std.proofs.lemmas.Nat.Bits.{and_pow}
use Rattle.stream_model.specs.Lists.{sum_below, listed, below}
use Rattle.kind_model.specs.Kernels.{packed, unpacked}
use Rattle.stream_model.specs.Numbers.{residue, floor_div}
use Rattle.lane_filters.specs.Words.{first_bits, bit_of}
use Rattle.lane_filters.proofs.Lists.{sum_more, listed_split, range_split}
use Rattle.lane_filters.proofs.Neighbours.{at_pos}

sum_suc : (n : ℕ) (f : ℕ → ℤ) → sum_below (suc n) f ≡ sum_below n f +ℤ f n
sum_suc n f = let s : suc n ≡ n + 1 = omega arith in ap (λ k. sum_below k f) s ∙ sum_more n f

same_sum : (n : ℕ) (f g : ℕ → ℤ) → ((j : ℕ) → j < n → f j ≡ g j) → sum_below n f ≡ sum_below n g
same_sum zero f g h = refl
same_sum (suc n) f g h =
    let a = same_sum n f g (λ j lt. h j (omega arith)) in
    let b = h n (omega arith) in
    sum_suc n f ∙ ap (λ z. z +ℤ f n) a ∙ ap (λ z. sum_below n g +ℤ z) b ∙ sym (sum_suc n g)

twice : (n : ℕ) (f g : ℕ → ℕ) → ((j : ℕ) → j < n → g j ≡ 2 * f j) → sum_below n (λ j. pos (g j)) ≡ sum_below n (λ j. pos (f j)) +ℤ sum_below n (λ j. pos (f j))
twice zero f g h = refl
twice (suc n) f g h =
    let a = twice n f g (λ j lt. h j (omega arith)) in
    let b = h n (omega arith) in
    let s = sum_suc n (λ j. pos (f j)) in
    let t = sum_suc n (λ j. pos (g j)) in
    omega (arith, ints)

-- a number's bits, each at its weight
pub weighed : (y : List ℕ) (k : ℕ) → pos (first_bits y k) ≡ sum_below k (λ j. pos (get_or y j 0 % 2 * 2 ^ (k - 1 - j)))
weighed y zero = refl
weighed y (suc k) =
    let f : ℕ → ℕ = λ j. get_or y j 0 % 2 * 2 ^ (k - 1 - j) in
    let g : ℕ → ℕ = λ j. get_or y j 0 % 2 * 2 ^ (suc k - 1 - j) in
    let w = weighed y k in
    let t = twice k f g (λ j lt. let e : suc k - 1 - j ≡ 1 + (k - 1 - j) = omega arith in
    let p : 2 ^ (suc k - 1 - j) ≡ 2 * 2 ^ (k - 1 - j) = ap (λ n. 2 ^ n) e ∙ pow-add 2 1 (k - 1 - j) in
    ap (λ n. get_or y j 0 % 2 * n) p ∙ omega arith) in
    let s = sum_suc k (λ j. pos (g j)) in
    let z : suc k - 1 - k ≡ 0 = omega arith in
    let l : g k ≡ get_or y k 0 % 2 = ap (λ n. get_or y k 0 % 2 * 2 ^ n) z ∙ omega arith in
    omega (arith, ints)

pub packed_is : (k n : ℕ) (x : List ℕ) → pos (first_bits (drop (k * n) x) k) ≡ packed k (map pos x) n
packed_is k n x =
    weighed (drop (k * n) x) k
    ∙ same_sum k (λ j. pos (get_or (drop (k * n) x) j 0 % 2 * 2 ^ (k - 1 - j))) (λ j. pos (residue (get_or (map pos x) (n * k + j) (pos 0)) 2 * 2 ^ (k - 1 - j)))
    (λ j lt. let e : k * n + j ≡ n * k + j = omega arith in
    let r : get_or (drop (k * n) x) j 0 ≡ get_or x (n * k + j) 0 = get_or-drop (k * n) x j 0 ∙ ap (λ i. get_or x i 0) e in
    ap (λ b. pos (b % 2 * 2 ^ (k - 1 - j))) r ∙ ap (λ z. pos (residue z 2 * 2 ^ (k - 1 - j))) (sym (at_pos x (n * k + j))))

-- the byte that is packed from a part of the items
pub packed_from : (k n v : ℕ) (x : List ℕ) → v ≡ first_bits (take (length x - k * n) (drop (k * n) x)) k → pos v ≡ packed k (map pos x) n
packed_from k n v x e = ap pos (e ∙ ap (λ l. first_bits l k) (take_rest x (k * n))) ∙ packed_is k n x

-- the lowest bits are left out
pub shorter : (y : List ℕ) (k i : ℕ) → first_bits y (k + i) / 2 ^ i ≡ first_bits y k
shorter y k zero = let e : k + 0 ≡ k = omega arith in ap (λ n. first_bits y n / 1) e ∙ omega arith
shorter y k (suc i) =
    let e : k + suc i ≡ suc (k + i) = omega arith in
    let h : first_bits y (suc (k + i)) / 2 ≡ first_bits y (k + i) = omega arith in
    let f : suc i ≡ 1 + i = omega arith in
    ap (λ n. first_bits y n / 2 ^ suc i) e ∙ ap (λ n. first_bits y (suc (k + i)) / 2 ^ n) f ∙ sym (shr-shr (first_bits y (suc (k + i))) 1 i)
    ∙ ap (λ n. n / 2 ^ i) h ∙ shorter y k i

-- what a lane is
by_bit : (n w : ℕ) → n < 2 → cond (top 7 (cond (eqb n 1) 255 0)) w 0 ≡ n * w
by_bit zero w lt = omega arith
by_bit (suc zero) w lt = omega arith
by_bit (suc (suc n)) w lt = absurd (omega arith)

lane_bit : (a w : ℕ) → cond (top 7 (cond (eqb (bit_and a 1) 1) 255 0)) w 0 ≡ a % 2 * w
lane_bit a w = ap (λ n. cond (top 7 (cond (eqb n 1) 255 0)) w 0) (and_mask a 1) ∙ by_bit (a % 2) w (omega arith)

pub lanes_sum : (x : List ℕ) → 8 ≤ length x
    → fold_l (act2 wrap_add (s_int w8) (s_int w8) (s_int w8)) 0
    (sel_l (map (top 7) (zip2 (act2 (mask S.eq) (s_int w8) (s_int w8) (s_int w8)) (zip2 (act2 S.bit_and (s_int w8) (s_int w8) (s_int w8)) (take 8 x) (replicate 8 1)) (replicate 8 1)))
    (128 ∷ 64 ∷ 32 ∷ 16 ∷ 8 ∷ 4 ∷ 2 ∷ 1 ∷ []) (replicate 8 0))
    ≡ first_bits x 8
lanes_sum (a ∷ b ∷ c ∷ d ∷ e ∷ f ∷ g ∷ h ∷ x) le = rw (lane_bit a 128, lane_bit b 64, lane_bit c 32, lane_bit d 16, lane_bit e 8, lane_bit f 4, lane_bit g 2, lane_bit h 1) (omega arith)
lanes_sum _ le = absurd (omega arith)

zero_test : (b : Bool) (w : ℕ) → eqb w 0 ≡ b → 0 < w → ◌≡◌ {A = ℕ} (cond (top 7 (cond b 255 0)) 0 1) 1
zero_test true w e some = let z = eqb-true w 0 e in absurd (omega arith)
zero_test false w e some = refl

not_zero : (w : ℕ) → 0 < w → ◌≡◌ {A = ℕ} (cond (top 7 (cond (eqb w 0) 255 0)) 0 1) 1
not_zero w some = zero_test (eqb w 0) w refl some

rest : (n m : ℕ) → 0 < m → n % m < m
rest n m h = omega arith

up : (a m : ℕ) → 0 < m → a * m / m ≡ a
up a m h = let e : a * m ≡ a * m + 0 = omega arith in ap (λ n. n / m) e ∙ div-mul-add a m 0 h

by_place : (n w : ℕ) → n < 2 → 0 < w → cond (top 7 (cond (eqb (n * w) 0) 255 0)) 0 1 ≡ n
by_place zero w lt some = let e : 0 * w ≡ 0 = omega arith in ap (λ m. cond (top 7 (cond (eqb m 0) 255 0)) 0 1) e
by_place (suc zero) w lt some = let e : 1 * w ≡ w = omega arith in ap (λ m. cond (top 7 (cond (eqb m 0) 255 0)) 0 1) e ∙ not_zero w some
by_place (suc (suc n)) w lt some = absurd (omega arith)

-- the bits of a byte, highest first
high_bit : (a i : ℕ) → cond (top 7 (cond (eqb (bit_and a (2 ^ i)) 0) 255 0)) 0 1 ≡ a / 2 ^ i % 2
high_bit a i = ap (λ n. cond (top 7 (cond (eqb n 0) 255 0)) 0 1) (and_pow a i) ∙ by_place (a / 2 ^ i % 2) (2 ^ i) (omega arith) (pow_pos i)

abbrev pub high_bits : ℕ → List ℕ
high_bits a = map (λ j. a / 2 ^ (7 - j) % 2) (below 8)

abbrev pub spread_lanes : ℕ → List ℕ
spread_lanes a =
    sel_l (map (top 7) (zip2 (act2 (mask S.eq) (s_int w8) (s_int w8) (s_int w8)) (zip2 (act2 S.bit_and (s_int w8) (s_int w8) (s_int w8)) (replicate 8 a) (128 ∷ 64 ∷ 32 ∷ 16 ∷ 8 ∷ 4 ∷ 2 ∷ 1 ∷ [])) (replicate 8 0)))
    (replicate 8 0) (replicate 8 1)

spread_is : (a : ℕ) → spread_lanes a ≡ high_bits a
spread_is a = rw (high_bit a 7, high_bit a 6, high_bit a 5, high_bit a 4, high_bit a 3, high_bit a 2, high_bit a 1, high_bit a 0)

-- a byte that is shifted up has the bits further up
shifted_bit : (byte s i : ℕ) → s + i < 8 → byte * 2 ^ s % 2 ^ 8 / 2 ^ (s + i) % 2 ≡ byte / 2 ^ i % 2
shifted_bit byte s i lt =
    let a = s + i in
    let n = byte * 2 ^ s in
    let e : 8 ≡ (8 - a) + a = omega arith in
    let f : 8 - a ≡ (7 - a) + 1 = omega arith in
    let whole : n % 2 ^ 8 / 2 ^ a ≡ n / 2 ^ a % 2 ^ (8 - a) =
    ap (λ k. n % 2 ^ k / 2 ^ a) e ∙ ap (λ k. k / 2 ^ a) (mod-pow-add n (8 - a) a) ∙ div-mul-add (n / 2 ^ a % 2 ^ (8 - a)) (2 ^ a) (n % 2 ^ a) (rest n (2 ^ a) (pow_pos a)) in
    let low : n / 2 ^ a ≡ byte / 2 ^ i = sym (shr-shr n s i) ∙ ap (λ k. k / 2 ^ i) (up byte (2 ^ s) (pow_pos s)) in
    ap (λ k. k % 2) (whole ∙ ap (λ k. n / 2 ^ a % 2 ^ k) f) ∙ mod-mod-pow (n / 2 ^ a) (7 - a) 1 ∙ ap (λ k. k % 2) low

same_below : (a n : ℕ) (f g : ℕ → ℕ) → ((j : ℕ) → j < a + n → f j ≡ g j) → map f (range_with_len a n) ≡ map g (range_with_len a n)
same_below a zero f g h = refl
same_below a (suc n) f g h =
    let e = h a (omega arith) in
    ap (λ z. z ∷ map f (range_with_len (a + 1) n)) e ∙ ap (λ l. g a ∷ l) (same_below (a + 1) n f g (λ j lt. h j (omega arith)))

take_below : (a k n : ℕ) → k ≤ n → take k (range_with_len a n) ≡ range_with_len a k
take_below a zero n le = refl
take_below a (suc k) zero le = absurd (omega arith)
take_below a (suc k) (suc n) le = ap (λ l. a ∷ l) (take_below (a + 1) k n (omega arith))

pub spread_bits : (k byte : ℕ) → 1 ≤ k → k ≤ 8 → take k (spread_lanes (byte * 2 ^ (8 - k) % 256)) ≡ map (bit_of k byte) (below k)
spread_bits k byte least most =
    let a = byte * 2 ^ (8 - k) % 256 in
    ap (take k) (spread_is a) ∙ take-map (λ j. a / 2 ^ (7 - j) % 2) k (below 8) ∙ ap (map (λ j. a / 2 ^ (7 - j) % 2)) (take_below 0 k 8 most)
    ∙ same_below 0 k (λ j. a / 2 ^ (7 - j) % 2) (bit_of k byte)
    (λ j lt. let e : 7 - j ≡ (8 - k) + (k - 1 - j) = omega arith in
    ap (λ i. a / 2 ^ i % 2) e ∙ shifted_bit byte (8 - k) (k - 1 - j) (omega arith))

-- output k * n + j is bit j of item n
place_div : (k n j : ℕ) → j < k → (k * n + j) / k ≡ n
place_div k n j lt = let e : k * n + j ≡ n * k + j = omega arith in ap (λ m. m / k) e ∙ div-mul-add n k j lt

small : (j k : ℕ) → j < k → j % k ≡ j
small j k lt = mod-eq_of_lt lt

place_mod : (k n j : ℕ) → j < k → (k * n + j) % k ≡ j
place_mod k n j lt = mul-add-mod_self_left k n j ∙ small j k lt

unpacked_is : (k n j : ℕ) (x : List ℕ) → j < k → unpacked k (map pos x) (k * n + j) ≡ pos (bit_of k (get_or x n 0) j)
unpacked_is k n j x lt =
    ap (λ i. pos (residue (floor_div (get_or (map pos x) i (pos 0)) (2 ^ (k - 1 - (k * n + j) % k))) 2)) (place_div k n j lt)
    ∙ ap (λ i. pos (residue (floor_div (get_or (map pos x) n (pos 0)) (2 ^ (k - 1 - i))) 2)) (place_mod k n j lt)
    ∙ ap (λ z. pos (residue (floor_div z (2 ^ (k - 1 - j))) 2)) (at_pos x n)

shifted : (f : ℕ → ℤ) (g : ℕ → ℕ) (m a i : ℕ) → ((j : ℕ) → j < a + i → f (m + j) ≡ pos (g j)) → map f (range_with_len (m + a) i) ≡ map pos (map g (range_with_len a i))
shifted f g m a zero h = refl
shifted f g m a (suc i) h =
    let e : m + a + 1 ≡ m + (a + 1) = omega arith in
    let v = h a (omega arith) in
    ap (λ z. z ∷ map f (range_with_len (m + a + 1) i)) v
    ∙ ap (λ l. pos (g a) ∷ l) (ap (λ b. map f (range_with_len b i)) e ∙ shifted f g m (a + 1) i (λ j lt. h j (omega arith)))

from_start : (m : ℕ) → m ≡ m + 0
from_start m = omega arith

-- the bits of one more item stand behind those of the items before
pub unpacked_more : (k n : ℕ) (x out new : List ℕ)
    → take (k * n + k) new ≡ take (k * n) out ++ map (bit_of k (get_or x n 0)) (below k)
    → take (k * n) (map pos out) ≡ listed (k * n) (unpacked k (map pos x))
    → take (k * (n + 1)) (map pos new) ≡ listed (k * (n + 1)) (unpacked k (map pos x))
unpacked_more k n x out new e done =
    let f = unpacked k (map pos x) in
    let end : k * (n + 1) ≡ k * n + k = omega arith in
    let bits : map f (range_with_len (k * n) k) ≡ map pos (map (bit_of k (get_or x n 0)) (below k)) =
    ap (λ b. map f (range_with_len b k)) (from_start (k * n)) ∙ shifted f (bit_of k (get_or x n 0)) (k * n) 0 k (λ j lt. unpacked_is k n j x (omega arith)) in
    take-map pos (k * (n + 1)) new ∙ ap (λ m. map pos (take m new)) end ∙ ap (map pos) e
    ∙ map-append pos (take (k * n) out) (map (bit_of k (get_or x n 0)) (below k))
    ∙ ap (λ l. l ++ map pos (map (bit_of k (get_or x n 0)) (below k))) (sym (take-map pos (k * n) out) ∙ done)
    ∙ ap (λ l. listed (k * n) f ++ l) (sym bits) ∙ sym (listed_split (k * n) k f) ∙ ap (λ m. listed m f) (sym end)

take_beyond : (xs ys : List ℕ) (n k : ℕ) → length xs ≡ n → take (n + k) (xs ++ ys) ≡ xs ++ take k ys
take_beyond [] ys n k e = let s : n + k ≡ k = omega arith in ap (λ m. take m ys) s
take_beyond (x ∷ xs) ys zero k e = absurd (omega arith)
take_beyond (x ∷ xs) ys (suc n) k e = let s : suc n + k ≡ suc (n + k) = omega arith in ap (λ m. take m (x ∷ xs ++ ys)) s ∙ ap (λ l. x ∷ l) (take_beyond xs ys n k (omega arith))

-- a store of eight lanes, of which the first k are read
pub stored_bits : (k at : ℕ) (out lanes : List ℕ) → k ≤ 8 → length lanes ≡ 8 → at + 8 ≤ length out → take (at + k) (put_chunk at out lanes) ≡ take at out ++ take k lanes
stored_bits k at out lanes le long room =
    let end : at + 8 ≡ at + length lanes = omega arith in
    sym (take-take (at + k) (at + 8) (put_chunk at out lanes) (omega arith)) ∙ ap (take (at + k)) (take_more_put_chunk at out lanes (at + 8) end room)
    ∙ take_beyond (take at out) lanes at k (length-take-le at out (omega arith))

-- one more bit
pub bit_more : (f : ℕ → ℕ) (out old : List ℕ) (at j v : ℕ) → at + j < length out → v ≡ f j → take (at + j) out ≡ take at old ++ map f (below j)
    → take (at + (j + 1)) (set out (at + j) v) ≡ take at old ++ map f (below (j + 1))
bit_more f out old at j v lt e done =
    let s : at + (j + 1) ≡ at + j + 1 = omega arith in
    let z : 0 + j ≡ j = omega arith in
    let more : map f (below (j + 1)) ≡ map f (below j) ++ f j ∷ [] =
    ap (map f) (range_split 0 j 1) ∙ map-append f (below j) (range_with_len (0 + j) 1) ∙ ap (λ i. map f (below j) ++ f i ∷ []) z in
    ap (λ n. take n (set out (at + j) v)) s ∙ take_more_set out (at + j) v lt ∙ ap (λ l. l ++ v ∷ []) done ∙ ap (λ b. (take at old ++ map f (below j)) ++ b ∷ []) e
    ∙ append_assoc (take at old) (map f (below j)) (f j ∷ []) ∙ ap (λ l. take at old ++ l) (sym more)
