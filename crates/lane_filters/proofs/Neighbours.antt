-- Differences along a list.
use Rattle.std.proofs.Common.{◌≡◌, ℕ, zero, suc, ◌+◌, ◌-◌, ◌<◌, ◌≤◌, List, [], ◌∷◌, ◌++◌, map, take, drop, set, get_or, length, refl, ap, sym, ◌∙◌, arith, ℤ, pos}
use lib.Lanes.{zip2, put_chunk}
use Rattle.std.specs.List.{range_with_len}
use Rattle.std.proofs.Math.Seq.{drop-cons}
use Rattle.std.proofs.lemmas.List.{length-map, take_rest, map-set, take_more_set}
use Rattle.std.proofs.lemmas.Simd.{take_more_put_chunk}
use Rattle.stream_model.specs.Lists.{listed}
use Rattle.lane_filters.specs.Words.{byte_difference, decoded}
use Rattle.lane_filters.proofs.Lists.{listed_split, listed_more}

pub at_pos : (x : List ℕ) (j : ℕ) → get_or (map pos x) j (pos 0) ≡ pos (get_or x j 0)
at_pos [] j = refl
at_pos (x ∷ xs) zero = refl
at_pos (x ∷ xs) (suc j) = at_pos xs j

pub map_put_chunk : {X Y : Type 0} (f : X → Y) (i : ℕ) (xs ys : List X) → map f (put_chunk i xs ys) ≡ put_chunk i (map f xs) (map f ys)
map_put_chunk f i [] ys = refl
map_put_chunk f zero (x ∷ xs) [] = refl
map_put_chunk f zero (x ∷ xs) (y ∷ ys) = ap (λ l. f y ∷ l) (map_put_chunk f zero xs ys)
map_put_chunk f (suc i) (x ∷ xs) ys = ap (λ l. f x ∷ l) (map_put_chunk f i xs ys)

decoded_suc : (m : ℕ) (before : ℤ) (x : List ℕ) (i : ℕ) → decoded m before (map pos x) (suc i) ≡ pos (byte_difference m (get_or x (suc i) 0) (get_or x i 0))
decoded_suc m before x i = rw (at_pos x (suc i), at_pos x i)

-- an item after the first
pub decoded_is : (m : ℕ) (before : ℤ) (x : List ℕ) (n i : ℕ) → n ≡ i + 1 → decoded m before (map pos x) n ≡ pos (byte_difference m (get_or x n 0) (get_or x i 0))
decoded_is m before x n i e =
    let s : n ≡ suc i = omega arith in
    ap (decoded m before (map pos x)) s ∙ decoded_suc m before x i ∙ ap (λ k. pos (byte_difference m (get_or x k 0) (get_or x i 0))) (sym s)

pub decoded_first : (m before : ℕ) (x : List ℕ) → decoded m (pos before) (map pos x) 0 ≡ pos (byte_difference m (get_or x 0 0) before)
decoded_first m before x = rw (at_pos x 0)

pairs : (m : ℕ) (before : ℤ) (x : List ℕ) (i k : ℕ) → i + 1 + k ≤ length x
    → map pos (zip2 (byte_difference m) (take k (drop (i + 1) x)) (take k (drop i x))) ≡ map (decoded m before (map pos x)) (range_with_len (i + 1) k)
pairs m before x i zero le = refl
pairs m before x i (suc k) le =
    let a : i < length x = omega arith in
    let b : i + 1 < length x = omega arith in
    let s : suc i ≡ i + 1 = omega arith in
    let t : suc (i + 1) ≡ i + 1 + 1 = omega arith in
    rw (drop-cons x (i + 1) 0 b, drop-cons x i 0 a)
    (ap (λ z. z ∷ map pos (zip2 (byte_difference m) (take k (drop (suc (i + 1)) x)) (take k (drop (suc i) x)))) (sym (decoded_is m before x (i + 1) i refl))
    ∙ ap (λ l. decoded m before (map pos x) (i + 1) ∷ l)
    (ap (λ j. map pos (zip2 (byte_difference m) (take k (drop j x)) (take k (drop (suc i) x)))) t
    ∙ ap (λ j. map pos (zip2 (byte_difference m) (take k (drop (i + 1 + 1) x)) (take k (drop j x)))) s
    ∙ pairs m before x (i + 1) k (omega arith)))

-- sixteen differences are written behind those that stand
pub differences_more : (m : ℕ) (before : ℤ) (x out ds : List ℕ) (at : ℕ)
    → ds ≡ zip2 (byte_difference m) (take 16 (take (length x - (at + 1)) (drop (at + 1) x))) (take 16 (take (length x - at) (drop at x)))
    → at + 17 ≤ length x → length x ≡ length out
    → take (at + 1) (map pos out) ≡ listed (at + 1) (decoded m before (map pos x))
    → take (at + 17) (map pos (put_chunk (at + 1) out ds)) ≡ listed (at + 17) (decoded m before (map pos x))
differences_more m before x out ds at e room same done =
    let f = decoded m before (map pos x) in
    let new : map pos ds ≡ map f (range_with_len (at + 1) 16) =
    ap (map pos) (e ∙ ap (λ l. zip2 (byte_difference m) (take 16 l) (take 16 (take (length x - at) (drop at x)))) (take_rest x (at + 1))
    ∙ ap (λ l. zip2 (byte_difference m) (take 16 (drop (at + 1) x)) (take 16 l)) (take_rest x at))
    ∙ pairs m before x at 16 (omega arith) in
    let end : at + 17 ≡ at + 1 + 16 = omega arith in
    ap (take (at + 17)) (map_put_chunk pos (at + 1) out ds ∙ ap (put_chunk (at + 1) (map pos out)) new)
    ∙ take_more_put_chunk (at + 1) (map pos out) (map f (range_with_len (at + 1) 16)) (at + 17) end (omega (arith, length-map out pos))
    ∙ ap (λ l. l ++ map f (range_with_len (at + 1) 16)) done
    ∙ sym (listed_split (at + 1) 16 f) ∙ ap (λ n. listed n f) (sym end)

-- one number is written behind those that stand
pub one_more : (f : ℕ → ℤ) (out : List ℕ) (n v : ℕ) → n < length out → pos v ≡ f n → take n (map pos out) ≡ listed n f → take (n + 1) (map pos (set out n v)) ≡ listed (n + 1) f
one_more f out n v lt e done =
    ap (take (n + 1)) (map-set pos out n v) ∙ take_more_set (map pos out) n (pos v) (omega (arith, length-map out pos))
    ∙ ap (λ l. l ++ pos v ∷ []) done ∙ ap (λ z. listed n f ++ z ∷ []) e ∙ sym (listed_more n f)
