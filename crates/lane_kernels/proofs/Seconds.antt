-- Every second of some items.
use Rattle.std.proofs.Common.{◌≡◌, ℕ, ◌+◌, ◌*◌, ◌<◌, ◌≤◌, ◌∙◌, ap, sym, arith, List, [], ◌∷◌, ◌++◌, length, map, take, drop, set, get_or, ℤ, pos}
use Rattle.std.proofs.lemmas.List.{map-append, get_or-map, ext_get_or, length-take-le, length-drop, take_all, take_more, take_more_set}
use Rattle.std.proofs.lemmas.List.FromFn.{length-map-range_with_len, get_or-map-range_with_len}
use Rattle.std.proofs.lemmas.Simd.{map-map, get_or-chunk}
use Rattle.stream_model.specs.Lists.{item, below, listed}
use Rattle.lane_kernels.specs.Streams.{deinterleaved}
use Rattle.lane_kernels.proofs.Appended.{step_within}
use Rattle.lane_kernels.proofs.Parts.{take_two}

-- functions of the index that agree below n
same_below : {X : Type 0} (n : ℕ) (d : X) (f g : ℕ → X) → ((k : ℕ) → k < n → f k ≡ g k) → map f (below n) ≡ map g (below n)
same_below n d f g same =
    ext_get_or d _ _ (length-map-range_with_len f 0 n ∙ sym (length-map-range_with_len g 0 n))
    (λ k h.
    let near : k < n = omega (arith, h, length-map-range_with_len f 0 n) in
    get_or-map-range_with_len f 0 n k k d near (omega arith) ∙ same k near ∙ sym (get_or-map-range_with_len g 0 n k k d near (omega arith)))

-- elements that are read at these places
pub read_seconds : {X : Type 0} (number : X → ℤ) (d : X) (p port : ℕ) (a : List X) → port ≡ p → p < 2 → length a ≡ 32
    → map number (map (λ k. get_or a (k * 2 + p) d) (below 16)) ≡ deinterleaved 16 2 port (map number a)
read_seconds number d p port a is small long =
    let f = λ (k : ℕ). get_or a (k * 2 + p) d in
    map-map number f (below 16)
    ∙ same_below 16 (pos 0) (λ k. number (f k)) (λ k. item (map number a) (k * 2 + p)) (λ k h. sym (get_or-map number a (k * 2 + p) d (pos 0) (omega arith)))
    ∙ ap (λ q. deinterleaved 16 2 q (map number a)) (sym is)

-- two turns are what they were read from
pub joined_turns : {X : Type 0} (a : List X) → length a ≡ 32 → take 16 a ++ take 16 (drop 16 a) ≡ a
joined_turns a long = sym (take_two 16 16 a) ∙ take_all 32 a (omega arith)

-- one number more of t is written
pub number_more : {X : Type 0} (number : X → ℤ) (t : List ℤ) (k : ℕ) (out : List X) (v : X) → k < length out → k < length t → map number (take k out) ≡ take k t → number v ≡ item t k
    → map number (take (k + 1) (set out k v)) ≡ take (k + 1) t
number_more number t k out v within near before is =
    ap (map number) (take_more_set out k v within) ∙ map-append number (take k out) (v ∷ []) ∙ (λ i. before i ++ is i ∷ []) ∙ sym (take_more t k (pos 0) near)

-- each of some items, by index, within a part of them
pub deinterleaved-part : (xs : List ℤ) (count at n a m step port : ℕ) → a ≡ at * step → n * step ≤ m → at + n ≤ count → port < step
    → deinterleaved n step port (take m (drop a xs)) ≡ take n (drop at (deinterleaved count step port xs))
deinterleaved-part xs count at n a m step port begins there within small =
    let f = λ (k : ℕ). item xs (k * step + port) in
    let g = λ (k : ℕ). item (take m (drop a xs)) (k * step + port) in
    let long : length (listed count f) ≡ count = length-map-range_with_len f 0 count in
    ext_get_or (pos 0) _ _ (length-map-range_with_len g 0 n ∙ sym (length-take-le n (drop at (listed count f)) (omega (arith, long, length-drop at (listed count f)))))
    (λ k h.
    let near : k < n = omega (arith, h, length-map-range_with_len g 0 n) in
    let spot : a + (k * step + port) ≡ (at + k) * step + port = grind (arith, begins) in
    get_or-map-range_with_len g 0 n k k (pos 0) near (omega arith) ∙ get_or-chunk a m xs (k * step + port) (pos 0) (step_within k n step port m near small there) ∙ ap (item xs) spot
    ∙ sym (get_or-chunk at n (listed count f) k (pos 0) near ∙ get_or-map-range_with_len f 0 count (at + k) (at + k) (pos 0) (omega arith) (omega arith)))

-- every second of every m-th is every one of twice as many
twice : (n m p q port : ℕ) (xs : List ℤ) → q < 2 → port ≡ q * m + p → deinterleaved n 2 q (deinterleaved (n * 2) m p xs) ≡ deinterleaved n (m * 2) port xs
twice n m p q port xs small is =
    same_below n (pos 0) (λ k. item (deinterleaved (n * 2) m p xs) (k * 2 + q)) (λ k. item xs (k * (m * 2) + port))
    (λ k h.
    let spot : (k * 2 + q) * m + p ≡ k * (m * 2) + port = grind (arith, is) in
    get_or-map-range_with_len (λ (j : ℕ). item xs (j * m + p)) 0 (n * 2) (k * 2 + q) (k * 2 + q) (pos 0) (omega arith) (omega arith) ∙ ap (item xs) spot)

-- the same of two parts
pub twice_parts : (n m p q port k l : ℕ) (xs first second : List ℤ) → q < 2 → p < m → port ≡ q * m + p → n * m ≤ k → n * m ≤ l
    → first ≡ deinterleaved n m p (take k xs) → second ≡ deinterleaved n m p (take l (drop (n * m) xs)) → deinterleaved n 2 q (first ++ second) ≡ deinterleaved n (m * 2) port xs
twice_parts n m p q port k l xs first second small within is room room' before behind =
    let t = deinterleaved (n * 2) m p xs in
    let long : length t ≡ n * 2 = length-map-range_with_len (λ (j : ℕ). item xs (j * m + p)) 0 (n * 2) in
    ap (deinterleaved n 2 q)
    ((λ i. (before ∙ deinterleaved-part xs (n * 2) 0 n 0 k m p (omega arith) room (omega arith) within) i
    ++ (behind ∙ deinterleaved-part xs (n * 2) n n (n * m) l m p (omega arith) room' (omega arith) within) i)
    ∙ sym (take_two n n t) ∙ take_all (n + n) t (omega (arith, long)))
    ∙ twice n m p q port xs small is
