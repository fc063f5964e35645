-- Runs of items that are made and then appended.
use Rattle.std.proofs.Common.{◌≡◌, ℕ, ◌+◌, ◌-◌, ◌≤◌, ◌∙◌, ap, sym, arith, List, ◌++◌, length, map, take, drop, ℤ}
use Rattle.std.specs.List.{drop-map}
use Rattle.std.proofs.lemmas.List.{append_assoc, map-append, length-map, length-drop, take_all, take_rest, drop-drop}
use Rattle.lane_kernels.proofs.Parts.{take_two}

-- items are appended whose numbers are `more`
appended : {X : Type 0} (number : X → ℤ) (old here more : List ℤ) (made new turn : List X) → new ≡ made ++ turn → map number made ≡ old ++ here → map number turn ≡ more
    → map number new ≡ old ++ (here ++ more)
appended number old here more made new turn e before is =
    ap (map number) e ∙ map-append number made turn ∙ (λ i. before i ++ is i) ∙ append_assoc old here more

-- the next m of the numbers t
pub part_more : {X : Type 0} (number : X → ℤ) (t : List ℤ) (k m k' : ℕ) (old : List ℤ) (made new turn : List X) → new ≡ made ++ turn → map number made ≡ old ++ take k t
    → map number turn ≡ take m (drop k t) → k' ≡ k + m → map number new ≡ old ++ take k' t
part_more number t k m k' old made new turn e before is next =
    appended number old (take k t) (take m (drop k t)) made new turn e before is
    ∙ ap (λ xs. old ++ xs) (sym (ap (λ n. take n t) next ∙ take_two k m t))

-- all that are left of them
pub rest_more : {Y : Type 0} (number : Y → ℤ) (t : List ℤ) (k : ℕ) (old rest : List ℤ) (made new : List Y) → map number new ≡ map number made ++ rest
    → map number made ≡ old ++ take k t → rest ≡ drop k t → map number new ≡ old ++ t
rest_more number t k old rest made new e before is =
    e ∙ (λ i. before i ++ is i) ∙ append_assoc old (take k t) (drop k t)
    ∙ ap (λ xs. old ++ xs) ((λ i. take k t ++ sym (take_all (length t) (drop k t) (omega (arith, length-drop k t))) i) ∙ sym (take_two k (length t) t) ∙ take_all (k + length t) t (omega arith))

-- the last of the numbers t, where p has those from an earlier place on
pub last_part : {Y : Type 0} (number : Y → ℤ) (t : List ℤ) (from rest count : ℕ) (p : List Y) → length t ≡ count → from ≤ count → rest ≤ count - from → map number p ≡ drop from t
    → map number (take (length p - (length p - rest)) (drop (length p - rest) p)) ≡ drop (count - rest) t
last_part number t from rest count p whole within few is =
    let long : length p ≡ count - from = sym (length-map p number) ∙ ap length is ∙ length-drop from t ∙ ap (λ n. n - from) whole in
    let j = length p - rest in
    let place : from + j ≡ count - rest = omega arith in
    ap (map number) (take_rest p j) ∙ sym (drop-map number j p) ∙ ap (drop j) is ∙ drop-drop j from t ∙ ap (λ n. drop n t) place

-- the same of what is made of each item
pub last_rest : {X Y : Type 0} (number : X → ℤ) (number' : Y → ℤ) (f : ℤ → ℤ) (a : List X) (from rest : ℕ) (p : List Y) → from ≤ length a → rest ≤ length a - from
    → map number' p ≡ map f (map number (take (length a - from) (drop from a)))
    → map number' (take (length p - (length p - rest)) (drop (length p - rest) p)) ≡ map f (map number (drop (length a - rest) a))
last_rest number number' f a from rest p within few is =
    let t = map f (map number a) in
    let whole : length t ≡ length a = length-map (map number a) f ∙ length-map a number in
    let back : (n : ℕ) → map f (map number (drop n a)) ≡ drop n t = λ n. sym (drop-map f n (map number a) ∙ ap (map f) (drop-map number n a)) in
    last_part number' t from rest (length a) p whole within few (is ∙ ap (λ xs. map f (map number xs)) (take_rest a from) ∙ back from) ∙ sym (back (length a - rest))
