-- A function of each item, as the definitions of the kernels list it.
use Rattle.std.proofs.Common.{◌≡◌, ℕ, ◌<◌, ◌∙◌, sym, arith, List, length, map, ℤ, pos}
use Rattle.std.specs.Simd.Lanes.{zip2}
use Rattle.std.proofs.lemmas.List.{length-map, ext_get_or, get_or-map}
use Rattle.std.proofs.lemmas.List.FromFn.{length-map-range_with_len, get_or-map-range_with_len}
use Rattle.std.proofs.lemmas.Simd.{length-zip2, get_or-zip2}
use Rattle.stream_model.specs.Lists.{item, listed}

pub mapped_is_listed : (f : ℤ → ℤ) (xs : List ℤ) → map f xs ≡ listed (length xs) (λ n. f (item xs n))
mapped_is_listed f xs =
    let g = λ (n : ℕ). f (item xs n) in
    ext_get_or (pos 0) _ _ (length-map xs f ∙ sym (length-map-range_with_len g 0 (length xs))) (λ i lt.
    let within : i < length xs = omega (arith, length-map xs f) in
    get_or-map f xs i (pos 0) (pos 0) within ∙ sym (get_or-map-range_with_len g 0 (length xs) i i (pos 0) within (omega arith)))

pub zipped_is_listed : {X : Type 0} (number : X → ℤ) (f : ℤ → ℤ → ℤ) (a b : List X) → length a ≡ length b
    → zip2 f (map number a) (map number b) ≡ listed (length (map number a)) (λ n. f (item (map number a) n) (item (map number b) n))
zipped_is_listed number f a b e =
    let xs = map number a in
    let ys = map number b in
    let g = λ (n : ℕ). f (item xs n) (item ys n) in
    let same : length xs ≡ length ys = length-map a number ∙ e ∙ sym (length-map b number) in
    let long : length (zip2 f xs ys) ≡ length xs = length-zip2 f xs ys same in
    ext_get_or (pos 0) _ _ (long ∙ sym (length-map-range_with_len g 0 (length xs))) (λ i lt.
    let within : i < length xs = omega arith in
    let within' : i < length ys = omega arith in
    get_or-zip2 f xs ys i (pos 0) (pos 0) (pos 0) within within' ∙ sym (get_or-map-range_with_len g 0 (length xs) i i (pos 0) within (omega arith)))
