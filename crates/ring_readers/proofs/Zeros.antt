-- Items that are all 0.
use Rattle.std.proofs.Common.{◌≡◌, ℕ, ◌≤◌, ◌<◌, ℤ, pos, List, ◌++◌, length, map, take, drop, replicate, get_or, sym, ap, ◌∙◌, arith}
use Rattle.std.proofs.lemmas.List.{length-take-le, get_or-map, get_or-replicate, length-replicate, map-append, take-map, drop-map, take-append-drop}
use Rattle.std.proofs.Math.Seq.{take-append_seam, drop-append_seam}

-- each of them is
pub zero_each : {X : Type 0} (f : X → ℤ) (xs : List X) (n k : ℕ) (x : X) → x ≡ get_or xs k x → k < length xs → n ≡ length xs → map f xs ≡ replicate n (pos 0) → f x ≡ pos 0
zero_each f xs n k x is within long same =
    ap f is ∙ sym (get_or-map f xs k x (f x) within) ∙ ap (λ ys. get_or ys k (f x)) same ∙ get_or-replicate n k (pos 0) (f x) (omega (arith, within, long))

-- a list is zeros and others where its parts are
pub split_zeros : {X : Type 0} (f : X → ℤ) (items : List X) (n : ℕ) (start rest : List X) (others : List ℤ) → n ≤ length items → start ≡ take n items → rest ≡ drop n items
    → (map f items ≡ replicate n (pos 0) ++ others → (map f start ≡ replicate (length start) (pos 0)) × (map f rest ≡ others))
    × (map f start ≡ replicate (length start) (pos 0) → map f rest ≡ others → map f items ≡ replicate n (pos 0) ++ others)
split_zeros f items n start rest others within is_start is_rest =
    let zeros : List ℤ = replicate n (pos 0) in
    let size : length zeros ≡ n = length-replicate n (pos 0) in
    let long : length start ≡ n = ap length is_start ∙ length-take-le n items within in (
      λ same. (
        ap (map f) is_start ∙ sym (take-map f n items) ∙ ap (take n) same ∙ ap (λ k. take k (zeros ++ others)) (sym size) ∙ take-append_seam zeros others ∙ ap (λ k. replicate k (pos 0)) (sym long),
        ap (map f) is_rest ∙ sym (drop-map f n items) ∙ ap (drop n) same ∙ ap (λ k. drop k (zeros ++ others)) (sym size) ∙ drop-append_seam zeros others,
      ),
      λ first second.
          ap (map f) (sym (take-append-drop n items) ∙ (λ i. sym is_start i ++ sym is_rest i)) ∙ map-append f start rest ∙ (λ i. (first ∙ ap (λ k. replicate k (pos 0)) long) i ++ second i),
    )
