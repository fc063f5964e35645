-- Items beside one item at all places.
use Rattle.std.proofs.Common.{◌≡◌, ℕ, ◌≤◌, ◌∙◌, ap, List, length, map, take, replicate, ℤ}
use Rattle.std.specs.Simd.Lanes.{zip2}
use Rattle.std.proofs.lemmas.List.{length-map, take-replicate}
use Rattle.std.proofs.lemmas.Simd.{zip2_splat}
use Rattle.numbers.proofs.Mapped.{map_replicate}

-- an operation of items and as many that are one is an operation of each item and the one
pub zip2_fixed : {X : Type 0} (number : X → ℤ) (f : ℤ → ℤ → ℤ) (a : List X) (by : X) (m : ℕ) → length a ≤ m
    → zip2 f (map number a) (map number (take (length a) (replicate m by))) ≡ map (λ x. f x (number by)) (map number a)
zip2_fixed number f a by m le =
    ap (λ xs. zip2 f (map number a) (map number xs)) (take-replicate (length a) m by le)
    ∙ ap (zip2 f (map number a)) (map_replicate number (length a) by)
    ∙ zip2_splat f (map number a) (length a) (number by) (length-map a number)
