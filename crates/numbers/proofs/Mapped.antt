-- A function of each element of parts and of copies.
use Rattle.std.proofs.Common.{◌≡◌, ℕ, zero, suc, ◌-◌, ◌∙◌, ap, sym, refl, List, ◌∷◌, map, take, drop, replicate, slice_range}
use Rattle.std.specs.List.{take-map, drop-map}

-- a function of each element of a part is the part of the function of each
pub map_part : {X Y : Type 0} (f : X → Y) (at n : ℕ) (xs : List X) → map f (take n (drop at xs)) ≡ take n (drop at (map f xs))
map_part f at n xs = sym (ap (take n) (drop-map f at xs) ∙ take-map f n (drop at xs))

pub map_slice_range : {X Y : Type 0} (f : X → Y) (xs : List X) (i j : ℕ) → map f (slice_range xs i j) ≡ slice_range (map f xs) i j
map_slice_range f xs i j = map_part f i (j - i) xs

pub map_replicate : {X Y : Type 0} (f : X → Y) (n : ℕ) (x : X) → map f (replicate n x) ≡ replicate n (f x)
map_replicate f zero x = refl
map_replicate f (suc n) x = ap (λ ys. f x ∷ ys) (map_replicate f n x)
