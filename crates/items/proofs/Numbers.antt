-- Numbers of a vector and of its parts.
use Rattle.std.proofs.Common.{◌≡◌, ℕ, ◌∙◌, ap, List, ◌++◌, map, replicate, slice_range, ℤ}
use Rattle.std.proofs.lemmas.List.{map-id, map-append}
use Rattle.numbers.proofs.Mapped.{map_replicate}
pub use Rattle.numbers.proofs.Mapped.{map_slice_range}

-- a signed number stands for itself
pub map_same : (zs : List ℤ) → map (λ z. z) zs ≡ zs
map_same zs = map-id zs

-- the same of a list with a part of another behind it
pub map_push_range : {X Y : Type 0} (f : X → Y) (xs ys : List X) (i j : ℕ) → map f (xs ++ slice_range ys i j) ≡ map f xs ++ slice_range (map f ys) i j
map_push_range f xs ys i j = map-append f xs (slice_range ys i j) ∙ ap (λ zs. map f xs ++ zs) (map_slice_range f ys i j)

-- and with copies of an element behind it
pub map_push_copies : {X Y : Type 0} (f : X → Y) (xs : List X) (n : ℕ) (x : X) → map f (xs ++ replicate n x) ≡ map f xs ++ replicate n (f x)
map_push_copies f xs n x = map-append f xs (replicate n x) ∙ ap (λ zs. map f xs ++ zs) (map_replicate f n x)
