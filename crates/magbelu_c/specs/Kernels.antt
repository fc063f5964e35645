-- What kernels over slices of a caller come to.
use Rattle.std.specs.Prelude.{◌≡◌, ℕ, List, length}

-- items of two slices go into a third, or those of one into another: all have the same length
abbrev pub AreAlike : {X : Type 0} → List X → List X → List X → Type 0
AreAlike a b out = (length a ≡ length b) × (length out ≡ length a)

abbrev pub IsAlike : {X : Type 0} → List X → List X → Type 0
IsAlike a out = length out ≡ length a

-- it was made; or the slices are not alike, and nothing is written
pub record Makes {X : Type 0} (Alike Made : Type 0) (out out' : List X) (r : ℕ) : Type 0 where
  pub made : Alike → Made × (r ≡ 0)
  pub unlike : ¬ Alike → (out' ≡ out) × (r ≡ 57)
