-- Quotients of several numbers, one number after the other.
use Rattle.std.proofs.Common.{◌≡◌, refl, ℤ, List, [], ◌∷◌, ◌++◌}
use Rattle.stream_model.specs.declared.vocabulary.ItemType.{ItemType}
use Rattle.kind_model.specs.Kernels.{divided}
use Rattle.kind_model.specs.Math.{divided_by, quotient}
use Rattle.math_blocks.specs.Joined.{AreJoined, itself}

divided_by-push : (t : ItemType) (y : ℤ) (zs : List ℤ) (z : ℤ) → divided_by t y (zs ++ z ∷ [])
    ≡ divided t (divided_by t y zs) z
divided_by-push t y [] z = refl
divided_by-push t y (x ∷ zs) z = divided_by-push t (divided t y x) zs z

pub quotients_joined : AreJoined quotient itself divided
quotients_joined =
    record {
      one = λ t z are. refl;
      two = λ t y z are. refl;
      one_more = λ t x y zs z. divided_by-push t (divided t x y) zs z;
    }
