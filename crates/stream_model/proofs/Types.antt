-- Types of items that agree.
use Rattle.std.proofs.Common.{◌≡◌, subst, refl, true, ◌↔◌}
use Rattle.stream_model.specs.Numbers.{types_agree}
use Rattle.stream_model.specs.declared.vocabulary.ItemType.{ItemType}
use Rattle.stream_model.specs.declared.vocabulary.ItemType.TheVariants.{Byte, Short, Int}

agree : (s t : ItemType) → types_agree s t ≡ true → s ≡ t
agree Byte Byte e = refl
agree Byte Short e = cc
agree Byte Int e = cc
agree Short Byte e = cc
agree Short Short e = refl
agree Short Int e = cc
agree Int Byte e = cc
agree Int Short e = cc
agree Int Int e = refl

itself : (t : ItemType) → types_agree t t ≡ true
itself Byte = refl
itself Short = refl
itself Int = refl

-- types agree where they are one
pub types_agree-same : (s t : ItemType) → types_agree s t ≡ true ↔ s ≡ t
types_agree-same s t = (agree s t, λ e. subst (λ u. types_agree s u ≡ true) e (itself s))
