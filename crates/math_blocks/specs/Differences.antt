-- Differences of several numbers, one number after the other.
use Rattle.std.proofs.Common.{◌≡◌, refl, ℤ, pos, negsuc, ◌+ℤ◌, ◌-ℤ◌, ◌*ℤ◌, ◌∷◌, arith, ap, sym, ◌∙◌}
use Rattle.std.proofs.Math.IntN.{neg_ℤ, *ℤ_comm}
use Rattle.std.proofs.lemmas.Int.{ints}
use Rattle.stream_model.specs.declared.vocabulary.ItemType.{ItemType}
use Rattle.stream_model.specs.Numbers.{wrap, total}
use Rattle.shape_laws.specs.Windows.{total-push}
use Rattle.math_blocks.specs.Joined.{AreJoined, difference_of, negative_of, difference_of_two}
use Rattle.math_blocks.specs.Wrapping.{wrap-add_right, wrap-mul_left}

behind : (x z : ℤ) → x -ℤ z ≡ neg_ℤ z +ℤ x
behind x z = omega (arith, ints)

less_none : (y z : ℤ) → y -ℤ (z +ℤ pos 0) ≡ y -ℤ z
less_none y z = omega (arith, ints)

less_both : (x y z : ℤ) → x -ℤ (y +ℤ z) ≡ x -ℤ y -ℤ z
less_both x y z = omega (arith, ints)

-- to wrap what is lessened first changes nothing
wrap-sub_left : (t : ItemType) (x z : ℤ) → wrap t (wrap t x -ℤ z) ≡ wrap t (x -ℤ z)
wrap-sub_left t x z = ap (wrap t) (behind (wrap t x) z) ∙ wrap-add_right t (neg_ℤ z) x ∙ ap (wrap t) (sym (behind x z))

pub differences_joined : AreJoined difference_of negative_of difference_of_two
differences_joined =
    record {
      one = λ t z are. refl;
      two = λ t y z are. ap (wrap t) (less_none y z);
      one_more = λ t x y zs z.
          ap (λ s. wrap t (x -ℤ s)) (total-push (y ∷ zs) z) ∙ ap (wrap t) (less_both x (total (y ∷ zs)) z) ∙ sym
          (wrap-sub_left t (x -ℤ total (y ∷ zs)) z);
    }

minus_one : (z : ℤ) → negsuc 0 *ℤ z ≡ pos 0 -ℤ z
minus_one z = grind (arith, ints)

-- an item times the item that equals -1 is its negative
pub negative_is : (t : ItemType) (z : ℤ) → wrap t (z *ℤ wrap t (negsuc 0)) ≡ negative_of t z
negative_is t z = ap (wrap t) (*ℤ_comm z (wrap t (negsuc 0))) ∙ wrap-mul_left t (negsuc 0) z ∙ ap (wrap t) (minus_one z)
