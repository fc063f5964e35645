-- Sums and bits of several numbers, one number after the other.
use Rattle.std.proofs.Common.{◌≡◌, ℕ, ◌<◌, ℤ, pos, ◌+ℤ◌, List, [], ◌∷◌, ◌++◌, arith, ap, sym, ◌∙◌, mod-eq_of_lt}
use Rattle.std.proofs.lemmas.Int.{ints}
use Rattle.std.proofs.lemmas.Bool.Decides.{nat_tests}
use Rattle.stream_model.specs.declared.vocabulary.ItemType.{ItemType}
use Rattle.stream_model.specs.declared.vocabulary.ItemType.TheVariants.{Byte, Short, Int}
use Rattle.stream_model.specs.Numbers.{residue, numbers_in, bits_of, centred, wrap, total}
use Rattle.kind_model.specs.Kernels.{bits_in, bits_joined}
use Rattle.kind_model.specs.Math.{all_bits}
use Rattle.shape_laws.specs.Shaped.{residue-less}
use Rattle.shape_laws.specs.Windows.{total-push}
use Rattle.lane_kernels.specs.Bitwise.{IsBitwise}
use Rattle.math_blocks.specs.Joined.{AreJoined, itself, fold_joined, sum_of, sum_of_two, bits_of_all}
use Rattle.math_blocks.specs.Wrapping.{wrap-add_right, wrap_own}

swap : (y z : ℤ) → y +ℤ z ≡ z +ℤ y
swap y z = omega (arith, ints)

pub sums_joined : AreJoined sum_of itself sum_of_two
sums_joined =
    fold_joined sum_of sum_of_two
    record {
      alone = λ t z are. ap (wrap t) (with_none z) ∙ wrap_own t z are;
      one_more = λ t zs z. ap (wrap t) (total-push zs z ∙ swap (total zs) z) ∙ sym (wrap-add_right t z (total zs)) ∙ ap
          (wrap t) (swap z (wrap t (total zs)));
    }
  where
    with_none : (z : ℤ) → z +ℤ pos 0 ≡ z
    with_none z = omega (arith, ints)

-- the bits of a number of the type, which lie below the number of its values
pub bits-less : (t : ItemType) (z : ℤ) → bits_in t z < numbers_in t
bits-less Byte z = residue-less z 256 (omega arith)
bits-less Short z = residue-less z 65536 (omega arith)
bits-less Int z = residue-less z 4294967296 (omega arith)

residue-again : (z : ℤ) (m : ℕ) → 0 < m → residue (pos (residue z m)) m ≡ residue z m
residue-again z m some = mod-eq_of_lt (residue-less z m some)

-- make the number again
pub wrap-bits : (t : ItemType) (z : ℤ) → wrap t (pos (bits_in t z)) ≡ wrap t z
wrap-bits Byte z = ap (λ r. pos r) (residue-again z 256 (omega arith))
wrap-bits Short z = ap (centred 65536) (residue-again z 65536 (omega arith))
wrap-bits Int z = ap (centred 4294967296) (residue-again z 4294967296 (omega arith))

-- and are its bits
pub bits-wrap : (t : ItemType) (b : ℕ) → b < numbers_in t → bits_in t (wrap t (pos b)) ≡ b
bits-wrap Byte b h = omega (arith, h)
bits-wrap Short b h = grind (arith, nat_tests, h)
bits-wrap Int b h = grind (arith, nat_tests, h)

module _ (op : ℕ → ℕ → ℕ) (none : ItemType → ℕ) (is : IsBitwise op none) where
  all_bits-less : (t : ItemType) (zs : List ℤ) → all_bits op (none t) t zs < numbers_in t
  all_bits-less t [] = is.none_less t
  all_bits-less t (z ∷ zs) = is.keeps (bits_of t) (bits_in t z) (all_bits op (none t) t zs) (bits-less t z)
      (all_bits-less t zs)

  all_bits-push : (t : ItemType) (zs : List ℤ) (z : ℤ) → all_bits op (none t) t (zs ++ z ∷ [])
      ≡ op (all_bits op (none t) t zs) (bits_in t z)
  all_bits-push t [] z = is.comm (bits_in t z) (none t)
  all_bits-push t (y ∷ zs) z = ap (op (bits_in t y)) (all_bits-push t zs z) ∙ sym
      (is.assoc (bits_in t y) (all_bits op (none t) t zs) (bits_in t z))

  pub bits_are_joined : AreJoined (bits_of_all op none) itself (bits_joined op)
  bits_are_joined =
      fold_joined (bits_of_all op none) (bits_joined op)
      record {
        alone = λ t z are. ap (λ b. wrap t (pos b)) (is.comm (bits_in t z) (none t) ∙ is.unit t (bits_in t z)
            (bits-less t z)) ∙ wrap-bits t z ∙ wrap_own t z are;
        one_more = λ t zs z.
            ap (λ b. wrap t (pos b)) (all_bits-push t zs z ∙ ap (λ b. op b (bits_in t z))
            (sym (bits-wrap t (all_bits op (none t) t zs) (all_bits-less t zs))));
      }
