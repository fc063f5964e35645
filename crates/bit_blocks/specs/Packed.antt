-- Bits that are packed into bytes and unpacked.
use Rattle.std.specs.Prelude.{◌≡◌, ℕ, ◌+◌, ◌-◌, ◌*◌, ◌/◌, ◌%◌, ◌^◌, ◌<◌, ◌≤◌, ℤ, pos, List, [], ◌∷◌, length, refl}
use Rattle.std.proofs.Common.{arith, ap, subst, sym, ◌∙◌}
use Rattle.std.proofs.lemmas.Nat.{div_below}
use Rattle.std.proofs.Math.Nat.{mul-add-div, mul-add-mod_self_left, mul-div_cancel_left}
use Rattle.stream_model.specs.declared.vocabulary.ItemType.TheVariants.{Byte}
use Rattle.stream_model.specs.Lists.{item}
use Rattle.stream_model.specs.Numbers.{residue, floor_div}
use Rattle.kind_model.specs.Kernels.{pack_bits, packed, unpack_bits, unpacked}
use Rattle.stream_model.specs.Settings.{Held}
use Rattle.stream_model.specs.Meaning.{Meaning, IsFed, input, given_items}
use Rattle.stream_model.specs.Shapes.{ports, at_rate}
use Rattle.kind_model.specs.Bits.{pack_k_bits, unpack_k_bits}
use Rattle.shape_laws.specs.Shaped.{sum_below-same}
use Rattle.kind_laws.specs.Rates.{item_of_firing}
use Rattle.block_trait.specs.Fill.{IsSingle}
use Rattle.block_trait.specs.Shape.{IsPaced}
use Rattle.block_trait.proofs.Fills.{paced, length-paced, item-paced, given-paced}

-- a block of bytes that takes d and gives i in a firing: all that the firings give is made of the window alone
pub record IsPacking (m : Meaning) (d i : ℕ) (makes : List ℤ → List ℤ) : Type 0 where
  pub takes_some : 1 ≤ d
  pub shaped : m ≡ record (at_rate (ports 1 Byte) (ports 1 Byte) d i) { out = m.out }
  pub made : (ts : List Held) (xs : List (List ℤ)) (first n state : ℕ) (w : List ℤ) (hs : List Held)
      → IsFed m ts xs first n state (w ∷ []) hs → makes w ≡ given_items m ts xs first n 0

pub packing-single : {m : Meaning} {d i : ℕ} {makes : List ℤ → List ℤ} → IsPacking m d i makes → IsSingle m
packing-single is = subst IsSingle (sym is.shaped) (record {
  in_least = refl;
  in_most = refl;
  out_least = refl;
  out_most = refl;
})

pack_k_bits-given :
    (k : ℕ) (ts : List Held) (xs : List (List ℤ)) (first n state : ℕ) (w : List ℤ) (hs : List Held) → 1 ≤ k
    → IsFed (pack_k_bits k) ts xs first n state (w ∷ []) hs →
    pack_bits k w ≡ given_items (pack_k_bits k) ts xs first n 0
pack_k_bits-given k ts xs first n state w hs some fed =
    given-paced (pack_k_bits k) k 1 pace ts xs first n state w hs fed 0 (length w / k) (packed k w)
    (whole ∙ omega arith)
    (λ j h.
    let near : j < n = omega (arith, whole) in
    sum_below-same k _ _ (λ l within.
    let there : j * k + l < k * n = item_of_firing k n j l within near in
    ap (λ z. pos (residue z 2 * 2 ^ (k - 1 - l)))
    (item-paced (pack_k_bits k) k 1 pace ts xs first n state w hs fed refl (j * k + l) there ∙ ap (item (input xs 0))
    (omega arith))))
  where
    pace : IsPaced (pack_k_bits k) k 1
    pace = paced _ _ k 1 1 _ _ 0 _ (pack_k_bits k).out some

    whole : length w / k ≡ n
    whole = ap (λ l. l / k) (length-paced (pack_k_bits k) k 1 pace ts xs first n state w hs fed ∙ omega arith) ∙
        mul-div_cancel_left n some

unpack_k_bits-given :
    (k : ℕ) (ts : List Held) (xs : List (List ℤ)) (first n state : ℕ) (w : List ℤ) (hs : List Held) → 1 ≤ k
    → IsFed (unpack_k_bits k) ts xs first n state (w ∷ []) hs →
    unpack_bits k w ≡ given_items (unpack_k_bits k) ts xs first n 0
unpack_k_bits-given k ts xs first n state w hs some fed =
    given-paced (unpack_k_bits k) 1 k pace ts xs first n state w hs fed 0 (k * length w) (unpacked k w)
    (ap (λ l. k * l) long)
    (λ j h.
    let there : j / k < 1 * n = div_below j k (1 * n) (omega arith) (omega (arith, ap (λ l. k * l) long)) in
    let byte : item w (j / k) ≡ item (input xs 0) ((k * first + j) / k) =
    item-paced (unpack_k_bits k) 1 k pace ts xs first n state w hs fed refl (j / k) there ∙ ap (item (input xs 0))
    (omega (arith, mul-add-div some first j)) in
    let place : j % k ≡ (k * first + j) % k = sym (mul-add-mod_self_left k first j) in
    λ i. pos (residue (floor_div (byte i) (2 ^ (k - 1 - place i))) 2))
  where
    pace : IsPaced (unpack_k_bits k) 1 k
    pace = paced _ _ 1 k 1 _ _ 0 _ (unpack_k_bits k).out (omega arith)

    long : length w ≡ n
    long = length-paced (unpack_k_bits k) 1 k pace ts xs first n state w hs fed ∙ omega arith

pub pack_k_bits-packed : (k : ℕ) → 1 ≤ k → IsPacking (pack_k_bits k) k 1 (pack_bits k)
pack_k_bits-packed k some = record {
  takes_some = some;
  shaped = refl;
  made = λ ts xs first n state w hs fed.
      pack_k_bits-given k ts xs first n state w hs some fed;
}

pub unpack_k_bits-packed : (k : ℕ) → 1 ≤ k → IsPacking (unpack_k_bits k) 1 k (unpack_bits k)
unpack_k_bits-packed k some = record {
  takes_some = omega arith;
  shaped = refl;
  made = λ ts xs first n state w hs fed.
      unpack_k_bits-given k ts xs first n state w hs some fed;
}
