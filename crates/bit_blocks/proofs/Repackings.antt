-- What a block that cuts bits another way is given, and what it gives.
use Rattle.std.proofs.Common.{◌≡◌, ℕ, ◌+◌, ◌*◌, ◌/◌, ◌%◌, ◌^◌, ◌<◌, ◌≤◌, ℤ, pos, List, [], ◌∷◌, length, refl, arith, ap, sym, ◌∙◌}
use Rattle.std.proofs.Math.Nat.{mul-add-div, mul-add-mod_self_left}
use Rattle.stream_model.specs.declared.vocabulary.ItemType.{ItemType}
use Rattle.kind_model.specs.declared.vocabulary.BitOrder.{BitOrder}
use Rattle.stream_model.specs.Numbers.{residue, wrap}
use Rattle.stream_model.specs.Lists.{item}
use Rattle.stream_model.specs.Settings.{Held}
use Rattle.stream_model.specs.Meaning.{IsFed, input, given_items}
use Rattle.kind_model.specs.BitStreams.{place_by, number_by, stream_bit, repack, repacked, repacking, common_divisor}
use Rattle.kind_laws.specs.BitStreams.{same_bits, bit_of_firing, repacking-some}
use Rattle.block_trait.specs.Shape.{IsPaced}
use Rattle.block_trait.proofs.Fills.{paced, length-paced, item-paced, given-paced}
use Rattle.lane_filters.proofs.Streams.{numbered}

-- bit b of a window that begins with item a is one of the whole stream
stream_bit-window :
    (o : BitOrder) (k : ℕ) (w x : List ℤ) (a b : ℕ) → 1 ≤ k → item w (b / k) ≡ item x (a + b / k) → stream_bit o k w b ≡ stream_bit o k x (k * a + b)
stream_bit-window o k w x a b some same =
    let there : item w (b / k) ≡ item x ((k * a + b) / k) = same ∙ ap (item x) (sym (mul-add-div some a b)) in
    let place : b % k ≡ (k * a + b) % k = sym (mul-add-mod_self_left k a b) in
    λ i. residue (there i) (2 ^ k) / 2 ^ place_by o k (place i) % 2

-- the same bit, counted in items given and in items taken
same_place : (d i k l first j r : ℕ) → d * k ≡ i * l → k * (d * first) + (j * l + r) ≡ (i * first + j) * l + r
same_place d i k l first j r same =
    let taken : k * (d * first) ≡ d * k * first = grind arith in
    let given : (i * first + j) * l + r ≡ i * l * first + (j * l + r) = grind arith in
    omega (arith, taken, given, ap (λ z. z * first) same)

module _ (t : ItemType) (k l : ℕ) (o p : BitOrder) (some : 1 ≤ k) (some_given : 1 ≤ l) (ts : List Held) (xs : List (List ℤ)) (first n state : ℕ) (w : List ℤ) (hs : List Held)
    (fed : IsFed (repacking t k l o p) ts xs first n state (w ∷ []) hs) where
  pace : IsPaced (repacking t k l o p) (l / common_divisor k l) (k / common_divisor k l)
  pace = paced _ _ (l / common_divisor k l) (k / common_divisor k l) 1 _ _ 0 _ (repacking t k l o p).out (repacking-some k l some_given)

  -- the items that are given have as many bits as those that are taken
  pub all_bits : k / common_divisor k l * n * l ≡ length w * k
  all_bits =
      let long = length-paced (repacking t k l o p) _ _ pace ts xs first n state w hs fed in
      turned (l / common_divisor k l) (k / common_divisor k l) (length w) (omega (arith, long)) (same_bits k l)
    where
      turned : (d i long : ℕ) → long ≡ d * n → d * k ≡ i * l → i * n * l ≡ long * k
      turned d i long whole same =
          let given : i * n * l ≡ i * l * n = grind arith in
          let taken : d * n * k ≡ d * k * n = grind arith in
          given ∙ ap (λ z. z * n) (sym same) ∙ sym taken ∙ ap (λ z. z * k) (sym whole)

  pub repacking-given : (count : ℕ) → count ≡ k / common_divisor k l * n → repack t k l o p w count ≡ given_items (repacking t k l o p) ts xs first n 0
  repacking-given count e =
      given-paced (repacking t k l o p) (l / common_divisor k l) (k / common_divisor k l) pace ts xs first n state w hs fed 0 count (repacked t k l o p w) e
      (λ j h.
      ap (λ z. wrap t (pos (number_by p z)))
      (numbered (stream_bit o k w) (stream_bit o k (input xs 0)) (j * l) ((k / common_divisor k l * first + j) * l) l
      (λ r within.
      let there : (j * l + r) / k < l / common_divisor k l * n =
      bit_of_firing (l / common_divisor k l) (k / common_divisor k l) k l n j (j * l + r) some (same_bits k l) (omega (arith, e, h)) (omega (arith, within)) in
      stream_bit-window o k w (input xs 0) (l / common_divisor k l * first) (j * l + r) some
      (item-paced (repacking t k l o p) _ _ pace ts xs first n state w hs fed refl ((j * l + r) / k) there)
      ∙ ap (stream_bit o k (input xs 0)) (same_place (l / common_divisor k l) (k / common_divisor k l) k l first j r (same_bits k l)))))
