-- The kinds of bits are lawful.
use Rattle.std.specs.Prelude.{ℕ, zero, suc, ◌+◌, ◌-◌, ◌*◌, ◌/◌, ◌%◌, ◌^◌, ◌<◌, ◌≤◌, ◌≡◌, ℤ, pos, ◌+ℤ◌, ◌-ℤ◌, List, ◌∷◌, map, take, length, sum, refl}
use Rattle.std.proofs.Common.{ap, ap₂, subst, sym, ◌∙◌, arith}
use Rattle.std.proofs.Math.Nat.{pow-suc, mod-one, mod-eq_of_lt, one-le-pow, pow-le-pow_right, div-one, div-div-eq-div-mul}
use Rattle.std.proofs.lemmas.Int.{ints}
use Rattle.std.proofs.lemmas.List.{take-take, take_more}
use Rattle.std.proofs.lemmas.Nat.{mod-mul-add, div_below}
use Rattle.stream_model.specs.declared.vocabulary.ItemType.TheVariants.{Byte}
use Rattle.stream_model.specs.Numbers.{IsItem, residue, floor_div, total}
use Rattle.stream_model.specs.Lists.{numbers_from, item, item_before}
use Rattle.kind_model.specs.Kernels.{packed}
use Rattle.stream_model.specs.Meaning.{input, IsLawful}
use Rattle.kind_model.specs.Bits.{pack_k_bits, unpack_k_bits, running_sum, diff_encoder, diff_decoder, place_in, places_of, register_of, masked, scrambled, received, shifted, newest, scrambler, descrambler, additive_scrambler}
use Rattle.shape_laws.specs.Shaped.{residue-less, item-same, past-same, sum_below-same, map-same, get_or-map_numbers, sum-cons, IsRate, one_for_one, shaped-lawful}
use Rattle.shape_laws.specs.Windows.{residue-add, total-push}
use Rattle.kind_laws.specs.Rates.{item_of_firing}

-- a number below 256 is a byte
pub IsItem-byte : (n : ℕ) → n < 256 → IsItem Byte (pos n)
IsItem-byte n h = record { above = omega (arith, ints); below = omega (arith, ints) }

-- one item more: the last output plus the item
pub running_sum-more : (m : ℕ) (x : List ℤ) (n : ℕ) → 0 < m → n < length x → running_sum m x (n + 1)
    ≡ residue (pos (running_sum m x n) +ℤ item x n) m
running_sum-more m x n h there =
    ap (λ (z : List ℤ). residue (total z) m) (take_more x n (pos 0) there)
    ∙ ap (λ z. residue z m) (total-push (take n x) (item x n))
    ∙ sym (residue-add (total (take n x)) (item x n) m h)

-- the first items of lists that agree in more
pub take-same : (x y : List ℤ) (k n : ℕ) → take k x ≡ take k y → n ≤ k → take n x ≡ take n y
take-same x y k n same few = sym (take-take n k x few) ∙ ap (take n) same ∙ take-take n k y few

pub running_sum-same : (m : ℕ) (x y : List ℤ) (k n : ℕ) → take k x ≡ take k y → n ≤ k → running_sum m x n
    ≡ running_sum m y n
running_sum-same m x y k n same few = ap (λ (z : List ℤ). residue (total z) m) (take-same x y k n same few)

pub diff_encoder-lawful : (m : ℕ) → 1 ≤ m → m ≤ 256 → IsLawful (diff_encoder m)
diff_encoder-lawful m low high =
    shaped-lawful _ _ _ _ _ _ _ _ _ _ one_for_one (omega arith) (omega arith) refl (λ ts xs. omega arith)
    (λ ts xs p n h. IsItem-byte _ (omega (arith, residue-less (total (take (n + 1) (input xs 0))) m (omega arith))))
    (λ ts us xs ys k p n settings inputs h. ap pos (running_sum-same m (input xs 0) (input ys 0) (1 * k) (n + 1)
    (inputs.items 0) (omega arith)))
    (λ ts us xs ys k settings inputs. running_sum-same m (input xs 0) (input ys 0) (1 * k) k (inputs.items 0)
    (omega arith))

pub diff_decoder-lawful : (m : ℕ) → 1 ≤ m → m ≤ 256 → IsLawful (diff_decoder m)
diff_decoder-lawful m low high =
    shaped-lawful _ _ _ _ _ _ _ _ _ _ one_for_one (omega arith) (omega arith) refl (λ ts xs. refl)
    (λ ts xs p n h. IsItem-byte _ (omega (
      arith,
      residue-less (item (input xs 0) n -ℤ item_before (input xs 0) n 1) m
          (omega arith),
    )))
    (λ ts us xs ys k p n settings inputs h.
    ap₂ (λ a b. pos (residue (a -ℤ b) m)) (item-same (input xs 0) (input ys 0) (1 * k) n (inputs.items 0) h)
    (past-same (input xs 0) (input ys 0) (1 * k) n 1 (inputs.items 0) h))
    (λ ts us xs ys k settings inputs. refl)

-- the digits of a number to base two, from place a on
pub mod_twice : (q m : ℕ) → 0 < m → q % (m * 2) ≡ q / 2 % m * 2 + q % 2
mod_twice q m h =
    let whole : q ≡ q / 2 / m * (m * 2) + (q / 2 % m * 2 + q % 2) = omega arith in
    ap (λ z. z % (m * 2)) whole ∙ mod-mul-add (q / 2 / m) (m * 2) (q / 2 % m * 2 + q % 2) (omega arith)

-- one digit more
next_digit : (r p m : ℕ) → 0 < m → r / p % 2 * p + r / (p * 2) % m * (p * 2) ≡ r / p % (m * 2) * p
next_digit r p m h = rw (← div-div-eq-div-mul r p 2, mod_twice (r / p) m h) (omega arith)

places_from : (r a from count : ℕ) → from ≡ a + 1 → sum (map (λ j. place_in r j * 2 ^ (j - 1))
    (numbers_from from count)) ≡ r / 2 ^ a % 2 ^ count * 2 ^ a
places_from r a from zero e = rw mod-one (omega arith)
places_from r a from (suc count) e =
    sum-cons (place_in r from * 2 ^ (from - 1)) (map (λ j. place_in r j * 2 ^ (j - 1)) (numbers_from (from + 1) count))
    ∙ ap₂ ◌+◌ (ap (λ z. r / 2 ^ z % 2 * 2 ^ z) (here e)) (places_from r (suc a) (from + 1) count (omega (arith, e)))
    ∙ rw (pow-suc 2 a, pow-suc 2 count) (next_digit r (2 ^ a) (2 ^ count) (one-le-pow count 2 (omega arith)))
  where
    here : from ≡ a + 1 → from - 1 ≡ a
    here at = omega (arith, at)

-- a register of the places of a number is the number
pub register_of-places : (bits r : ℕ) → r < 2 ^ bits → register_of bits (places_of bits r) ≡ r
register_of-places bits r h =
    ap sum (map-same _ _ 1 bits (λ j from to. ap (λ z. z * 2 ^ (j - 1))
    (get_or-map_numbers (place_in r) 1 bits (j - 1) 0 (omega arith) ∙ ap (place_in r) (omega arith))))
    ∙ places_from r 0 1 bits refl ∙ rw (div-one, mod-eq_of_lt h) (omega arith)

-- bits a to a + count - 1 of k, the highest first, make a number of so many bits
packed_from :
    (bit : ℕ → ℕ) → ((j : ℕ) → bit j < 2) → (k a count : ℕ) → a + count ≡ k →
    (m : ℕ) × (total (map (λ j. pos (bit j * 2 ^ (k - 1 - j))) (numbers_from a count)) ≡ pos m) × (m < 2 ^ count)
packed_from bit small k a zero e = (0, refl, omega arith)
packed_from bit small k a (suc count) e =
    let rest : (m : ℕ) × (total (map (λ j. pos (bit j * 2 ^ (k - 1 - j))) (numbers_from (a + 1) count)) ≡ pos m)
    × (m < 2 ^ count) =
    packed_from bit small k (a + 1) count (omega (arith, e)) in (
      bit a * 2 ^ count + rest.0,
      ap₂ (λ u v. pos (bit a * 2 ^ u) +ℤ v) (here e) rest.1,
      rw (pow-suc 2 count)
          (one_bit (bit a) (2 ^ count) rest.0 (small a) rest.2),
    )
  where
    here : a + suc count ≡ k → k - 1 - a ≡ count
    here whole = omega (arith, whole)

    one_bit : (b p m : ℕ) → b < 2 → m < p → b * p + m < p * 2
    one_bit b p m bit_small less = grind arith

pub IsItem-packed : (k : ℕ) (x : List ℤ) (n : ℕ) → k ≤ 8 → IsItem Byte (packed k x n)
IsItem-packed k x n few =
    let whole : (m : ℕ) × (packed k x n ≡ pos m) × (m < 2 ^ k) =
    packed_from (λ j. residue (item x (n * k + j)) 2) (λ j. residue-less _ 2 (omega arith)) k 0 k (omega arith) in
    subst (IsItem Byte) (sym whole.1) (IsItem-byte whole.0 (omega (arith, whole.2, powers)))
  where
    powers : 2 ^ k ≤ 2 ^ 8
    powers = pow-le-pow_right (omega arith) few

pub pack_k_bits-lawful : (k : ℕ) → 1 ≤ k → k ≤ 8 → IsLawful (pack_k_bits k)
pack_k_bits-lawful k low high =
    shaped-lawful _ _ _ _ _ _ _ _ _ _ rate (omega arith) (omega arith) refl (λ ts xs. refl)
    (λ ts xs p n h. IsItem-packed k (input xs 0) n high)
    (λ ts us xs ys c p n settings inputs h.
    sum_below-same k _ _ (λ j l.
    ap (λ z. pos (residue z 2 * 2 ^ (k - 1 - j))) (item-same (input xs 0) (input ys 0) (k * c) (n * k + j)
    (inputs.items 0) (item_of_firing k c n j l (omega arith)))))
    (λ ts us xs ys c settings inputs. refl)
  where
    rate : IsRate k 1
    rate = record { takes_some = low; takes_few = omega arith; gives_some = omega arith; gives_few = omega arith }

pub unpack_k_bits-lawful : (k : ℕ) → 1 ≤ k → k ≤ 8 → IsLawful (unpack_k_bits k)
unpack_k_bits-lawful k low high =
    shaped-lawful _ _ _ _ _ _ _ _ _ _ rate (omega arith) (omega arith) refl (λ ts xs. refl)
    (λ ts xs p n h. IsItem-byte _ (omega (
      arith,
      residue-less (floor_div (item (input xs 0) (n / k))
          (2 ^ (k - 1 - n % k))) 2 (omega arith),
    )))
    (λ ts us xs ys c p n settings inputs h.
    ap (λ z. pos (residue (floor_div z (2 ^ (k - 1 - n % k))) 2))
    (item-same (input xs 0) (input ys 0) (1 * c) (n / k) (inputs.items 0)
    (div_below n k (1 * c) (omega arith) (omega arith))))
    (λ ts us xs ys c settings inputs. refl)
  where
    rate : IsRate 1 k
    rate = record { takes_some = omega arith; takes_few = omega arith; gives_some = low; gives_few = omega arith }

-- the memories over inputs that agree so far
pub scrambled-same : (bits mask init : ℕ) (x y : List ℤ) (n : ℕ) → ((j : ℕ) → j < n → item x j ≡ item y j)
    → scrambled bits mask init x n ≡ scrambled bits mask init y n
scrambled-same bits mask init x y zero same = refl
scrambled-same bits mask init x y (suc n) same =
    ap₂ (λ (b : ℕ) (ys : List ℕ). ((b + masked bits mask ys) % 2) ∷ ys) (ap (λ z. residue z 2) (same n (omega arith)))
    (scrambled-same bits mask init x y n (λ j l. same j (omega arith)))

pub received-same : (bits init : ℕ) (x y : List ℤ) (n : ℕ) → ((j : ℕ) → j < n → item x j ≡ item y j)
    → received bits init x n ≡ received bits init y n
received-same bits init x y zero same = refl
received-same bits init x y (suc n) same = ap₂ ◌∷◌ (ap (λ z. residue z 2) (same n (omega arith)))
    (received-same bits init x y n (λ j l. same j (omega arith)))

pub scrambler-lawful : (bits mask init : ℕ) → init < 2 ^ bits → IsLawful (scrambler bits mask init)
scrambler-lawful bits mask init fits =
    shaped-lawful _ _ _ _ _ _ _ _ _ _ one_for_one (omega arith) (omega arith) refl
    (λ ts xs. register_of-places bits init fits)
    (λ ts xs p n h. IsItem-byte _ (omega arith))
    (λ ts us xs ys k p n settings inputs h.
    ap (λ (held : List ℕ). pos (newest held))
    (scrambled-same bits mask init (input xs 0) (input ys 0) (suc n)
    (λ j l. item-same (input xs 0) (input ys 0) (1 * k) j (inputs.items 0) (omega arith))))
    (λ ts us xs ys k settings inputs.
    ap (register_of bits) (scrambled-same bits mask init (input xs 0) (input ys 0) k
    (λ j l. item-same (input xs 0) (input ys 0) (1 * k) j (inputs.items 0) (omega arith))))

pub descrambler-lawful : (bits mask init : ℕ) → init < 2 ^ bits → IsLawful (descrambler bits mask init)
descrambler-lawful bits mask init fits =
    shaped-lawful _ _ _ _ _ _ _ _ _ _ one_for_one (omega arith) (omega arith) refl
    (λ ts xs. register_of-places bits init fits)
    (λ ts xs p n h. IsItem-byte _ (omega arith))
    (λ ts us xs ys k p n settings inputs h.
    ap₂ (λ (b : ℕ) (held : List ℕ). pos ((b + masked bits mask held) % 2))
    (ap (λ z. residue z 2) (item-same (input xs 0) (input ys 0) (1 * k) n (inputs.items 0) h))
    (received-same bits init (input xs 0) (input ys 0) n (λ j l. item-same (input xs 0) (input ys 0) (1 * k) j
    (inputs.items 0) (omega arith))))
    (λ ts us xs ys k settings inputs.
    ap (register_of bits) (received-same bits init (input xs 0) (input ys 0) k
    (λ j l. item-same (input xs 0) (input ys 0) (1 * k) j (inputs.items 0) (omega arith))))

pub additive_scrambler-lawful : (bits mask init : ℕ) → init < 2 ^ bits → IsLawful (additive_scrambler bits mask init)
additive_scrambler-lawful bits mask init fits =
    shaped-lawful _ _ _ _ _ _ _ _ _ _ one_for_one (omega arith) (omega arith) refl
    (λ ts xs. register_of-places bits init fits)
    (λ ts xs p n h. IsItem-byte _ (omega arith))
    (λ ts us xs ys k p n settings inputs h.
    ap (λ z. pos ((residue z 2 + newest (shifted bits mask init (suc n))) % 2))
    (item-same (input xs 0) (input ys 0) (1 * k) n (inputs.items 0) h))
    (λ ts us xs ys k settings inputs. refl)
