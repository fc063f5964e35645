-- The bits of a register that its mask has, counted.
use Rattle.std.proofs.Common.{◌≡◌, ℕ, zero, suc, ◌+◌, ◌-◌, ◌*◌, ◌/◌, ◌%◌, ◌^◌, ◌<◌, ◌≤◌, map, sum, get_or, bit_and, refl, mod-eq_of_lt, arith, ap, sym, ◌∙◌}
use Rattle.std.specs.Int.RustNames.{count_ones}
use Rattle.std.proofs.lemmas.Nat.{and_shr, and_mod, and_le_l, mod_below, mod-pow-add, pow_pos, ones_cat, ones-le}
use Rattle.std.proofs.Math.Nat.{add_comm}
use Rattle.stream_model.specs.Lists.{numbers_from}
use Rattle.kind_model.specs.Bits.{place_in, places_of, masked}
use Rattle.shape_laws.specs.Shaped.{get_or-map_numbers}
use Rattle.kind_laws.specs.Registers.{sum-more}

-- the sum up to one place more
one_more :
    (bits mask word j s : ℕ) → j < bits → s ≡ sum (map (λ i. place_in mask i * get_or (places_of bits word) (i - 1) 0) (numbers_from 1 j)) →
    s + mask / 2 ^ j % 2 * (word / 2 ^ j % 2) ≡ sum (map (λ i. place_in mask i * get_or (places_of bits word) (i - 1) 0) (numbers_from 1 (j + 1)))
one_more bits mask word j s h before =
    let here : 1 + j - 1 ≡ j = omega arith in
    let held : get_or (places_of bits word) (1 + j - 1) 0 ≡ word / 2 ^ j % 2 =
    ap (λ i. get_or (places_of bits word) i 0) here ∙ get_or-map_numbers (place_in word) 1 bits j 0 h ∙ ap (λ i. word / 2 ^ i % 2) here in
    let next : j + 1 ≡ suc j = omega arith in
    (λ i. before i + mask / 2 ^ (sym here i) % 2 * sym held i)
    ∙ sym (sum-more (λ i. place_in mask i * get_or (places_of bits word) (i - 1) 0) 1 j)
    ∙ ap (λ c. sum (map (λ i. place_in mask i * get_or (places_of bits word) (i - 1) 0) (numbers_from 1 c))) (sym next)

-- of two bits what they have in common is their product
one_bit : (p q : ℕ) → p < 2 → q < 2 → bit_and p q ≡ p * q
one_bit zero zero h k = refl
one_bit zero (suc zero) h k = refl
one_bit (suc zero) zero h k = refl
one_bit (suc zero) (suc zero) h k = refl
one_bit (suc (suc p)) q h k = absurd (omega arith)
one_bit p (suc (suc q)) h k = absurd (omega arith)

-- a bit counts itself
count_one : (p : ℕ) → p < 2 → count_ones p ≡ p
unfolding count_ones
count_one zero h = refl
count_one (suc zero) h = refl
count_one (suc (suc p)) h = absurd (omega arith)

-- the bits below place k that a mask and a word have in common
common_bits : (bits mask word k : ℕ) → k ≤ bits → count_ones (bit_and mask word % 2 ^ k) ≡ sum (map (λ i. place_in mask i * get_or (places_of bits word) (i - 1) 0) (numbers_from 1 k))
unfolding count_ones
common_bits bits mask word zero h = let none : bit_and mask word % 2 ^ 0 ≡ 0 = omega arith in ap count_ones none
common_bits bits mask word (suc k) h =
    let n = bit_and mask word in
    let digit : n / 2 ^ k % 2 ≡ mask / 2 ^ k % 2 * (word / 2 ^ k % 2) =
    ap (λ m. m % 2) (and_shr mask word k) ∙ and_mod (mask / 2 ^ k) (word / 2 ^ k) 1 ∙ one_bit (mask / 2 ^ k % 2) (word / 2 ^ k % 2) (mod_below (mask / 2 ^ k) 2 (omega arith)) (mod_below (word / 2 ^ k) 2 (omega arith)) in
    let apart = ap count_ones (mod-pow-add n 1 k) ∙ ones_cat k (n / 2 ^ k % 2) (n % 2 ^ k) (mod_below n (2 ^ k) (pow_pos k)) in
    let one = count_one (n / 2 ^ k % 2) (mod_below (n / 2 ^ k) 2 (omega arith)) ∙ digit in
    let next : k + 1 ≡ suc k = omega arith in
    let front : 1 + k ≡ suc k = omega arith in
    ap (λ c. count_ones (n % 2 ^ c)) (sym front) ∙ apart ∙ ap (λ c. c + count_ones (n % 2 ^ k)) one ∙ add_comm _ _
    ∙ one_more bits mask word k (count_ones (n % 2 ^ k)) (omega arith) (common_bits bits mask word k (omega arith))
    ∙ ap (λ c. sum (map (λ i. place_in mask i * get_or (places_of bits word) (i - 1) 0) (numbers_from 1 c))) next

-- a sum of masked bits counts those that mask and word have in common
pub common_is : (bits mask word : ℕ) → mask < 2 ^ bits → count_ones (bit_and mask word) ≡ masked bits mask (places_of bits word)
common_is bits mask word small =
    let few : bit_and mask word < 2 ^ bits = omega (arith, and_le_l mask word, small) in
    ap count_ones (sym (mod-eq_of_lt few)) ∙ common_bits bits mask word bits (omega arith)

pub few_common : (bits mask word : ℕ) → mask < 2 ^ bits → bits ≤ 32 → count_ones (bit_and mask word) ≤ 32
few_common bits mask word small few =
    let within : bit_and mask word < 2 ^ bits = omega (arith, and_le_l mask word, small) in
    omega (arith, ones-le bits (bit_and mask word) within)
