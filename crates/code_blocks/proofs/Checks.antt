-- Checksums, a byte and a bit at a time.
use Rattle.std.proofs.Common.{◌≡◌, ℕ, zero, suc, ◌+◌, ◌-◌, ◌*◌, ◌/◌, ◌%◌, ◌^◌, ◌<◌, ◌≤◌, ℤ, pos, List, [], ◌∷◌, ◌++◌, length, map, mod-eq_of_lt, refl, arith, ap, ap₂, sym, ◌∙◌}
use Rattle.std.proofs.lemmas.List.{append_assoc, append-nil}
use Rattle.std.specs.Int.{reverse_bits_onto}
use Rattle.std.proofs.lemmas.Nat.{mod-pow-add}
use Rattle.std.proofs.Math.Nat.{pow-suc, div-div-eq-div-mul}
use Rattle.kind_model.specs.declared.vocabulary.BitOrder.{BitOrder}
use Rattle.kind_model.specs.declared.vocabulary.BitOrder.TheVariants.{MsbFirst, LsbFirst}
use Rattle.stream_model.specs.Numbers.{residue}
use Rattle.stream_model.specs.Lists.{numbers_from, item}
use Rattle.kind_model.specs.BitStreams.{place_by, number_by, stream_bit}
use Rattle.kind_model.specs.Codes.{divided, remainder, in_order}
use Rattle.code_blocks.specs.Divided.{bits_of_byte, bits_by}
use Rattle.code_blocks.proofs.Tables.{high_first, bits-of_byte}

-- a run of numbers in two parts, and one that begins later
split-numbers : {X : Type 0} (f : ℕ → X) (a m n : ℕ) → map f (numbers_from a (m + n)) ≡ map f (numbers_from a m) ++ map f (numbers_from (a + m) n)
split-numbers f a zero n =
    let none : zero + n ≡ n = omega arith in
    let here : a ≡ a + zero = omega arith in
    λ i. map f (numbers_from (here i) (none i))
split-numbers f a (suc m) n =
    let one_more : suc m + n ≡ suc (m + n) = omega arith in
    ap (λ c. map f (numbers_from a c)) one_more
    ∙ ap (λ xs. f a ∷ xs) (split-numbers f (a + 1) m n ∙ ap (λ b. map f (numbers_from (a + 1) m) ++ map f (numbers_from b n)) (omega arith))

later-numbers : {X : Type 0} (f : ℕ → X) (a b n : ℕ) → map f (numbers_from (a + b) n) ≡ map (λ j. f (a + j)) (numbers_from b n)
later-numbers f a b zero = refl
later-numbers f a b (suc n) = ap (λ xs. f (a + b) ∷ xs) (ap (λ c. map f (numbers_from c n)) (omega arith) ∙ later-numbers f a (b + 1) n)

same-numbers : {X : Type 0} (f g : ℕ → X) (a n : ℕ) → ((j : ℕ) → a ≤ j → j < a + n → f j ≡ g j) → map f (numbers_from a n) ≡ map g (numbers_from a n)
same-numbers f g a zero same = refl
same-numbers f g a (suc n) same = ap₂ ◌∷◌ (same a (omega arith) (omega arith)) (same-numbers f g (a + 1) n (λ j from to. same j (omega arith) (omega arith)))

-- the register behind bits and then others
remainder-append : (w p r : ℕ) (bs cs : List ℕ) → remainder w p r (bs ++ cs) ≡ remainder w p (remainder w p r bs) cs
remainder-append w p r [] cs = refl
remainder-append w p r (b ∷ bs) cs = remainder-append w p (divided w p r b) bs cs

-- the bits of one byte of a stream
byte-bits : (o : BitOrder) (x : List ℤ) (k z : ℕ) → item x k ≡ pos z → z < 256 → map (stream_bit o 8 x) (numbers_from (8 * k) 8) ≡ bits_by o z
byte-bits o x k z is small =
    ap (λ a. map (stream_bit o 8 x) (numbers_from a 8)) (omega arith)
    ∙ later-numbers (stream_bit o 8 x) (8 * k) 0 8
    ∙ same-numbers (λ j. stream_bit o 8 x (8 * k + j)) (λ j. z / 2 ^ place_by o 8 j % 2) 0 8
    (λ j from to.
    let there : item x ((8 * k + j) / 8) ≡ pos z = ap (item x) (omega (arith, to)) ∙ is in
    let place : (8 * k + j) % 8 ≡ j = omega (arith, to) in
    let byte : residue (item x ((8 * k + j) / 8)) (2 ^ 8) ≡ z = ap (λ y. residue y 256) there ∙ mod-eq_of_lt small in
    λ i. byte i / 2 ^ place_by o 8 (place i) % 2)

-- the register behind one byte more
pub remainder-more :
    (o : BitOrder) (w p r : ℕ) (x : List ℤ) (k z : ℕ) → item x k ≡ pos z → z < 256 →
    remainder w p r (map (stream_bit o 8 x) (numbers_from 0 (8 * (k + 1)))) ≡ remainder w p (remainder w p r (map (stream_bit o 8 x) (numbers_from 0 (8 * k)))) (bits_by o z)
remainder-more o w p r x k z is small =
    let whole : 8 * (k + 1) ≡ 8 * k + 8 = omega arith in
    let place : 0 + 8 * k ≡ 8 * k = omega arith in
    let byte : map (stream_bit o 8 x) (numbers_from (0 + 8 * k) 8) ≡ bits_by o z = ap (λ a. map (stream_bit o 8 x) (numbers_from a 8)) place ∙ byte-bits o x k z is small in
    ap (λ n. remainder w p r (map (stream_bit o 8 x) (numbers_from 0 n))) whole
    ∙ ap (remainder w p r) (split-numbers (stream_bit o 8 x) 0 (8 * k) 8 ∙ ap (λ bs. map (stream_bit o 8 x) (numbers_from 0 (8 * k)) ++ bs) byte)
    ∙ remainder-append w p r (map (stream_bit o 8 x) (numbers_from 0 (8 * k))) (bits_by o z)

-- the k lowest bits of a number, the lowest first
abbrev low_first : ℕ → ℕ → List ℕ
low_first zero n = []
low_first (suc k) n = (n % 2) ∷ low_first k (n / 2)

-- the bits of a number with one more behind
high-more : (j a b : ℕ) → b < 2 → high_first (suc j) (a * 2 + b) ≡ high_first j a ++ b ∷ []
high-more zero a b h = ap (λ n. n ∷ []) (omega (arith, h))
high-more (suc j) a b h =
    let next : 2 ^ suc j ≡ 2 * 2 ^ j = pow-suc 2 j ∙ omega arith in
    let first : (a * 2 + b) / 2 ^ suc j % 2 ≡ a / 2 ^ j % 2 = ap (λ n. n % 2) (ap (λ m. (a * 2 + b) / m) next ∙ halves a b (2 ^ j) h) in
    (λ i. first i ∷ high-more j a b h i)
  where
    halves : (a b m : ℕ) → b < 2 → (a * 2 + b) / (2 * m) ≡ a / m
    halves a b m h = sym (div-div-eq-div-mul (a * 2 + b) 2 m) ∙ ap (λ n. n / m) (omega (arith, h))

reversed-bits : (k j n a : ℕ) → high_first (k + j) (reverse_bits_onto k n a) ≡ high_first j a ++ low_first k n
unfolding reverse_bits_onto
reversed-bits zero j n a = ap (λ m. high_first m a) (omega arith) ∙ sym (append-nil (high_first j a))
reversed-bits (suc k) j n a =
    ap (λ m. high_first m (reverse_bits_onto k (n / 2) (a * 2 + n % 2))) (omega arith)
    ∙ reversed-bits k (suc j) (n / 2) (a * 2 + n % 2)
    ∙ ap (λ bs. bs ++ low_first k (n / 2)) (high-more j a (n % 2) (omega arith))
    ∙ append_assoc (high_first j a) ((n % 2) ∷ []) (low_first k (n / 2))

low-bits : (z : ℕ) → low_first 8 z ≡ bits_by LsbFirst z
low-bits z =
    let a : z / 2 / 2 ≡ z / 4 = omega arith in
    let b : z / 2 / 2 / 2 ≡ z / 8 = omega arith in
    let c : z / 2 / 2 / 2 / 2 ≡ z / 16 = omega arith in
    let d : z / 2 / 2 / 2 / 2 / 2 ≡ z / 32 = omega arith in
    let e : z / 2 / 2 / 2 / 2 / 2 / 2 ≡ z / 64 = omega arith in
    let f : z / 2 / 2 / 2 / 2 / 2 / 2 / 2 ≡ z / 128 = omega arith in
    let o : z ≡ z / 1 = omega arith in
    λ i. (o i % 2) ∷ (z / 2 % 2) ∷ (a i % 2) ∷ (b i % 2) ∷ (c i % 2) ∷ (d i % 2) ∷ (e i % 2) ∷ (f i % 2) ∷ []

-- a byte with its bits in the other order has them from the lowest on
pub turned-byte : (z : ℕ) → bits_of_byte (reverse_bits_onto 8 z 0) ≡ bits_by LsbFirst z
turned-byte z = bits-of_byte (reverse_bits_onto 8 z 0) ∙ reversed-bits 8 0 z 0 ∙ low-bits z

length-numbers : {X : Type 0} (f : ℕ → X) (a n : ℕ) → length (map f (numbers_from a n)) ≡ n
length-numbers f a zero = refl
length-numbers f a (suc n) = ap suc (length-numbers f (a + 1) n)

-- the number of its own bits, the highest first, is the number
own-bits : (w r k : ℕ) → k ≤ w → number_by MsbFirst (map (λ j. r / 2 ^ (w - 1 - j) % 2) (numbers_from (w - k) k)) ≡ r % 2 ^ k
own-bits w r zero h = omega arith
own-bits w r (suc k) h =
    let here : w - 1 - (w - suc k) ≡ k = omega (arith, h) in
    let behind : w - suc k + 1 ≡ w - k = omega (arith, h) in
    let f : ℕ → ℕ = λ j. r / 2 ^ (w - 1 - j) % 2 in
    let long : length (map f (numbers_from (w - suc k + 1) k)) ≡ k = length-numbers f (w - suc k + 1) k in
    let rest : number_by MsbFirst (map f (numbers_from (w - suc k + 1) k)) ≡ r % 2 ^ k =
    ap (λ a. number_by MsbFirst (map f (numbers_from a k))) behind ∙ own-bits w r k (omega (arith, h)) in
    (λ i. r / 2 ^ here i % 2 * 2 ^ long i + rest i)
    ∙ (let whole : r % 2 ^ (1 + k) ≡ (r / 2 ^ k % 2 ^ 1) * 2 ^ k + r % 2 ^ k = mod-pow-add r 1 k in sym whole ∙ ap (λ n. r % 2 ^ n) (omega arith))

pub own-number : (w r : ℕ) → r < 2 ^ w → in_order MsbFirst w r ≡ r
own-number w r h =
    ap (λ a. number_by MsbFirst (map (λ j. r / 2 ^ (w - 1 - j) % 2) (numbers_from a w))) (omega arith)
    ∙ own-bits w r w (omega arith) ∙ mod-eq_of_lt h

-- one bit more in front of those that count more
pub turned-more :
    (w r k : ℕ) → k < w →
    2 * number_by LsbFirst (map (λ j. r / 2 ^ (w - 1 - j) % 2) (numbers_from (w - k) k)) + r / 2 ^ k % 2
    ≡ number_by LsbFirst (map (λ j. r / 2 ^ (w - 1 - j) % 2) (numbers_from (w - (k + 1)) (k + 1)))
turned-more w r k h =
    let f : ℕ → ℕ = λ j. r / 2 ^ (w - 1 - j) % 2 in
    let next : k + 1 ≡ suc k = omega arith in
    let here : w - 1 - (w - suc k) ≡ k = omega (arith, h) in
    let behind : w - suc k + 1 ≡ w - k = omega (arith, h) in
    sym
    (ap (λ n. number_by LsbFirst (map f (numbers_from (w - n) n))) next
    ∙ (λ i. r / 2 ^ here i % 2 + 2 * number_by LsbFirst (map f (numbers_from (behind i) k)))
    ∙ omega arith)

pub twice_less : (k n b : ℕ) → n < 2 ^ k → 2 * n + b % 2 < 2 ^ (k + 1)
twice_less k n b h =
    let next : 2 ^ (k + 1) ≡ 2 * 2 ^ k = ap (λ m. 2 ^ m) (omega arith) ∙ pow-suc 2 k ∙ omega arith in
    let bit : b % 2 < 2 = omega arith in
    rw next (omega (arith, h, bit))

-- all bits of a register, the lowest counting most
pub turned-all :
    (w r k : ℕ) → k ≡ w → number_by LsbFirst (map (λ j. r / 2 ^ (w - 1 - j) % 2) (numbers_from (w - k) k)) ≡ in_order LsbFirst w r
turned-all w r k e =
    let none : w - k ≡ 0 = omega (arith, e) in
    λ i. number_by LsbFirst (map (λ j. r / 2 ^ (w - 1 - j) % 2) (numbers_from (none i) (e i)))
