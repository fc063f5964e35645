-- A number and its bytes, and an item and its number.
use Rattle.std.proofs.Common.{◌≡◌, ℕ, zero, suc, ◌+◌, ◌-◌, ◌*◌, ◌/◌, ◌%◌, ◌^◌, ◌<◌, ◌≤◌, ◌∙◌, ap, refl, Bool, true, false, ltb, ltb-true, ltb-false, List, [], ◌∷◌, length, reverse, arith, ℤ, pos, negsuc, mod-eq_of_lt}
use Rattle.std.proofs.Math.Nat.{pow-suc}
use Rattle.std.specs.Int.{w32, from_be_bytes}
use Rattle.std.specs.List.{All}
use Rattle.std.proofs.lemmas.Int.{ints}
use Rattle.std.proofs.lemmas.List.Elements.{All-head, All-tail}
use Rattle.stream_model.specs.Numbers.{IsItem, numbers_in, residue, centred, wrap}
use Rattle.stream_model.specs.declared.vocabulary.ItemType.{ItemType}
use Rattle.stream_model.specs.declared.vocabulary.ItemType.TheVariants.{Byte, Short, Int}
use Rattle.raw_items.specs.Values.{number_of, low_bytes}

-- each number is that of a byte
abbrev pub AreBytes : List ℕ → Type 0
AreBytes xs = All (λ b. b < 256) xs

pub length-low_bytes : (n x : ℕ) → length (low_bytes n x) ≡ n
length-low_bytes zero x = refl
length-low_bytes (suc n) x = ap (λ k. suc k) (length-low_bytes n (x / 256))

-- the bytes of a number give it back
pub number_of-low_bytes : (n x : ℕ) → x < 256 ^ n → number_of (low_bytes n x) ≡ x
number_of-low_bytes zero x small = omega arith
number_of-low_bytes (suc n) x small =
    let power : 256 ^ suc n ≡ 256 ^ n * 256 = pow-suc 256 n in
    let less : x / 256 < 256 ^ n = omega arith in
    let back : number_of (low_bytes n (x / 256)) ≡ x / 256 = number_of-low_bytes n (x / 256) less in
    omega arith

-- a number gives the bytes back that it was made of
pub low_bytes-number_of : (bytes : List ℕ) → AreBytes bytes → low_bytes (length bytes) (number_of bytes) ≡ bytes
low_bytes-number_of [] small = refl
low_bytes-number_of (b ∷ bytes) small =
    let first : b < 256 = All-head (λ c. c < 256) b bytes small in
    let here : (b + 256 * number_of bytes) % 256 ≡ b = omega arith in
    let past : (b + 256 * number_of bytes) / 256 ≡ number_of bytes = omega arith in
    λ i. here i ∷ (ap (low_bytes (length bytes)) past ∙ low_bytes-number_of bytes (All-tail (λ c. c < 256) b bytes small)) i

-- and fits them
pub number_of-lt : (bytes : List ℕ) → AreBytes bytes → number_of bytes < 256 ^ length bytes
number_of-lt [] small = omega arith
number_of-lt (b ∷ bytes) small =
    let first : b < 256 = All-head (λ c. c < 256) b bytes small in
    let power : 256 ^ suc (length bytes) ≡ 256 ^ length bytes * 256 = pow-suc 256 (length bytes) in
    let others : number_of bytes < 256 ^ length bytes = number_of-lt bytes (All-tail (λ c. c < 256) b bytes small) in
    omega arith

centred_low : (m r : ℕ) → r < m / 2 → centred m r ≡ pos r
centred_low m r l = go (ltb r (m / 2)) refl
  where
    go : (t : Bool) → ltb r (m / 2) ≡ t → centred m r ≡ pos r
    go true e = rw e
    go false e = absurd (omega (arith, ltb-false _ _ e))

centred_high : (m r : ℕ) → m / 2 ≤ r → centred m r ≡ negsuc (m - 1 - r)
centred_high m r l = go (ltb r (m / 2)) refl
  where
    go : (t : Bool) → ltb r (m / 2) ≡ t → centred m r ≡ negsuc (m - 1 - r)
    go true e = absurd (omega (arith, ltb-true _ _ e))
    go false e = rw e

-- a number below m keeps its residue where it is put around 0
residue-centred : (m r : ℕ) → r < m → residue (centred m r) m ≡ r
residue-centred m r l = go (ltb r (m / 2)) refl
  where
    go : (t : Bool) → ltb r (m / 2) ≡ t → residue (centred m r) m ≡ r
    go true e = rw e (mod-eq_of_lt l)
    go false e =
        let back : (m - 1 - r) % m ≡ m - 1 - r = mod-eq_of_lt (omega arith) in
        rw e (omega arith)

-- and a number of that range is where its residue is put
centred-residue_pos : (m n : ℕ) → n < m / 2 → centred m (n % m) ≡ pos n
centred-residue_pos m n l =
    let same : n % m ≡ n = mod-eq_of_lt (omega arith) in
    ap (centred m) same ∙ centred_low m n l

centred-residue_neg : (m n : ℕ) → n < m / 2 → centred m (m - 1 - n % m) ≡ negsuc n
centred-residue_neg m n l =
    let same : n % m ≡ n = mod-eq_of_lt (omega arith) in
    let twice : m - 1 - (m - 1 - n) ≡ n = omega arith in
    ap (λ k. centred m (m - 1 - k)) same ∙ centred_high m (m - 1 - n) (omega arith) ∙ ap negsuc twice

-- the item of a residue has it
pub residue-wrap : (t : ItemType) (x : ℕ) → x < numbers_in t → residue (wrap t (pos x)) (numbers_in t) ≡ x
residue-wrap Byte x l = ap (λ k. k % 256) (mod-eq_of_lt l) ∙ mod-eq_of_lt l
residue-wrap Short x l = ap (λ k. residue (centred 65536 k) 65536) (mod-eq_of_lt l) ∙ residue-centred 65536 x l
residue-wrap Int x l = ap (λ k. residue (centred 4294967296 k) 4294967296) (mod-eq_of_lt l) ∙ residue-centred 4294967296 x l

pub residue_below : (t : ItemType) (z : ℤ) → IsItem t z → residue z (numbers_in t) < numbers_in t
residue_below Byte (pos n) h = omega arith
residue_below Byte (negsuc n) h = omega arith
residue_below Short (pos n) h = omega arith
residue_below Short (negsuc n) h = omega arith
residue_below Int (pos n) h = omega arith
residue_below Int (negsuc n) h = omega arith

-- and an item is that of its residue
pub wrap-residue : (t : ItemType) (z : ℤ) → IsItem t z → wrap t (pos (residue z (numbers_in t))) ≡ z
wrap-residue Byte (pos n) h =
    let small : n < 256 = omega (arith, ints, h.above, h.below) in
    ap (λ k. pos (k % 256)) (mod-eq_of_lt small) ∙ ap pos (mod-eq_of_lt small)
wrap-residue Byte (negsuc n) h = absurd (omega (arith, ints, h.above, h.below))
wrap-residue Short (pos n) h =
    let small : n < 65536 / 2 = omega (arith, ints, h.above, h.below) in
    let once : n % 65536 % 65536 ≡ n % 65536 = omega arith in
    ap (centred 65536) once ∙ centred-residue_pos 65536 n small
wrap-residue Short (negsuc n) h =
    let small : n < 65536 / 2 = omega (arith, ints, h.above, h.below) in
    let once : (65536 - 1 - n % 65536) % 65536 ≡ 65536 - 1 - n % 65536 = omega arith in
    ap (centred 65536) once ∙ centred-residue_neg 65536 n small
wrap-residue Int (pos n) h =
    let small : n < 4294967296 / 2 = omega (arith, ints, h.above, h.below) in
    let once : n % 4294967296 % 4294967296 ≡ n % 4294967296 = omega arith in
    ap (centred 4294967296) once ∙ centred-residue_pos 4294967296 n small
wrap-residue Int (negsuc n) h =
    let small : n < 4294967296 / 2 = omega (arith, ints, h.above, h.below) in
    let once : (4294967296 - 1 - n % 4294967296) % 4294967296 ≡ 4294967296 - 1 - n % 4294967296 = omega arith in
    ap (centred 4294967296) once ∙ centred-residue_neg 4294967296 n small

-- four bytes, the highest first
pub number_of-reverse-four : (bytes : List ℕ) → length bytes ≡ 4 → number_of (reverse bytes) ≡ from_be_bytes w32 bytes
number_of-reverse-four [] e = absurd (omega arith)
number_of-reverse-four (a ∷ []) e = absurd (omega arith)
number_of-reverse-four (a ∷ b ∷ []) e = absurd (omega arith)
number_of-reverse-four (a ∷ b ∷ c ∷ []) e = absurd (omega arith)
number_of-reverse-four (a ∷ b ∷ c ∷ d ∷ []) e = omega arith
number_of-reverse-four (a ∷ b ∷ c ∷ d ∷ x ∷ xs) e = absurd (omega arith)
