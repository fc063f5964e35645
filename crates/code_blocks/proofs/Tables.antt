-- A division by a table: what eight bits do to a register is linear in both.
use Rattle.std.proofs.Common.{◌≡◌, ℕ, zero, suc, ◌+◌, ◌-◌, ◌*◌, ◌/◌, ◌%◌, ◌^◌, ◌<◌, ◌≤◌, List, [], ◌∷◌, mod-eq_of_lt, refl, arith, ap, subst, sym, ◌∙◌}
use Rattle.std.specs.Prelude.{bit_xor, bit_and}
use Rattle.std.specs.Int.Bits.{xor_assoc, xor_self, xor_zero_l, xor_zero_r, xor_shifted}
use Rattle.std.proofs.lemmas.Nat.{xor_comm, xor_lt, xor_shr, xor_mod, xor_block, pow-add, mod-pow-add, pow_pos, mod_below, div_below, mod-mul-add, div-mul-add, div-add-mod', and_mask}
use Rattle.std.proofs.Math.Nat.{pow-suc, pow-le-pow_right}
use Rattle.kind_model.specs.Codes.{divided, remainder}
use Rattle.code_blocks.specs.Divided.{bits_of_byte, entry}

-- two sums of two, modulo 2 in each place
crossed : (a b c d : ℕ) → bit_xor (bit_xor a b) (bit_xor c d) ≡ bit_xor (bit_xor a c) (bit_xor b d)
crossed a b c d =
    xor_assoc a b (bit_xor c d) ∙ ap (bit_xor a) (sym (xor_assoc b c d) ∙ ap (λ z. bit_xor z d) (xor_comm b c) ∙ xor_assoc c b d) ∙ sym (xor_assoc a c (bit_xor b d))

-- a bit times a number
times_bit : (e f p : ℕ) → e < 2 → f < 2 → bit_xor e f * p ≡ bit_xor (e * p) (f * p)
times_bit zero zero p h k = let none : 0 * p ≡ 0 = omega arith in none ∙ sym (xor_self (0 * p))
times_bit zero (suc zero) p h k = let none : 0 * p ≡ 0 = omega arith in sym (ap (λ n. bit_xor n (1 * p)) none ∙ xor_zero_l (1 * p))
times_bit (suc zero) zero p h k = let none : 0 * p ≡ 0 = omega arith in sym (ap (bit_xor (1 * p)) none ∙ xor_zero_r (1 * p))
times_bit (suc zero) (suc zero) p h k = let none : 0 * p ≡ 0 = omega arith in none ∙ sym (xor_self (1 * p))
times_bit (suc (suc e)) f p h k = absurd (omega arith)
times_bit e (suc (suc f)) p h k = absurd (omega arith)

double-xor : (r s : ℕ) → 2 * bit_xor r s ≡ bit_xor (2 * r) (2 * s)
double-xor r s =
    let one : bit_xor (r * 2 ^ 1 + 0) (s * 2 ^ 1 + 0) ≡ bit_xor r s * 2 ^ 1 + bit_xor 0 0 = xor_block 1 r s 0 0 (omega arith) (omega arith) in
    let r_is : r * 2 ^ 1 + 0 ≡ 2 * r = omega arith in
    let s_is : s * 2 ^ 1 + 0 ≡ 2 * s = omega arith in
    let both : 2 * bit_xor r s ≡ bit_xor r s * 2 ^ 1 + bit_xor 0 0 = omega (arith, xor_self 0) in
    both ∙ sym one ∙ (λ i. bit_xor (r_is i) (s_is i))

-- a power of two is twice the one before it
twice-power : (w : ℕ) → 1 ≤ w → 2 ^ w ≡ 2 * 2 ^ (w - 1)
twice-power w some = ap (λ n. 2 ^ n) (omega (arith, some)) ∙ pow-suc 2 (w - 1) ∙ omega arith

-- no bits are left of a number by a greater one
div_zero : (l q : ℕ) → l < q → l / q ≡ 0
div_zero l q h = let near : l / q < 1 = div_below l q 1 (omega (arith, h)) (omega (arith, h)) in omega (arith, near)

module _ (w p : ℕ) (some : 1 ≤ w) (small : p < 2 ^ w) where
  -- the highest bit of a register
  top_less : (r : ℕ) → r < 2 ^ w → r / 2 ^ (w - 1) < 2
  top_less r h = div_below r (2 ^ (w - 1)) 2 (pow_pos (w - 1)) (omega (arith, h, twice-power w some))

  pub divided-less : (r b : ℕ) → r < 2 ^ w → b < 2 → divided w p r b < 2 ^ w
  divided-less r b h g =
      let bit : bit_xor (r / 2 ^ (w - 1)) b < 2 = xor_lt 1 (r / 2 ^ (w - 1)) b (top_less r h) g in
      xor_lt w (2 * r % 2 ^ w) (bit_xor (r / 2 ^ (w - 1)) b * p) (mod_below (2 * r) (2 ^ w) (pow_pos w)) (few (bit_xor (r / 2 ^ (w - 1)) b) p (2 ^ w) bit small)
    where
      few : (e p q : ℕ) → e < 2 → p < q → e * p < q
      few zero p q h k = omega (arith, k)
      few (suc zero) p q h k = omega (arith, k)
      few (suc (suc e)) p q h k = absurd (omega (arith, h))

  divided-xor : (r s b c : ℕ) → r < 2 ^ w → s < 2 ^ w → b < 2 → c < 2 → divided w p (bit_xor r s) (bit_xor b c) ≡ bit_xor (divided w p r b) (divided w p s c)
  divided-xor r s b c rh sh bh ch =
      let moved : 2 * bit_xor r s % 2 ^ w ≡ bit_xor (2 * r % 2 ^ w) (2 * s % 2 ^ w) = ap (λ z. z % 2 ^ w) (double-xor r s) ∙ xor_mod (2 * r) (2 * s) w in
      let tops : bit_xor (bit_xor r s / 2 ^ (w - 1)) (bit_xor b c) ≡ bit_xor (bit_xor (r / 2 ^ (w - 1)) b) (bit_xor (s / 2 ^ (w - 1)) c) =
      ap (λ z. bit_xor z (bit_xor b c)) (xor_shr r s (w - 1)) ∙ crossed (r / 2 ^ (w - 1)) (s / 2 ^ (w - 1)) b c in
      let added : bit_xor (bit_xor r s / 2 ^ (w - 1)) (bit_xor b c) * p ≡ bit_xor (bit_xor (r / 2 ^ (w - 1)) b * p) (bit_xor (s / 2 ^ (w - 1)) c * p) =
      ap (λ z. z * p) tops
      ∙ times_bit (bit_xor (r / 2 ^ (w - 1)) b) (bit_xor (s / 2 ^ (w - 1)) c) p (xor_lt 1 (r / 2 ^ (w - 1)) b (top_less r rh) bh) (xor_lt 1 (s / 2 ^ (w - 1)) c (top_less s sh) ch) in
      (λ i. bit_xor (moved i) (added i)) ∙ crossed (2 * r % 2 ^ w) (2 * s % 2 ^ w) (bit_xor (r / 2 ^ (w - 1)) b * p) (bit_xor (s / 2 ^ (w - 1)) c * p)

-- the k lowest bits of a number, the highest of these first
abbrev pub high_first : ℕ → ℕ → List ℕ
high_first zero z = []
high_first (suc k) z = (z / 2 ^ k % 2) ∷ high_first k z

pub bits-of_byte : (z : ℕ) → bits_of_byte z ≡ high_first 8 z
bits-of_byte z = refl

bit_less : (n : ℕ) → n % 2 < 2
bit_less n = omega arith

module _ (w p : ℕ) (some : 1 ≤ w) (small : p < 2 ^ w) where
  pub remainder-less : (k r z : ℕ) → r < 2 ^ w → remainder w p r (high_first k z) < 2 ^ w
  remainder-less zero r z h = h
  remainder-less (suc k) r z h = remainder-less k (divided w p r (z / 2 ^ k % 2)) z (divided-less w p some small r (z / 2 ^ k % 2) h (bit_less (z / 2 ^ k)))

  remainder-xor :
      (k r s y z : ℕ) → r < 2 ^ w → s < 2 ^ w →
      remainder w p (bit_xor r s) (high_first k (bit_xor y z)) ≡ bit_xor (remainder w p r (high_first k y)) (remainder w p s (high_first k z))
  remainder-xor zero r s y z rh sh = refl
  remainder-xor (suc k) r s y z rh sh =
      let bit : bit_xor y z / 2 ^ k % 2 ≡ bit_xor (y / 2 ^ k % 2) (z / 2 ^ k % 2) = ap (λ n. n % 2) (xor_shr y z k) ∙ xor_mod (y / 2 ^ k) (z / 2 ^ k) 1 in
      let step : divided w p (bit_xor r s) (bit_xor y z / 2 ^ k % 2) ≡ bit_xor (divided w p r (y / 2 ^ k % 2)) (divided w p s (z / 2 ^ k % 2)) =
      ap (divided w p (bit_xor r s)) bit ∙ divided-xor w p some small r s (y / 2 ^ k % 2) (z / 2 ^ k % 2) rh sh (bit_less (y / 2 ^ k)) (bit_less (z / 2 ^ k)) in
      ap (λ v. remainder w p v (high_first k (bit_xor y z))) step
      ∙ remainder-xor k (divided w p r (y / 2 ^ k % 2)) (divided w p s (z / 2 ^ k % 2)) y z
      (divided-less w p some small r (y / 2 ^ k % 2) rh (bit_less (y / 2 ^ k))) (divided-less w p some small s (z / 2 ^ k % 2) sh (bit_less (z / 2 ^ k)))

-- 0 has no bits
no_bit : (k : ℕ) → 0 / 2 ^ k % 2 ≡ 0
no_bit k = ap (λ n. n % 2) (div_zero 0 (2 ^ k) (pow_pos k))

-- bits 0 move a register up that has no bit so high
zeros-move : (w p k m l : ℕ) → w ≡ k + m → l < 2 ^ m → remainder w p l (high_first k 0) ≡ l * 2 ^ k
zeros-move w p zero m l e h = omega arith
zeros-move w p (suc k) m l e h =
    let whole : 2 ^ w ≡ 2 * 2 ^ k * 2 ^ m = ap (λ n. 2 ^ n) e ∙ pow-add 2 (suc k) m ∙ ap (λ n. n * 2 ^ m) (pow-suc 2 k ∙ omega arith) in
    let below_top : w - 1 ≡ k + m = omega (arith, e) in
    let half : 2 ^ (w - 1) ≡ 2 ^ k * 2 ^ m = ap (λ n. 2 ^ n) below_top ∙ pow-add 2 k m in
    let some : 1 ≤ 2 ^ k = omega (arith, pow_pos k) in
    let far : l < 2 ^ k * 2 ^ m = less_times l (2 ^ m) (2 ^ k) h some in
    let none : l / 2 ^ (w - 1) ≡ 0 = div_zero l (2 ^ (w - 1)) (omega (arith, far, half)) in
    let zero_bit : 0 / 2 ^ k % 2 ≡ 0 = no_bit k in
    let fits : 2 * l % 2 ^ w ≡ 2 * l = mod-eq_of_lt (twice_less l (2 ^ k) (2 ^ m) (2 ^ w) far whole) in
    let gone : bit_xor 0 0 * p ≡ 0 = ap (λ n. n * p) (xor_self 0) ∙ omega arith in
    let step : divided w p l (0 / 2 ^ k % 2) ≡ 2 * l = (λ i. bit_xor (fits i) (bit_xor (none i) (zero_bit i) * p)) ∙ ap (bit_xor (2 * l)) gone ∙ xor_zero_r (2 * l) in
    ap (λ r. remainder w p r (high_first k 0)) step
    ∙ zeros-move w p k (suc m) (2 * l) (e ∙ omega arith) (omega (arith, h, pow-suc 2 m))
    ∙ times l k
  where
    less_times : (l q c : ℕ) → l < q → 1 ≤ c → l < c * q
    less_times l q c h some = grind arith

    twice_less : (l c q w : ℕ) → l < c * q → w ≡ 2 * c * q → 2 * l < w
    twice_less l c q w h e = rw e (grind arith)

    times : (l k : ℕ) → 2 * l * 2 ^ k ≡ l * 2 ^ suc k
    times l k = let next : 2 ^ suc k ≡ 2 ^ k * 2 = pow-suc 2 k ∙ omega arith in rw next (grind arith)

-- a register whose highest bits are those that come is left with none
cancelled : (w p k m z : ℕ) → w ≡ k + m → remainder w p (z % 2 ^ k * 2 ^ m) (high_first k z) ≡ 0
cancelled w p zero m z e = let none : z % 2 ^ 0 ≡ 0 = omega arith in ap (λ n. n * 2 ^ m) none ∙ omega arith
cancelled w p (suc k) m z e =
    let low = z % 2 ^ k in
    let bit = z / 2 ^ k % 2 in
    let parts : z % 2 ^ suc k ≡ bit * 2 ^ k + low = ap (λ n. z % 2 ^ n) (omega arith) ∙ mod-pow-add z 1 k ∙ omega arith in
    let here : z % 2 ^ suc k * 2 ^ m ≡ bit * 2 ^ (w - 1) + low * 2 ^ m =
    ap (λ n. n * 2 ^ m) parts ∙ spread bit (2 ^ k) low (2 ^ m) (2 ^ (w - 1)) (ap (λ n. 2 ^ n) (omega (arith, e)) ∙ pow-add 2 k m) in
    let low_less : low * 2 ^ m < 2 ^ (w - 1) = room low (2 ^ k) (2 ^ m) (2 ^ (w - 1)) (mod_below z (2 ^ k) (pow_pos k)) (pow_pos m) (ap (λ n. 2 ^ n) (omega (arith, e)) ∙ pow-add 2 k m) in
    let top : z % 2 ^ suc k * 2 ^ m / 2 ^ (w - 1) ≡ bit = ap (λ n. n / 2 ^ (w - 1)) here ∙ div-mul-add bit (2 ^ (w - 1)) (low * 2 ^ m) low_less in
    let whole : 2 ^ w ≡ 2 * 2 ^ (w - 1) = ap (λ n. 2 ^ n) (omega (arith, e)) ∙ pow-suc 2 (w - 1) ∙ omega arith in
    let next : 2 ^ suc m ≡ 2 * 2 ^ m = pow-suc 2 m ∙ omega arith in
    let moved : 2 * (z % 2 ^ suc k * 2 ^ m) % 2 ^ w ≡ low * 2 ^ suc m =
    ap (λ n. n % 2 ^ w) (twice _ bit (2 ^ (w - 1)) low (2 ^ m) (2 ^ w) (2 ^ suc m) here whole next)
    ∙ mod-mul-add bit (2 ^ w) (low * 2 ^ suc m) (rest low (2 ^ m) (2 ^ (w - 1)) (2 ^ w) (2 ^ suc m) low_less whole next) in
    let gone : bit_xor bit bit * p ≡ 0 = ap (λ n. n * p) (xor_self bit) ∙ omega arith in
    let step : divided w p (z % 2 ^ suc k * 2 ^ m) bit ≡ low * 2 ^ suc m =
    (λ i. bit_xor (moved i) (bit_xor (top i) bit * p)) ∙ ap (bit_xor (low * 2 ^ suc m)) gone ∙ xor_zero_r (low * 2 ^ suc m) in
    ap (λ r. remainder w p r (high_first k z)) step ∙ cancelled w p k (suc m) z (e ∙ omega arith)
  where
    spread : (b c l q h : ℕ) → h ≡ c * q → (b * c + l) * q ≡ b * h + l * q
    spread b c l q h e = rw e (grind arith)

    room : (l c q h : ℕ) → l < c → 1 ≤ q → h ≡ c * q → l * q < h
    room l c q h less some e = rw e (grind arith)

    twice : (r b h l q w v : ℕ) → r ≡ b * h + l * q → w ≡ 2 * h → v ≡ 2 * q → 2 * r ≡ b * w + l * v
    twice r b h l q w v here whole next = rw (here, whole, next) (grind arith)

    rest : (l q h w v : ℕ) → l * q < h → w ≡ 2 * h → v ≡ 2 * q → l * v < w
    rest l q h w v less whole next = rw (whole, next) (grind arith)

-- eight bits of a byte move the register up by eight, and add the entry of the table at the sum of its highest bits and the byte
pub by_table :
    (w p r z : ℕ) → 8 ≤ w → p < 2 ^ w → r < 2 ^ w → z < 256 → remainder w p r (bits_of_byte z) ≡ bit_xor (r * 256 % 2 ^ w) (entry w p (bit_xor (r / 2 ^ (w - 8)) z))
by_table w p r z least small fits byte =
    let q = w - 8 in
    let h = r / 2 ^ q in
    let l = r % 2 ^ q in
    let split : w ≡ 8 + q = omega (arith, least) in
    let whole : 2 ^ w ≡ 256 * 2 ^ q = ap (λ n. 2 ^ n) split ∙ pow-add 2 8 q in
    let l_less : l < 2 ^ q = mod_below r (2 ^ q) (pow_pos q) in
    let h_less : h < 256 = div_below r (2 ^ q) 256 (pow_pos q) (omega (arith, fits, whole)) in
    let both : bit_xor h z < 256 = xor_lt 8 h z h_less byte in
    let some : 1 ≤ w = omega (arith, least) in
    let whole_register : r ≡ h * 2 ^ q + l = sym (div-add-mod' r (2 ^ q)) in
    let parts : r ≡ bit_xor (h * 2 ^ q) l = whole_register ∙ sym (xor_shifted h q l l_less) in
    let high : (a : ℕ) → a < 256 → a * 2 ^ q < 2 ^ w = λ a less. rw whole (bound a (2 ^ q) less (pow_pos q)) in
    let l_fits : l < 2 ^ w = omega (arith, l_less, whole) in
    let first : remainder w p r (high_first 8 z) ≡ bit_xor (remainder w p (h * 2 ^ q) (high_first 8 z)) (remainder w p l (high_first 8 0)) =
    (λ i. remainder w p (parts i) (high_first 8 (sym (xor_zero_r z) i))) ∙ remainder-xor w p some small 8 (h * 2 ^ q) l z 0 (high h h_less) l_fits in
    let up : remainder w p l (high_first 8 0) ≡ r * 256 % 2 ^ w =
    zeros-move w p 8 q l split l_less ∙ sym (rest r h l (2 ^ q) (2 ^ w) whole l_less whole_register) in
    let back : h * 2 ^ q ≡ bit_xor (bit_xor h z * 2 ^ q) (z * 2 ^ q) =
    sym (spread (bit_xor h z) z q ∙ ap (λ n. n * 2 ^ q) (xor_assoc h z z ∙ ap (bit_xor h) (xor_self z) ∙ xor_zero_r h)) in
    let gone : remainder w p (z * 2 ^ q) (high_first 8 z) ≡ 0 =
    ap (λ n. remainder w p (n * 2 ^ q) (high_first 8 z)) (sym (mod-eq_of_lt byte)) ∙ cancelled w p 8 q z split in
    let at_table : remainder w p (h * 2 ^ q) (high_first 8 z) ≡ entry w p (bit_xor h z) =
    (λ i. remainder w p (back i) (high_first 8 (sym (xor_zero_l z) i)))
    ∙ remainder-xor w p some small 8 (bit_xor h z * 2 ^ q) (z * 2 ^ q) 0 z (high (bit_xor h z) both) (high z byte)
    ∙ ap (bit_xor (remainder w p (bit_xor h z * 2 ^ q) (high_first 8 0))) gone ∙ xor_zero_r _ ∙ sym (ap (remainder w p (bit_xor h z * 2 ^ q)) (bits-of_byte 0)) in
    ap (remainder w p r) (bits-of_byte z) ∙ first ∙ (λ i. bit_xor (at_table i) (up i)) ∙ xor_comm (entry w p (bit_xor h z)) (r * 256 % 2 ^ w)
  where
    bound : (a q : ℕ) → a < 256 → 1 ≤ q → a * q < 256 * q
    bound a q less some = grind arith

    spread : (a b k : ℕ) → bit_xor (a * 2 ^ k) (b * 2 ^ k) ≡ bit_xor a b * 2 ^ k
    spread a b k =
        let a_is : a * 2 ^ k ≡ a * 2 ^ k + 0 = omega arith in
        let b_is : b * 2 ^ k ≡ b * 2 ^ k + 0 = omega arith in
        (λ i. bit_xor (a_is i) (b_is i)) ∙ xor_block k a b 0 0 (pow_pos k) (pow_pos k) ∙ omega (arith, xor_self 0)

    rest : (r h l q w : ℕ) → w ≡ 256 * q → l < q → r ≡ h * q + l → r * 256 % w ≡ l * 256
    rest r h l q w whole less parts =
        let turned : r * 256 ≡ h * w + l * 256 = rw (parts, whole) (grind arith) in
        ap (λ n. n % w) turned ∙ mod-mul-add h w (l * 256) (omega (arith, whole, less))

-- a bit 0 and then others
pub first-zero : (w p r m : ℕ) → remainder w p r (high_first (suc m) 0) ≡ remainder w p (divided w p r 0) (high_first m 0)
first-zero w p r m = ap (λ b. remainder w p (divided w p r b) (high_first m 0)) (no_bit m)

-- a bit 0 adds the polynomial where the highest bit is 1
pub divided-none : (w p r : ℕ) → r / 2 ^ (w - 1) ≡ 0 → divided w p r 0 ≡ 2 * r % 2 ^ w
divided-none w p r e =
    let gone : bit_xor 0 0 * p ≡ 0 = ap (λ n. n * p) (xor_self 0) ∙ omega arith in
    (λ i. bit_xor (2 * r % 2 ^ w) (bit_xor (e i) 0 * p)) ∙ ap (bit_xor (2 * r % 2 ^ w)) gone ∙ xor_zero_r (2 * r % 2 ^ w)

pub divided-some : (w p r : ℕ) → 1 ≤ w → r < 2 ^ w → 1 ≤ r / 2 ^ (w - 1) → divided w p r 0 ≡ bit_xor (2 * r % 2 ^ w) p
divided-some w p r some h top =
    let less : r / 2 ^ (w - 1) < 2 = div_below r (2 ^ (w - 1)) 2 (pow_pos (w - 1)) (omega (arith, h, twice-power w some)) in
    let one : r / 2 ^ (w - 1) ≡ 1 = omega (arith, less, top) in
    let once : bit_xor 1 0 * p ≡ p = ap (λ n. n * p) (xor_zero_r 1) ∙ omega arith in
    (λ i. bit_xor (2 * r % 2 ^ w) (bit_xor (one i) 0 * p)) ∙ ap (bit_xor (2 * r % 2 ^ w)) once

-- words of 64 bits: a register is a small number, and a mask keeps its lowest bits
pub few_bits : (w r : ℕ) → w ≤ 32 → r < 2 ^ w → r < 4294967296
few_bits w r few h = let most : 2 ^ w ≤ 2 ^ 32 = pow-le-pow_right (omega arith) few in omega (arith, most, h)

pub kept-low : (w n : ℕ) → w ≤ 32 → n < 18446744073709551616 → bit_and (n % 18446744073709551616) (1 * 2 ^ w % 18446744073709551616 - 1) ≡ n % 2 ^ w
kept-low w n few h =
    let most : 2 ^ w ≤ 2 ^ 32 = pow-le-pow_right (omega arith) few in
    let one : 1 * 2 ^ w ≡ 2 ^ w = omega arith in
    let power : 1 * 2 ^ w % 18446744073709551616 ≡ 2 ^ w = ap (λ p. p % 18446744073709551616) one ∙ mod-eq_of_lt (omega (arith, most)) in
    let whole : n % 18446744073709551616 ≡ n = mod-eq_of_lt h in
    (λ i. bit_and (whole i) (power i - 1)) ∙ and_mask n w

-- a byte at the upper end of a register
pub at-upper-end : (w top : ℕ) → 8 ≤ w → w ≤ 32 → top < 256 → (top * 2 ^ (w - 8) % 18446744073709551616 ≡ top * 2 ^ (w - 8)) × (top * 2 ^ (w - 8) < 2 ^ w)
at-upper-end w top least few h =
    let split : w ≡ 8 + (w - 8) = omega (arith, least) in
    let whole : 2 ^ w ≡ 256 * 2 ^ (w - 8) = ap (λ n. 2 ^ n) split ∙ pow-add 2 8 (w - 8) in
    let most : 2 ^ w ≤ 2 ^ 32 = pow-le-pow_right (omega arith) few in
    let less : top * 2 ^ (w - 8) < 2 ^ w = rw whole (bound top (2 ^ (w - 8)) h (pow_pos (w - 8))) in (mod-eq_of_lt (omega (arith, less, most)), less)
  where
    bound : (a q : ℕ) → a < 256 → 1 ≤ q → a * q < 256 * q
    bound a q less some = grind arith

-- the sum of a register that was moved and an entry has no more bits
pub sum-less : (w n p : ℕ) → p < 2 ^ w → bit_xor (n % 2 ^ w) p < 2 ^ w
sum-less w n p h = xor_lt w (n % 2 ^ w) p (mod_below n (2 ^ w) (pow_pos w)) h

-- the eight highest bits of a register, with a byte added
pub upper-byte : (w r z : ℕ) → 8 ≤ w → r < 2 ^ w → z < 256 → bit_xor (r / 2 ^ (w - 8)) z < 256
upper-byte w r z least h byte =
    let split : w ≡ 8 + (w - 8) = omega (arith, least) in
    let whole : 2 ^ w ≡ 256 * 2 ^ (w - 8) = ap (λ n. 2 ^ n) split ∙ pow-add 2 8 (w - 8) in
    xor_lt 8 (r / 2 ^ (w - 8)) z (div_below r (2 ^ (w - 8)) 256 (pow_pos (w - 8)) (omega (arith, h, whole))) byte

-- an entry has no more bits than a register
pub entry-less : (w p top : ℕ) → 8 ≤ w → p < 2 ^ w → top < 256 → entry w p top < 2 ^ w
entry-less w p top least small h =
    let split : w ≡ 8 + (w - 8) = omega (arith, least) in
    let whole : 2 ^ w ≡ 256 * 2 ^ (w - 8) = ap (λ n. 2 ^ n) split ∙ pow-add 2 8 (w - 8) in
    let less : top * 2 ^ (w - 8) < 2 ^ w = rw whole (bound top (2 ^ (w - 8)) h (pow_pos (w - 8))) in
    subst (λ bs. remainder w p (top * 2 ^ (w - 8)) bs < 2 ^ w) (sym (bits-of_byte 0)) (remainder-less w p (omega (arith, least)) small 8 (top * 2 ^ (w - 8)) 0 less)
  where
    bound : (a q : ℕ) → a < 256 → 1 ≤ q → a * q < 256 * q
    bound a q less some = grind arith
