-- Matrices over two that make many steps of a register.
use Rattle.std.proofs.Common.{◌≡◌, ◌≢◌, ℕ, zero, suc, ◌+◌, ◌-◌, ◌*◌, ◌/◌, ◌%◌, ◌^◌, ◌<◌, ◌≤◌, List, [], ◌∷◌, ◌++◌, length, map, sum, get_or, set, take, drop, refl, arith, ap, ap₂, sym, ◌∙◌, subst, inl, inr}
use Rattle.std.specs.Prelude.{◌⊎◌, bit_xor}
use Rattle.std.specs.Int.{bit_at}
use Rattle.std.specs.Int.Bits.{xor_self, xor_zero_l, xor_zero_r}
use Rattle.std.proofs.Math.ListN.{drop_of_length-le}
use Rattle.std.proofs.Math.Nat.{pow-suc, pow-le-pow_right}
use Rattle.std.proofs.Math.Seq.{drop-cons, take-length}
use Rattle.std.proofs.lemmas.List.{take_more, take_more_set, map-append}
use Rattle.std.proofs.lemmas.List.FromFn.{map-range_with_len_more}
use Rattle.std.proofs.lemmas.Nat.{xor_mod, xor_shr, xor_block, pow_pos, div_below, mul-mod_second}
use Rattle.std.proofs.lemmas.Nat.Bits.{bit_at_xor, same_from_bits, bit_at-lt}
use Rattle.stream_model.specs.Lists.{numbers_from, below}
use Rattle.kind_model.specs.Bits.{place_in, places_of, masked, register_of, shifted}
use Rattle.shape_laws.specs.Shaped.{sum-cons, map-same, get_or-map_numbers}
use Rattle.kind_laws.specs.Bits.{register_of-places}
use Rattle.kind_laws.specs.Registers.{AreBits-shifted, register_of-less, shifted-out, shifted-word}
use Rattle.slice_laws.proofs.Jumps.{register-later}
use Rattle.bit_blocks.specs.Jumps.{product, stepped, register_after, MakeSteps}

-- sums bit by bit may be taken in another order
xor-exchange : (a b c d : ℕ) → bit_xor (bit_xor a b) (bit_xor c d) ≡ bit_xor (bit_xor a c) (bit_xor b d)
xor-exchange a b c d =
    same_from_bits _ _ (λ i.
    let l = bit_at_xor (bit_xor a b) (bit_xor c d) i in
    let r = bit_at_xor (bit_xor a c) (bit_xor b d) i in
    let ab = bit_at_xor a b i in
    let cd = bit_at_xor c d i in
    let ac = bit_at_xor a c i in
    let bd = bit_at_xor b d i in
    l ∙ ap₂ (λ x y. (x + y) % 2) ab cd ∙ parity (bit_at a i) (bit_at b i) (bit_at c i) (bit_at d i) ∙ sym (ap₂ (λ x y. (x + y) % 2) ac bd) ∙ sym r)
  where
    parity : (p q r s : ℕ) → ((p + q) % 2 + (r + s) % 2) % 2 ≡ ((p + r) % 2 + (q + s) % 2) % 2
    parity p q r s = omega arith

-- the lowest bit of a sum, and the others
low-xor : (a b : ℕ) → bit_xor a b % 2 ≡ bit_xor (a % 2) (b % 2)
low-xor a b = xor_mod a b 1

high-xor : (a b : ℕ) → bit_xor a b / 2 ≡ bit_xor (a / 2) (b / 2)
high-xor a b = xor_shr a b 1

xor-assoc : (a b c : ℕ) → bit_xor (bit_xor a b) c ≡ bit_xor a (bit_xor b c)
xor-assoc a b c =
    ap (λ z. bit_xor (bit_xor a b) z) (sym (xor_zero_l c)) ∙ xor-exchange a b 0 c ∙ ap (λ z. bit_xor z (bit_xor b c)) (xor_zero_r a)

zero-times : (c : ℕ) → 0 * c ≡ 0
zero-times c = omega arith

one-times : (c : ℕ) → 1 * c ≡ c
one-times c = omega arith

-- a column goes into a sum as often as it does into both together
column-xor : (p q c : ℕ) → p < 2 → q < 2 → bit_xor p q * c ≡ bit_xor (p * c) (q * c)
column-xor zero zero c h k = zero-times c ∙ sym (xor_self (0 * c))
column-xor zero (suc zero) c h k = sym (ap (λ z. bit_xor z (1 * c)) (zero-times c) ∙ xor_zero_l (1 * c))
column-xor (suc zero) zero c h k = sym (ap (λ z. bit_xor (1 * c) z) (zero-times c) ∙ xor_zero_r (1 * c))
column-xor (suc zero) (suc zero) c h k = zero-times c ∙ sym (xor_self (1 * c))
column-xor (suc (suc p)) q c h k = absurd (omega arith)
column-xor p (suc (suc q)) c h k = absurd (omega arith)

pub product-zero : (cs : List ℕ) → product cs 0 ≡ 0
unfolding product
product-zero [] = refl
product-zero (c ∷ cs) = ap (λ z. bit_xor z (product cs 0)) (zero-times c) ∙ xor_zero_l (product cs 0) ∙ product-zero cs

-- a matrix is linear
pub product-xor : (cs : List ℕ) (a b : ℕ) → product cs (bit_xor a b) ≡ bit_xor (product cs a) (product cs b)
unfolding product
product-xor [] a b = sym (xor_self 0)
product-xor (c ∷ cs) a b =
    ap₂ (λ x y. bit_xor (x * c) (product cs y)) (low-xor a b) (high-xor a b)
    ∙ ap₂ bit_xor (column-xor (a % 2) (b % 2) c (omega arith) (omega arith)) (product-xor cs (a / 2) (b / 2))
    ∙ xor-exchange (a % 2 * c) (b % 2 * c) (product cs (a / 2)) (product cs (b / 2))

product-column : (cs : List ℕ) (p c : ℕ) → p < 2 → product cs (p * c) ≡ p * product cs c
product-column cs zero c h = ap (product cs) (zero-times c) ∙ product-zero cs ∙ sym (zero-times (product cs c))
product-column cs (suc zero) c h = ap (product cs) (one-times c) ∙ sym (one-times (product cs c))
product-column cs (suc (suc p)) c h = absurd (omega arith)

-- a matrix times another, column by column
pub product-product : (cs ds : List ℕ) (word : ℕ) → product (map (product cs) ds) word ≡ product cs (product ds word)
unfolding product
product-product cs [] word = sym (product-zero cs)
product-product cs (d ∷ ds) word =
    ap₂ bit_xor (sym (product-column cs (word % 2) d (omega arith))) (product-product cs ds (word / 2))
    ∙ sym (product-xor cs (word % 2 * d) (product ds (word / 2)))

-- a linear function of words
pub record IsLinear (f : ℕ → ℕ) : Type 0 where
  pub sums : (a b : ℕ) → f (bit_xor a b) ≡ bit_xor (f a) (f b)

linear-zero : (f : ℕ → ℕ) → IsLinear f → f 0 ≡ 0
linear-zero f is = ap f (sym (xor_self 0)) ∙ is.sums 0 0 ∙ xor_self (f 0)

linear-column : (f : ℕ → ℕ) → IsLinear f → (p c : ℕ) → p < 2 → p * f c ≡ f (p * c)
linear-column f is zero c h = zero-times (f c) ∙ sym (linear-zero f is) ∙ ap f (sym (zero-times c))
linear-column f is (suc zero) c h = one-times (f c) ∙ ap f (sym (one-times c))
linear-column f is (suc (suc p)) c h = absurd (omega arith)

-- a word is its lowest bit and the others
word-parts : (word p j : ℕ) → p ≡ 2 ^ j → bit_xor (word % 2 * p) (word / 2 * 2 ^ suc j) ≡ word * p
word-parts word p j is =
    let double = pow-suc 2 j in
    let low : word % 2 < 2 = omega arith in
    let bound : word % 2 * p < 2 ^ suc j = below_double (word % 2) p (2 ^ suc j) low (let pos = pow_pos j in omega arith) (omega arith) in
    let front : 0 * 2 ^ suc j + word % 2 * p ≡ word % 2 * p = omega arith in
    let back : word / 2 * 2 ^ suc j + 0 ≡ word / 2 * 2 ^ suc j = omega arith in
    let both = xor_block (suc j) 0 (word / 2) (word % 2 * p) 0 bound (pow_pos (suc j)) in
    ap₂ bit_xor (sym front) (sym back) ∙ both ∙ ap₂ (λ x y. x * 2 ^ suc j + y) (xor_zero_l (word / 2)) (xor_zero_r (word % 2 * p)) ∙ whole (word / 2) (word % 2) word p (2 ^ suc j) (omega arith) (omega arith)
  where
    below_double : (r p m : ℕ) → r < 2 → 0 < p → p * 2 ≡ m → r * p < m
    below_double zero p m h k e = omega arith
    below_double (suc zero) p m h k e = omega arith
    below_double (suc (suc r)) p m h k e = absurd (omega arith)

    whole : (h l word p m : ℕ) → p * 2 ≡ m → h * 2 + l ≡ word → h * m + l * p ≡ word * p
    whole h l word p m e f = let a = ap (λ x. h * x) e in let b = ap (λ x. x * p) f in omega arith

-- a linear function has a matrix: what it makes of each place
pub product-linear : (f : ℕ → ℕ) → IsLinear f → (count j word : ℕ) → word < 2 ^ count → product (map (λ i. f (2 ^ i)) (numbers_from j count)) word ≡ f (word * 2 ^ j)
unfolding product
product-linear f is zero j word small =
    let none : word ≡ 0 = omega arith in
    let zero-word = ap (λ w. w * 2 ^ j) none in
    sym (linear-zero f is) ∙ ap f (omega arith)
product-linear f is (suc count) j word small =
    let double = pow-suc 2 count in
    let half : word / 2 < 2 ^ count = div_below word 2 (2 ^ count) (omega arith) (omega arith) in
    let next : j + 1 ≡ suc j = omega arith in
    ap₂ bit_xor (linear-column f is (word % 2) (2 ^ j) (omega arith)) (product-linear f is count (j + 1) (word / 2) half ∙ ap (λ n. f (word / 2 * 2 ^ n)) next)
    ∙ sym (is.sums (word % 2 * 2 ^ j) (word / 2 * 2 ^ suc j))
    ∙ ap f (word-parts word (2 ^ j) j refl)

-- of two bits
two-bits : (p q : ℕ) → p < 2 → q < 2 → bit_xor p q ≡ (p + q) % 2
two-bits zero zero h k = refl
two-bits zero (suc zero) h k = refl
two-bits (suc zero) zero h k = refl
two-bits (suc zero) (suc zero) h k = refl
two-bits (suc (suc p)) q h k = absurd (omega arith)
two-bits p (suc (suc q)) h k = absurd (omega arith)

-- sums are even or odd as their parts are
sum-parity : (f g h : ℕ → ℕ) → ((j : ℕ) → f j % 2 ≡ (g j + h j) % 2) → (a count : ℕ) →
    sum (map f (numbers_from a count)) % 2 ≡ (sum (map g (numbers_from a count)) + sum (map h (numbers_from a count))) % 2
sum-parity f g h each a zero = refl
sum-parity f g h each a (suc count) =
    let here = each a in
    let rest = sum-parity f g h each (a + 1) count in
    omega (
      arith,
      sum-cons (f a) (map f (numbers_from (a + 1) count)),
      sum-cons (g a) (map g (numbers_from (a + 1) count)),
      sum-cons (h a) (map h (numbers_from (a + 1) count)),
      here,
      rest,
    )

-- the sum over a mask, place by place
masked-places : (bits mask word : ℕ) → masked bits mask (places_of bits word) ≡ sum (map (λ j. place_in mask j * place_in word j) (numbers_from 1 bits))
masked-places bits mask word =
    ap sum (map-same _ _ 1 bits (λ j from to. ap (λ z. place_in mask j * z) (get_or-map_numbers (place_in word) 1 bits (j - 1) 0 (omega arith) ∙ ap (place_in word) (omega arith))))

parity-xor : (bits mask a b : ℕ) → masked bits mask (places_of bits (bit_xor a b)) % 2 ≡ (masked bits mask (places_of bits a) + masked bits mask (places_of bits b)) % 2
parity-xor bits mask a b =
    ap (λ s. s % 2) (masked-places bits mask (bit_xor a b))
    ∙ sum-parity (λ j. place_in mask j * place_in (bit_xor a b) j) (λ j. place_in mask j * place_in a j) (λ j. place_in mask j * place_in b j) each 1 bits
    ∙ sym (ap₂ (λ x y. (x + y) % 2) (masked-places bits mask a) (masked-places bits mask b))
  where
    each : (j : ℕ) → place_in mask j * place_in (bit_xor a b) j % 2 ≡ (place_in mask j * place_in a j + place_in mask j * place_in b j) % 2
    each j =
        ap (λ z. place_in mask j * z % 2) (bit_at_xor a b (j - 1))
        ∙ mul-mod_second (place_in mask j) (place_in a j + place_in b j) 2
        ∙ ap (λ z. z % 2) (omega arith)

-- a step is linear
pub step-linear : (bits mask : ℕ) → IsLinear (stepped bits mask)
step-linear bits mask = record {
  sums = λ a b.
      let p : ℕ → ℕ = λ w. masked bits mask (places_of bits w) % 2 in
      let low : (w : ℕ) → p w < 2 = λ w. (let m = masked bits mask (places_of bits w) in omega arith) in
      let bits_of : bit_xor (p a) (p b) ≡ p (bit_xor a b) =
      two-bits (p a) (p b) (low a) (low b)
      ∙ both (masked bits mask (places_of bits a)) (masked bits mask (places_of bits b))
      ∙ sym (parity-xor bits mask a b) in
      let order : (w : ℕ) → 2 * w + p w ≡ w * 2 ^ 1 + p w = λ w. omega arith in
      sym
      (sym (xor_mod (2 * a + p a) (2 * b + p b) bits)
      ∙ ap (λ z. z % 2 ^ bits)
      (ap₂ bit_xor (order a) (order b) ∙ xor_block 1 a b (p a) (p b) (low a) (low b) ∙ ap (λ z. bit_xor a b * 2 ^ 1 + z) bits_of ∙ sym (order (bit_xor a b))));
}
  where
    both : (m n : ℕ) → (m % 2 + n % 2) % 2 ≡ (m + n) % 2
    both m n = omega arith

after-one : (bits mask word : ℕ) → 1 ≤ bits → word < 2 ^ bits → register_after bits mask word 1 ≡ stepped bits mask word
after-one bits mask word some small =
    shifted-word bits mask word 0 some
    ∙ ap (λ z. (2 * register_of bits (places_of bits word) + z) % 2 ^ bits) (shifted-out bits mask word 0)
    ∙ ap (stepped bits mask) (register_of-places bits word small)

-- the matrix of a step, and that of twice as many steps
pub makes-one : (bits mask count : ℕ) (columns : List ℕ) → 1 ≤ bits → bits ≤ count → columns ≡ map (λ i. stepped bits mask (2 ^ i)) (below count) → MakeSteps bits mask 1 columns
makes-one bits mask count columns some few is word small =
    let some-base : 0 < 2 = omega arith in
    let most : 2 ^ bits ≤ 2 ^ count = pow-le-pow_right some-base few in
    ap (λ cs. product cs word) is
    ∙ product-linear (stepped bits mask) (step-linear bits mask) count 0 word (omega arith)
    ∙ ap (stepped bits mask) (omega arith)
    ∙ sym (after-one bits mask word some small)

after-less : (bits mask word steps : ℕ) → register_after bits mask word steps < 2 ^ bits
after-less bits mask word steps = register_of-less bits (shifted bits mask word steps) (AreBits-shifted bits mask word steps)

pub makes-twice : (bits mask span : ℕ) (columns more : List ℕ) → 1 ≤ bits → MakeSteps bits mask span columns → more ≡ map (product columns) columns → MakeSteps bits mask (span + span) more
makes-twice bits mask span columns more some makes is word small =
    ap (λ cs. product cs word) is
    ∙ product-product columns columns word
    ∙ ap (product columns) (makes word small)
    ∙ makes (register_after bits mask word span) (after-less bits mask word span)
    ∙ sym (register-later bits mask word span span some)

-- some steps are made, and these columns make so many of those that are left at once
pub record IsOnTheWay (bits mask init steps word left : ℕ) (columns : List ℕ) : Type 0 where
  pub span : ℕ
  pub makes : MakeSteps bits mask span columns
  pub small : word < 2 ^ bits
  pub rest : register_after bits mask init steps ≡ register_after bits mask word (left * span)

module _ (bits mask init steps : ℕ) (some : 1 ≤ bits) where
  pub begun : init < 2 ^ bits → (columns : List ℕ) → MakeSteps bits mask 1 columns → IsOnTheWay bits mask init steps init steps columns
  begun small columns makes = record {
    span = 1;
    makes = makes;
    small = small;
    rest = ap (register_after bits mask init) (omega arith);
  }

  module _ (word left : ℕ) (columns : List ℕ) (on : IsOnTheWay bits mask init steps word left columns) (more : List ℕ) (is : more ≡ map (product columns) columns) where
    -- an even number of spans is left
    pub halved : left % 2 ≢ 1 → IsOnTheWay bits mask init steps word (left / 2) more
    halved even = record {
      span = on.span + on.span;
      makes = makes-twice bits mask on.span columns more some on.makes is;
      small = on.small;
      rest = on.rest ∙ ap (register_after bits mask word) (twice (left / 2) left on.span (omega arith));
    }
      where
        twice : (h left span : ℕ) → h * 2 ≡ left → left * span ≡ h * (span + span)
        twice h left span e = let m = ap (λ n. n * span) e in omega arith

    -- an odd number is left
    pub halved_odd : left % 2 ≡ 1 → (next : ℕ) → next ≡ product columns word → IsOnTheWay bits mask init steps next (left / 2) more
    halved_odd odd next at =
        let there : next ≡ register_after bits mask word on.span = at ∙ on.makes word on.small in
        record {
          span = on.span + on.span;
          makes = makes-twice bits mask on.span columns more some on.makes is;
          small = subst (λ w. w < 2 ^ bits) (sym there) (after-less bits mask word on.span);
          rest = on.rest
              ∙ ap (register_after bits mask word) (apart (left / 2) left on.span (omega arith))
              ∙ register-later bits mask word on.span (left / 2 * (on.span + on.span)) some
              ∙ ap (λ w. register_after bits mask w (left / 2 * (on.span + on.span))) (sym there);
        }
      where
        apart : (h left span : ℕ) → h * 2 + 1 ≡ left → left * span ≡ span + h * (span + span)
        apart h left span e = let m = ap (λ n. n * span) e in omega arith

  -- none is left
  pub arrived : (word left : ℕ) (columns : List ℕ) → IsOnTheWay bits mask init steps word left columns → left ≡ 0 → word ≡ register_after bits mask init steps
  arrived word left columns on none =
      let end : left * on.span ≡ 0 = (let m = ap (λ n. n * on.span) none in omega arith) in
      sym (on.rest ∙ ap (register_after bits mask word) end ∙ register_of-places bits word on.small)

-- a column more is added where the word has its place
pub product-more : (cs : List ℕ) (i sum rest next all : ℕ) → i < length cs →
    ((rest % 2 ≡ 1) × (next ≡ bit_xor sum (get_or cs i 0))) ⊎ ((rest % 2 ≢ 1) × (next ≡ sum)) →
    bit_xor sum (product (drop i cs) rest) ≡ all → bit_xor next (product (drop (i + 1) cs) (rest / 2)) ≡ all
unfolding product
product-more cs i sum rest next all lt how before =
    let c = get_or cs i 0 in
    let behind = product (drop (i + 1) cs) (rest / 2) in
    let more : i + 1 ≡ suc i = omega arith in
    let here : bit_xor sum (bit_xor (rest % 2 * c) behind) ≡ all =
    ap (λ n. bit_xor sum (bit_xor (rest % 2 * c) (product (drop n cs) (rest / 2)))) more
    ∙ sym (ap (λ xs. bit_xor sum (product xs rest)) (drop-cons cs i 0 lt))
    ∙ before in
    elim how [
      | inl odd ↦ ap (λ n. bit_xor n behind) odd.1 ∙ xor-assoc sum c behind
          ∙ ap (λ n. bit_xor sum (bit_xor n behind)) (sym (one-times c)) ∙ ap (λ r. bit_xor sum (bit_xor (r * c) behind)) (sym odd.0) ∙ here
      | inr even ↦ (let none : rest % 2 ≡ 0 = (let not = even.0 in omega arith) in
          ap (λ n. bit_xor n behind) even.1
          ∙ ap (λ n. bit_xor sum n) (sym (xor_zero_l behind) ∙ ap (λ n. bit_xor n behind) (sym (zero-times c)) ∙ ap (λ r. bit_xor (r * c) behind) (sym none)) ∙ here)
    ]

pub product-end : (cs : List ℕ) (i sum rest all : ℕ) → length cs ≤ i → bit_xor sum (product (drop i cs) rest) ≡ all → sum ≡ all
unfolding product
product-end cs i sum rest all end before = sym (xor_zero_r sum) ∙ ap (λ xs. bit_xor sum (product xs rest)) (sym (drop_of_length-le cs end)) ∙ before

-- tables that are written place by place
pub one-of-below : (f : ℕ → ℕ) (xs ys : List ℕ) (n y : ℕ) → n < length xs → ys ≡ set xs n y → y ≡ f n → take n xs ≡ map f (below n) → take (n + 1) ys ≡ map f (below (n + 1))
one-of-below f xs ys n y lt is at before =
    ap (take (n + 1)) is ∙ take_more_set xs n y lt ∙ ap₂ (λ a b. a ++ b ∷ []) before at ∙ sym (map-range_with_len_more f 0 n n (omega arith))

pub one-of-list : (f : ℕ → ℕ) (cs xs ys : List ℕ) (n y : ℕ) → n < length xs → n < length cs → ys ≡ set xs n y → y ≡ f (get_or cs n 0) → take n xs ≡ map f (take n cs) →
    take (n + 1) ys ≡ map f (take (n + 1) cs)
one-of-list f cs xs ys n y lt in' is at before =
    ap (take (n + 1)) is ∙ take_more_set xs n y lt ∙ ap₂ (λ a b. a ++ b ∷ []) before at
    ∙ sym (ap (map f) (take_more cs n 0 in') ∙ map-append f (take n cs) (get_or cs n 0 ∷ []))

take-all : (xs : List ℕ) (n : ℕ) → length xs ≡ n → take n xs ≡ xs
take-all xs n is = ap (λ m. take m xs) (sym is) ∙ take-length xs

pub all-of-below : (f : ℕ → ℕ) (xs : List ℕ) (n : ℕ) → length xs ≡ n → take n xs ≡ map f (below n) → xs ≡ map f (below n)
all-of-below f xs n long before = sym (take-all xs n long) ∙ before

pub all-of-list : (f : ℕ → ℕ) (cs xs : List ℕ) (n : ℕ) → length xs ≡ n → length cs ≡ n → take n xs ≡ map f (take n cs) → xs ≡ map f cs
all-of-list f cs xs n long all before = sym (take-all xs n long) ∙ before ∙ ap (map f) (take-all cs n all)
