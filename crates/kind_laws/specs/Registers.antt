-- Registers of the scramblers, a step at a time.
use Rattle.std.specs.Prelude.{ℕ, zero, suc, ◌+◌, ◌-◌, ◌*◌, ◌/◌, ◌%◌, ◌^◌, ◌<◌, ◌≤◌, ◌≡◌, ℤ, List, [], ◌∷◌, length, map, sum, refl}
use Rattle.std.proofs.Common.{ap, sym, ◌∙◌, arith, get_or, mul_comm}
use Rattle.std.proofs.Math.Nat.{pow-suc, div-one, div-div-eq-div-mul}
use Rattle.std.proofs.lemmas.Nat.{mod-mul-add}
use Rattle.stream_model.specs.Lists.{numbers_from}
use Rattle.kind_model.specs.Bits.{place_in, places_of, register_of, masked, low_bit, scrambled, received, shifted, newest}
use Rattle.shape_laws.specs.Shaped.{sum-cons, map-same, get_or-map_numbers, length-map_numbers, residue-less}

-- a run of numbers, each double the one before it in another run
doubled : (f g : ℕ → ℕ) (a count : ℕ) → ((j : ℕ) → a ≤ j → g (j + 1) ≡ 2 * f j)
    → sum (map g (numbers_from (a + 1) count)) ≡ 2 * sum (map f (numbers_from a count))
doubled f g a zero twice = refl
doubled f g a (suc count) twice =
    omega (
      arith,
      sum-cons (g (a + 1)) (map g (numbers_from (a + 1 + 1) count)),
      sum-cons (f a) (map f (numbers_from (a + 1) count)),
      doubled f g (a + 1) count (λ j l. twice j (omega arith)),
      twice a (omega arith),
    )

-- a register with a new bit in front: twice the register of the others, and the bit
pub register_of-cons : (bits b : ℕ) (held : List ℕ) → register_of (suc bits) (b ∷ held) ≡ 2 * register_of bits held + b
register_of-cons bits b held =
    sum-cons (b * 2 ^ 0) (map (λ j. get_or (b ∷ held) (j - 1) 0 * 2 ^ (j - 1)) (numbers_from 2 bits))
    ∙ omega (
      arith,
      doubled (λ j. get_or held (j - 1) 0 * 2 ^ (j - 1)) (λ j. get_or (b ∷ held) (j - 1) 0 * 2 ^ (j - 1))
          1 bits place,
    )
  where
    place : (j : ℕ) → 1 ≤ j → get_or (b ∷ held) (j + 1 - 1) 0 * 2 ^ (j + 1 - 1)
        ≡ 2 * (get_or held (j - 1) 0 * 2 ^ (j - 1))
    place zero h = absurd (omega arith)
    place (suc j) h =
        let here : suc j + 1 - 1 ≡ suc j = omega arith in
        let back : suc j - 1 ≡ j = omega arith in
        rw (here, back, pow-suc 2 j) (omega arith)

-- a sum over a run of numbers, and one over the run that is longer by one
pub sum-more : (f : ℕ → ℕ) (a count : ℕ) → sum (map f (numbers_from a (suc count)))
    ≡ sum (map f (numbers_from a count)) + f (a + count)
sum-more f a zero = ap (λ z. 0 + f z) (omega arith)
sum-more f a (suc count) =
    sum-cons (f a) (map f (numbers_from (a + 1) (suc count)))
    ∙ ap (λ z. f a + z) (sum-more f (a + 1) count)
    ∙ omega (arith, sum-cons (f a) (map f (numbers_from (a + 1) count)), ap f next)
  where
    next : a + 1 + count ≡ a + suc count
    next = omega arith

-- a list of bits
pub record AreBits (held : List ℕ) : Type 0 where
  pub each : (j : ℕ) → get_or held j 0 < 2

-- a register with one more place
register_of-more : (bits : ℕ) (held : List ℕ) → register_of (suc bits) held
    ≡ register_of bits held + get_or held bits 0 * 2 ^ bits
register_of-more bits held = sum-more (λ j. get_or held (j - 1) 0 * 2 ^ (j - 1)) 1 bits ∙ ap
    (λ z. register_of bits held + get_or held z 0 * 2 ^ z) place
  where
    place : 1 + bits - 1 ≡ bits
    place = omega arith

-- the number of a register is below 2 to its bits
pub register_of-less : (bits : ℕ) (held : List ℕ) → AreBits held → register_of bits held < 2 ^ bits
register_of-less zero held are = omega arith
register_of-less (suc bits) held are =
    rw (register_of-more bits held, pow-suc 2 bits) (one_more (get_or held bits 0) (2 ^ bits) (register_of bits held)
    (are.each bits) (register_of-less bits held are))
  where
    one_more : (b p m : ℕ) → b < 2 → m < p → m + b * p < p * 2
    one_more b p m small less = grind arith

-- a bit moves into a register, and the oldest leaves it
pub register_of-push : (bits b : ℕ) (held : List ℕ) → 1 ≤ bits → b < 2 → AreBits held → register_of bits (b ∷ held)
    ≡ (2 * register_of bits held + b) % 2 ^ bits
register_of-push zero b held some small are = absurd (omega arith)
register_of-push (suc bits) b held some small are =
    register_of-cons bits b held
    ∙ sym (mod-mul-add (get_or held bits 0) (2 ^ suc bits) (2 * register_of bits held + b)
    (rw (pow-suc 2 bits) (omega (arith, register_of-less bits held are))))
    ∙ ap (λ z. z % 2 ^ suc bits) (rw (register_of-more bits held, pow-suc 2 bits) (omega arith))

-- what a place of a register holds
pub place-register_of : (bits : ℕ) (held : List ℕ) (j : ℕ) → bits ≤ length held → AreBits held → j < bits
    → register_of bits held / 2 ^ j % 2 ≡ get_or held j 0
place-register_of zero held j long are h = absurd (omega arith)
place-register_of (suc bits) [] j long are h = absurd (omega arith)
place-register_of (suc bits) (b ∷ held) zero long are h = let small : b < 2 = are.each 0 in rw
    (register_of-cons bits b held, div-one) (omega arith)
place-register_of (suc bits) (b ∷ held) (suc j) long are h =
    ap (λ z. z % 2) (rw (
      register_of-cons bits b held,
      pow-suc 2 j,
      mul_comm (2 ^ j) 2,
      ← div-div-eq-div-mul
          (2 * register_of bits held + b) 2 (2 ^ j),
    ) (ap (λ z. z / 2 ^ j) half))
    ∙ place-register_of bits held j (omega arith) (record { each = λ i. are.each (suc i) }) (omega arith)
  where
    half : (2 * register_of bits held + b) / 2 ≡ register_of bits held
    half = let small : b < 2 = are.each 0 in omega arith

-- a sum over a mask sees no more than the register
pub masked-register_of : (bits mask : ℕ) (held : List ℕ) → bits ≤ length held → AreBits held → masked bits mask held
    ≡ masked bits mask (places_of bits (register_of bits held))
masked-register_of bits mask held long are =
    ap sum (map-same _ _ 1 bits (λ j from to. ap (λ z. place_in mask j * z) (same j from (omega arith))))
  where
    same : (j : ℕ) → 1 ≤ j → j - 1 < bits → get_or held (j - 1) 0 ≡ get_or (places_of bits (register_of bits held))
        (j - 1) 0
    same j from to =
        sym (place-register_of bits held (j - 1) long are to)
        ∙ sym (get_or-map_numbers (place_in (register_of bits held)) 1 bits (j - 1) 0 to ∙ ap
        (λ z. register_of bits held / 2 ^ z % 2) (omega arith))

-- what the registers hold is bits, and enough of them
AreBits-cons : (b : ℕ) (held : List ℕ) → b < 2 → AreBits held → AreBits (b ∷ held)
AreBits-cons b held small are = record { each = each_of }
  where
    each_of : (j : ℕ) → get_or (b ∷ held) j 0 < 2
    each_of zero = small
    each_of (suc j) = are.each j

AreBits-map : (f : ℕ → ℕ) (a count : ℕ) → ((j : ℕ) → f j < 2) → AreBits (map f (numbers_from a count))
AreBits-map f a zero small = record { each = λ j. omega arith }
AreBits-map f a (suc count) small = AreBits-cons (f a) (map f (numbers_from (a + 1) count)) (small a)
    (AreBits-map f (a + 1) count small)

pub AreBits-places_of : (bits r : ℕ) → AreBits (places_of bits r)
AreBits-places_of bits r = AreBits-map (place_in r) 1 bits (λ j. omega arith)

pub AreBits-scrambled : (bits mask init : ℕ) (x : List ℤ) (n : ℕ) → AreBits (scrambled bits mask init x n)
AreBits-scrambled bits mask init x zero = AreBits-places_of bits init
AreBits-scrambled bits mask init x (suc n) = AreBits-cons _ (scrambled bits mask init x n) (omega arith)
    (AreBits-scrambled bits mask init x n)

pub AreBits-received : (bits init : ℕ) (x : List ℤ) (n : ℕ) → AreBits (received bits init x n)
AreBits-received bits init x zero = AreBits-places_of bits init
AreBits-received bits init x (suc n) = AreBits-cons _ (received bits init x n) (residue-less _ 2 (omega arith))
    (AreBits-received bits init x n)

pub AreBits-shifted : (bits mask init n : ℕ) → AreBits (shifted bits mask init n)
AreBits-shifted bits mask init zero = AreBits-places_of bits init
AreBits-shifted bits mask init (suc n) = AreBits-cons _ (shifted bits mask init n) (omega arith)
    (AreBits-shifted bits mask init n)

pub length-scrambled : (bits mask init : ℕ) (x : List ℤ) (n : ℕ) → length (scrambled bits mask init x n) ≡ n + bits
length-scrambled bits mask init x zero = length-map_numbers (place_in init) 1 bits ∙ omega arith
length-scrambled bits mask init x (suc n) = omega (arith, length-scrambled bits mask init x n)

pub length-received : (bits init : ℕ) (x : List ℤ) (n : ℕ) → length (received bits init x n) ≡ n + bits
length-received bits init x zero = length-map_numbers (place_in init) 1 bits ∙ omega arith
length-received bits init x (suc n) = omega (arith, length-received bits init x n)

pub length-shifted : (bits mask init n : ℕ) → length (shifted bits mask init n) ≡ n + bits
length-shifted bits mask init zero = length-map_numbers (place_in init) 1 bits ∙ omega arith
length-shifted bits mask init (suc n) = omega (arith, length-shifted bits mask init n)

-- a scrambler's step, from its state word alone: the output, and the next word
pub scrambled-out :
    (bits mask init : ℕ) (x : List ℤ) (n : ℕ) →
    newest (scrambled bits mask init x (suc n)) ≡ (low_bit x n + masked bits mask
    (places_of bits (register_of bits (scrambled bits mask init x n)))) % 2
scrambled-out bits mask init x n =
    ap (λ z. (low_bit x n + z) % 2)
    (masked-register_of bits mask (scrambled bits mask init x n) (omega (arith, length-scrambled bits mask init x n))
    (AreBits-scrambled bits mask init x n))

pub scrambled-word :
    (bits mask init : ℕ) (x : List ℤ) (n : ℕ) → 1 ≤ bits →
    register_of bits (scrambled bits mask init x (suc n)) ≡ (2 * register_of bits
    (scrambled bits mask init x n) + newest (scrambled bits mask init x (suc n))) % 2 ^ bits
scrambled-word bits mask init x n some = register_of-push bits _ (scrambled bits mask init x n) some (omega arith)
    (AreBits-scrambled bits mask init x n)

-- a descrambler's step
pub received-out :
    (bits mask init : ℕ) (x : List ℤ) (n : ℕ) →
    masked bits mask (received bits init x n) ≡ masked bits mask (places_of bits
    (register_of bits (received bits init x n)))
received-out bits mask init x n =
    masked-register_of bits mask (received bits init x n) (omega (arith, length-received bits init x n))
    (AreBits-received bits init x n)

pub received-word :
    (bits init : ℕ) (x : List ℤ) (n : ℕ) → 1 ≤ bits →
    register_of bits (received bits init x (suc n)) ≡ (2 * register_of bits (received bits init x n) + low_bit x
    n) % 2 ^ bits
received-word bits init x n some = register_of-push bits (low_bit x n) (received bits init x n) some
    (residue-less _ 2 (omega arith)) (AreBits-received bits init x n)

-- a step of a shift register with feedback
pub shifted-out :
    (bits mask init n : ℕ) → newest (shifted bits mask init (suc n))
    ≡ masked bits mask (places_of bits (register_of bits (shifted bits mask init n))) % 2
shifted-out bits mask init n =
    ap (λ z. z % 2) (masked-register_of bits mask (shifted bits mask init n)
    (omega (arith, length-shifted bits mask init n)) (AreBits-shifted bits mask init n))

pub shifted-word :
    (bits mask init n : ℕ) → 1 ≤ bits →
    register_of bits (shifted bits mask init (suc n)) ≡ (2 * register_of bits (shifted bits mask init n) + newest
    (shifted bits mask init (suc n))) % 2 ^ bits
shifted-word bits mask init n some = register_of-push bits _ (shifted bits mask init n) some (omega arith)
    (AreBits-shifted bits mask init n)
