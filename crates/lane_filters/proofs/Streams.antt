-- Bits of a stream, joined and split.
use Rattle.std.proofs.Common.{◌≡◌, ℕ, zero, suc, ◌+◌, ◌-◌, ◌*◌, ◌/◌, ◌%◌, ◌^◌, ◌<◌, List, [], ◌∷◌, ◌++◌, map, take, set, length, refl, ap, ap₂, subst, sym, ◌∙◌, arith, ℤ, pos, negsuc}
use Rattle.std.proofs.Math.Nat.{pow-suc, mod-one, mod-eq_of_lt, div-one, div-div-eq-div-mul}
use Rattle.std.proofs.lemmas.Nat.{pow-add, mod-pow-add, mod-mul-add, mod_below}
use Rattle.std.proofs.lemmas.List.{length-map, map-set, take_more_set}
use Rattle.kind_model.specs.declared.vocabulary.BitOrder.{BitOrder}
use Rattle.kind_model.specs.declared.vocabulary.BitOrder.TheVariants.{MsbFirst, LsbFirst}
use Rattle.stream_model.specs.Numbers.{residue}
use Rattle.stream_model.specs.Lists.{numbers_from, listed, item}
use Rattle.kind_model.specs.BitStreams.{place_by, number_by, stream_bit}
use Rattle.lane_filters.specs.Streams.{joined, front, behind, reordered}
use Rattle.lane_filters.proofs.Lists.{listed_more}

-- what is made of the numbers of a range
length-numbers : {X : Type 0} (f : ℕ → X) (a count : ℕ) → length (map f (numbers_from a count)) ≡ count
length-numbers f a zero = refl
length-numbers f a (suc count) = ap suc (length-numbers f (a + 1) count)

pub numbered : {X : Type 0} (f g : ℕ → X) (a b count : ℕ) → ((j : ℕ) → j < count → f (a + j) ≡ g (b + j)) → map f (numbers_from a count) ≡ map g (numbers_from b count)
numbered f g a b zero same = refl
numbered f g a b (suc count) same =
    let here : f a ≡ g b = ap f (omega arith) ∙ same 0 (omega arith) ∙ ap g (omega arith) in
    ap₂ ◌∷◌ here (numbered f g (a + 1) (b + 1) count (λ j h. ap f (omega arith) ∙ same (suc j) (omega arith) ∙ ap g (omega arith)))

-- a first bit in front of joined numbers
high_part : (b both p q first last : ℕ) → both ≡ p * q → b * both + (first * q + last) ≡ (b * p + first) * q + last
high_part b both p q first last e = rw e (grind arith)

low_part : (b next p first last : ℕ) → next ≡ p * 2 → b + 2 * (first + last * p) ≡ b + 2 * first + last * next
low_part b next p first last e = rw e (grind arith)

high_few : (b next p rest : ℕ) → next ≡ p * 2 → b < 2 → rest < p → b * p + rest < next
high_few b next p rest e one few = rw e (grind arith)

module _ (bit : ℕ → ℕ) where
  abbrev pub made : BitOrder → ℕ → ℕ → ℕ
  made o a count = number_by o (map bit (numbers_from a count))

  -- the number of some bits and of those behind them
  pub made-joined : (o : BitOrder) (a c d : ℕ) → made o a (c + d) ≡ joined o c (made o a c) d (made o (a + c) d)
  made-joined MsbFirst a zero d =
      let none : 0 + d ≡ d = omega arith in
      let same : a ≡ a + 0 = omega arith in
      (λ i. made MsbFirst (same i) (none i)) ∙ omega arith
  made-joined MsbFirst a (suc c) d =
      let next : suc c + d ≡ suc (c + d) = omega arith in
      let rest : made MsbFirst (a + 1) (c + d) ≡ made MsbFirst (a + 1) c * 2 ^ d + made MsbFirst (a + 1 + c) d = made-joined MsbFirst (a + 1) c d in
      let place : a + 1 + c ≡ a + suc c = omega arith in
      let long = length-numbers bit (a + 1) c in
      ap (made MsbFirst a) next
      ∙ ap₂ (λ n z. bit a * 2 ^ n + z) (length-numbers bit (a + 1) (c + d)) (rest ∙ ap (λ z. made MsbFirst (a + 1) c * 2 ^ d + made MsbFirst z d) place)
      ∙ high_part (bit a) (2 ^ (c + d)) (2 ^ c) (2 ^ d) (made MsbFirst (a + 1) c) (made MsbFirst (a + suc c) d) (pow-add 2 c d)
      ∙ ap (λ n. (bit a * 2 ^ n + made MsbFirst (a + 1) c) * 2 ^ d + made MsbFirst (a + suc c) d) (sym long)
  made-joined LsbFirst a zero d =
      let none : 0 + d ≡ d = omega arith in
      let same : a ≡ a + 0 = omega arith in
      (λ i. made LsbFirst (same i) (none i)) ∙ omega arith
  made-joined LsbFirst a (suc c) d =
      let next : suc c + d ≡ suc (c + d) = omega arith in
      let rest : made LsbFirst (a + 1) (c + d) ≡ made LsbFirst (a + 1) c + made LsbFirst (a + 1 + c) d * 2 ^ c = made-joined LsbFirst (a + 1) c d in
      let place : a + 1 + c ≡ a + suc c = omega arith in
      ap (made LsbFirst a) next
      ∙ ap (λ z. bit a + 2 * z) (rest ∙ ap (λ z. made LsbFirst (a + 1) c + made LsbFirst z d * 2 ^ c) place)
      ∙ low_part (bit a) (2 ^ suc c) (2 ^ c) (made LsbFirst (a + 1) c) (made LsbFirst (a + suc c) d) (pow-suc 2 c)

  pub made-few : ((n : ℕ) → bit n < 2) → (o : BitOrder) (a c : ℕ) → made o a c < 2 ^ c
  made-few few MsbFirst a zero = omega arith
  made-few few MsbFirst a (suc c) =
      subst (λ n. bit a * 2 ^ n + made MsbFirst (a + 1) c < 2 ^ suc c) (sym (length-numbers bit (a + 1) c))
      (high_few (bit a) (2 ^ suc c) (2 ^ c) (made MsbFirst (a + 1) c) (pow-suc 2 c) (few a) (made-few few MsbFirst (a + 1) c))
  made-few few LsbFirst a zero = omega arith
  made-few few LsbFirst a (suc c) = omega (arith, pow-suc 2 c, few a, made-few few LsbFirst (a + 1) c)

-- of a product and a rest, the factor
factor : (p q m : ℕ) → q < m → (p * m + q) / m ≡ p
factor p q m small = grind arith

-- the parts of joined numbers
joined-front : (o : BitOrder) (c first d last : ℕ) → first < 2 ^ c → last < 2 ^ d → front o c d (joined o c first d last) ≡ first
joined-front MsbFirst c first d last few less = factor first last (2 ^ d) less
joined-front LsbFirst c first d last few less =
    let turned : first + last * 2 ^ c ≡ last * 2 ^ c + first = omega arith in
    ap (λ z. z % 2 ^ c) turned ∙ mod-mul-add last (2 ^ c) first few

pub joined-behind : (o : BitOrder) (c first d last : ℕ) → first < 2 ^ c → last < 2 ^ d → behind o c d (joined o c first d last) ≡ last
joined-behind MsbFirst c first d last few less = mod-mul-add first (2 ^ d) last less
joined-behind LsbFirst c first d last few less =
    let turned : first + last * 2 ^ c ≡ last * 2 ^ c + first = omega arith in
    ap (λ z. z / 2 ^ c) turned ∙ factor last first (2 ^ c) few

-- the number of the bits of a number
digits_down : (k r j c : ℕ) → j + c ≡ k → number_by MsbFirst (map (λ i. r / 2 ^ (k - 1 - i) % 2) (numbers_from j c)) ≡ r % 2 ^ c
digits_down k r j zero e = sym (mod-one r)
digits_down k r j (suc c) e =
    let here : k - 1 - j ≡ c = omega (arith, e) in
    let next : 1 + c ≡ suc c = omega arith in
    ap₂ (λ n z. r / 2 ^ (k - 1 - j) % 2 * 2 ^ n + z) (length-numbers (λ i. r / 2 ^ (k - 1 - i) % 2) (j + 1) c) (digits_down k r (j + 1) c (omega (arith, e)))
    ∙ ap (λ n. r / 2 ^ n % 2 * 2 ^ c + r % 2 ^ c) here ∙ sym (mod-pow-add r 1 c) ∙ ap (λ n. r % 2 ^ n) next

digits_up : (r j c : ℕ) → number_by LsbFirst (map (λ i. r / 2 ^ i % 2) (numbers_from j c)) ≡ r / 2 ^ j % 2 ^ c
digits_up r j zero = sym (mod-one (r / 2 ^ j))
digits_up r j (suc c) =
    let step : r / 2 ^ (j + 1) ≡ r / 2 ^ j / 2 = ap (λ z. r / z) (pow-add 2 j 1) ∙ sym (div-div-eq-div-mul r (2 ^ j) 2) in
    let next : c + 1 ≡ suc c = omega arith in
    ap (λ z. r / 2 ^ j % 2 + 2 * z) (digits_up r (j + 1) c ∙ ap (λ z. z % 2 ^ c) step)
    ∙ omega arith ∙ sym (mod-pow-add (r / 2 ^ j) c 1) ∙ ap (λ n. r / 2 ^ j % 2 ^ n) next

digits : (o : BitOrder) (k r : ℕ) → r < 2 ^ k → number_by o (map (λ j. r / 2 ^ place_by o k j % 2) (numbers_from 0 k)) ≡ r
digits MsbFirst k r few = digits_down k r 0 k (omega arith) ∙ mod-eq_of_lt few
digits LsbFirst k r few = digits_up r 0 k ∙ ap (λ z. z % 2 ^ k) (div-one r) ∙ mod-eq_of_lt few

pub residue-few : (z : ℤ) (m : ℕ) → 0 < m → residue z m < m
residue-few (pos n) m some = mod_below n m some
residue-few (negsuc n) m some = omega arith

-- a number's own order
pub reordered-same : (o : BitOrder) (count z : ℕ) → z < 2 ^ count → reordered o o count z ≡ z
reordered-same o count z few = digits o count z few

pub reordered-few : (o p : BitOrder) (count z : ℕ) → reordered o p count z < 2 ^ count
reordered-few o p count z = made-few (λ j. z / 2 ^ place_by o count j % 2) (λ n. omega arith) p 0 count

-- one bit more of a number that is turned
pub turned-more : (z j : ℕ) → 2 * reordered LsbFirst MsbFirst j z + z / 2 ^ j % 2 ≡ reordered LsbFirst MsbFirst (j + 1) z
turned-more z j =
    let place : 0 + j ≡ j = omega arith in
    let one : z / 2 ^ (0 + j) % 2 * 2 ^ 0 + 0 ≡ z / 2 ^ j % 2 = omega arith ∙ ap (λ n. z / 2 ^ n % 2) place in
    sym (made-joined (λ i. z / 2 ^ i % 2) MsbFirst 0 j 1 ∙ omega (arith, one))

-- either way a number is turned
pub turned-back : (z count : ℕ) → reordered MsbFirst LsbFirst count z ≡ reordered LsbFirst MsbFirst count z
turned-back z count = reversed (λ i. z / 2 ^ i % 2) count
  where
    reversed : (f : ℕ → ℕ) (c : ℕ) → number_by LsbFirst (map (λ j. f (c - 1 - j)) (numbers_from 0 c)) ≡ number_by MsbFirst (map f (numbers_from 0 c))
    reversed f zero = refl
    reversed f (suc c) =
        let next : c + 1 ≡ suc c = omega arith in
        let first : suc c - 1 - 0 ≡ c = omega arith in
        let last : 0 + c ≡ c = omega arith in
        let rest : map (λ j. f (suc c - 1 - j)) (numbers_from (0 + 1) c) ≡ map (λ j. f (c - 1 - j)) (numbers_from 0 c) =
        numbered (λ j. f (suc c - 1 - j)) (λ j. f (c - 1 - j)) (0 + 1) 0 c (λ j h. ap f (omega arith)) in
        ap (λ z. f (suc c - 1 - 0) + 2 * number_by LsbFirst z) rest
        ∙ ap₂ (λ n z. f n + 2 * z) first (reversed f c)
        ∙ omega (arith, ap f last)
        ∙ sym (made-joined f MsbFirst 0 c 1)
        ∙ ap (λ n. number_by MsbFirst (map f (numbers_from 0 n))) next

module _ (o p : BitOrder) (k : ℕ) (x : List ℤ) where
  -- the number of the bits a to a + count - 1 of a stream
  abbrev pub cut : ℕ → ℕ → ℕ
  cut a count = number_by p (map (stream_bit o k x) (numbers_from a count))

  pub cut-joined : (a c d : ℕ) → cut a (c + d) ≡ joined p c (cut a c) d (cut (a + c) d)
  cut-joined = made-joined (stream_bit o k x) p

  pub cut-few : (a c : ℕ) → cut a c < 2 ^ c
  cut-few = made-few (stream_bit o k x) (λ n. omega arith) p

  pub cut-front : (a c d : ℕ) → front p c d (cut a (c + d)) ≡ cut a c
  cut-front a c d = ap (front p c d) (cut-joined a c d) ∙ joined-front p c _ d _ (cut-few a c) (cut-few (a + c) d)

  pub cut-behind : (a c d : ℕ) → behind p c d (cut a (c + d)) ≡ cut (a + c) d
  cut-behind a c d = ap (behind p c d) (cut-joined a c d) ∙ joined-behind p c _ d _ (cut-few a c) (cut-few (a + c) d)

  -- the bits that one item adds
  pub cut-item : (m : ℕ) → cut (m * k) k ≡ reordered o p k (residue (item x m) (2 ^ k))
  cut-item m =
      let r = residue (item x m) (2 ^ k) in
      ap (number_by p)
      (numbered (stream_bit o k x) (λ j. r / 2 ^ place_by o k j % 2) (m * k) 0 k
      (λ j h.
      let there : (m * k + j) / k ≡ m = factor m j k h in
      let place : (m * k + j) % k ≡ 0 + j = mod-mul-add m k j h ∙ omega arith in
      λ i. residue (item x (there i)) (2 ^ k) / 2 ^ place_by o k (place i) % 2))

-- one item is written behind those that stand
pub item_written :
    {X : Type 0} (number : X → ℤ) (f : ℕ → ℤ) (out : List X) (n : ℕ) (v : X) → n < length out → number v ≡ f n → take n (map number out) ≡ listed n f →
    take (n + 1) (map number (set out n v)) ≡ listed (n + 1) f
item_written number f out n v there e done =
    ap (take (n + 1)) (map-set number out n v) ∙ take_more_set (map number out) n (number v) (omega (arith, length-map out number))
    ∙ ap (λ l. l ++ number v ∷ []) done ∙ ap (λ z. listed n f ++ z ∷ []) e ∙ sym (listed_more n f)
