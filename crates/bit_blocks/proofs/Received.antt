-- What a descrambler gives for bytes that lie behind those in its register: sums of the bytes alone.
use Rattle.std.proofs.Common.{◌≡◌, ℕ, zero, suc, ◌+◌, ◌-◌, ◌*◌, ◌/◌, ◌%◌, ◌^◌, ◌<◌, ◌≤◌, ℤ, pos, List, [], ◌∷◌, ◌++◌, length, map, take, drop, sum, get_or, refl, arith, ap, sym, ◌∙◌}
use Rattle.std.proofs.lemmas.List.{get_or-drop, get_or-map, ext_get_or, length-map, length-drop, length-take-le, get_or-take, take-append-drop, map-append, take_all, take-append-le, get_or-append_right, get_or_append_left}
use borrow.Rule.Slice.PartMut.{put_mid, post_of}
use Rattle.std.proofs.lemmas.Nat.{pow_pos, mod_below}
use Rattle.stream_model.specs.Lists.{item, numbers_from}
use Rattle.stream_model.specs.Numbers.{residue}
use Rattle.kind_model.specs.Bits.{place_in, masked, register_of, received, low_bit}
use Rattle.kind_laws.specs.Bits.{register_of-places}
use Rattle.kind_laws.specs.Registers.{received-out, received-word, sum-more}
use Rattle.shape_laws.specs.Shaped.{map-same, get_or-map_numbers, length-map_numbers}
use Rattle.bit_blocks.specs.Codes.{masked_before, coded, word_after, given_bit, followed}
use Rattle.bit_blocks.proofs.Codes.{coded-append, coded-stream}

-- place j of the register before item n is item n - j
received-item : (bits init : ℕ) (x : List ℤ) (n j : ℕ) → 1 ≤ j → j ≤ n → get_or (received bits init x n) (j - 1) 0 ≡ low_bit x (n - j)
received-item bits init x n zero some within = absurd (omega arith)
received-item bits init x zero (suc j) some within = absurd (omega arith)
received-item bits init x (suc n) (suc zero) some within = let first : suc zero - 1 ≡ 0 = omega arith in let last : suc n - suc zero ≡ n = omega arith in rw (first, last) refl
received-item bits init x (suc n) (suc (suc j)) some within =
    let here : suc (suc j) - 1 ≡ suc j = omega arith in
    let back : j ≡ suc j - 1 = omega arith in
    let place : n - suc j ≡ suc n - suc (suc j) = omega arith in
    ap (λ i. get_or (received bits init x (suc n)) i 0) here
    ∙ ap (λ i. get_or (received bits init x n) i 0) back
    ∙ received-item bits init x n (suc j) (omega arith) (omega arith)
    ∙ ap (low_bit x) place

-- so a mask sums up items
masked-received : (bits mask init : ℕ) (x : List ℤ) (n : ℕ) → bits ≤ n → masked bits mask (received bits init x n) ≡ masked_before bits mask x n
masked-received bits mask init x n long =
    ap sum (map-same _ _ 1 bits (λ j from to. ap (λ z. place_in mask j * z) (received-item bits init x n j from (omega arith))))

-- and registers that follow the same bits are the same
same_register :
    (bits init init' : ℕ) (x y : List ℤ) (n m : ℕ) → bits ≤ n → bits ≤ m → ((j : ℕ) → 1 ≤ j → j ≤ bits → item x (n - j) ≡ item y (m - j)) →
    register_of bits (received bits init x n) ≡ register_of bits (received bits init' y m)
same_register bits init init' x y n m long long' same =
    ap sum (map-same _ _ 1 bits (λ j from to.
    ap (λ b. b * 2 ^ (j - 1))
    (received-item bits init x n j from (omega arith) ∙ ap (λ z. residue z 2) (same j from (omega arith)) ∙ sym (received-item bits init' y m j from (omega arith)))))

module _ (bits mask init : ℕ) (some : 2 ≤ bits) (few : bits ≤ 32) (less : init < 2 ^ bits) (x : List ℤ) where
  abbrev kept : ℕ → ℕ
  kept n = register_of bits (received bits init x n)

  abbrev given : ℕ → ℤ
  given n = pos ((low_bit x n + masked bits mask (received bits init x n)) % 2)

  begun : kept 0 ≡ init
  begun = register_of-places bits init less

  stream :
      (w : List ℤ) (a : ℕ) → ((k : ℕ) → k < length w → item w k ≡ item x (a + k)) →
      (coded (given_bit bits mask) (followed bits) (kept a) w ≡ map given (numbers_from a (length w))) × (word_after (followed bits) (kept a) w ≡ kept (a + length w))
  stream w a items =
      coded-stream (given_bit bits mask) (followed bits) kept given (item x) w a items
      (λ k h. ap (λ m. pos ((low_bit x (a + k) + m) % 2)) (received-out bits mask init x (a + k)))
      (λ k h. let next : a + k + 1 ≡ suc (a + k) = omega arith in ap kept next ∙ received-word bits init x (a + k) (omega arith))

  -- the register behind all items
  pub word_is : word_after (followed bits) init x ≡ kept (length x)
  word_is =
      ap (λ v. word_after (followed bits) v x) (sym begun) ∙ (stream x 0 (λ k h. ap (item x) (omega arith))).1 ∙ ap kept (omega arith)

  -- sums behind what is given for the first items
  pub sums_behind :
      (sums : List ℕ) → 32 ≤ length x → length x ≡ 32 + length sums →
      ((k : ℕ) → k < length sums → get_or sums k 0 ≡ (low_bit x (32 + k) + masked_before bits mask x (32 + k)) % 2) →
      coded (given_bit bits mask) (followed bits) init (take 32 x) ++ map pos sums ≡ coded (given_bit bits mask) (followed bits) init x
  sums_behind sums room long are =
      let code = coded (given_bit bits mask) (followed bits) in
      let cut : length (take 32 x) ≡ 32 = length-take-le 32 x room in
      let left : length (drop 32 x) ≡ length sums = omega (arith, length-drop 32 x, long) in
      let behind : 0 + length (take 32 x) ≡ 32 = omega (arith, cut) in
      let word : word_after (followed bits) init (take 32 x) ≡ kept 32 =
      ap (λ v. word_after (followed bits) v (take 32 x)) (sym begun)
      ∙ (stream (take 32 x) 0 (λ k h. get_or-take 32 x k (pos 0) (omega (arith, h, cut)) ∙ ap (item x) (omega arith))).1
      ∙ ap kept behind in
      let rest : code (kept 32) (drop 32 x) ≡ map given (numbers_from 32 (length (drop 32 x))) = (stream (drop 32 x) 32 (λ k h. get_or-drop 32 x k (pos 0))).0 in
      let same : map pos sums ≡ map given (numbers_from 32 (length (drop 32 x))) =
      ext_get_or (pos 0) _ _ (length-map sums pos ∙ sym (length-map_numbers given 32 (length (drop 32 x)) ∙ left)) (λ k h.
      let near : k < length sums = omega (arith, h, length-map sums pos) in
      get_or-map pos sums k 0 (pos 0) near
      ∙ ap pos (are k near)
      ∙ ap (λ m. pos ((low_bit x (32 + k) + m) % 2)) (sym (masked-received bits mask init x (32 + k) (omega (arith, few))))
      ∙ sym (get_or-map_numbers given 32 (length (drop 32 x)) k (pos 0) (omega (arith, near, left)))) in
      ap (λ ys. code init (take 32 x) ++ ys) (same ∙ sym rest ∙ ap (λ v. code v (drop 32 x)) (sym word))
      ∙ sym (coded-append (given_bit bits mask) (followed bits) init (take 32 x) (drop 32 x))
      ∙ ap (code init) (take-append-drop 32 x)

  -- the same of a list of which the first items are given and the others are the sums
  pub all_given :
      (given_bytes : List ℕ) → 32 ≤ length x → length given_bytes ≡ length x →
      map pos (take 32 given_bytes) ≡ coded (given_bit bits mask) (followed bits) init (take 32 x) →
      ((k : ℕ) → 32 + k < length x → get_or given_bytes (32 + k) 0 ≡ (low_bit x (32 + k) + masked_before bits mask x (32 + k)) % 2) →
      map pos given_bytes ≡ coded (given_bit bits mask) (followed bits) init x
  all_given given_bytes room long first are =
      let left : length x ≡ 32 + length (drop 32 given_bytes) = omega (arith, length-drop 32 given_bytes, long, room) in
      ap (map pos) (sym (take-append-drop 32 given_bytes)) ∙ map-append pos (take 32 given_bytes) (drop 32 given_bytes)
      ∙ ap (λ ys. ys ++ map pos (drop 32 given_bytes)) first
      ∙ sums_behind (drop 32 given_bytes) room left (λ k h. get_or-drop 32 given_bytes k 0 ∙ are k (omega (arith, h, left)))

-- the items of a vector that were written through a slice
pub written_back : (n : ℕ) (ys rest : List ℕ) → n ≡ length ys → take n (ys ++ rest) ≡ ys
written_back n ys rest whole = take-append-le n ys rest (omega arith) ∙ take_all n ys (omega arith)

-- a byte behind the first of a list, where those were written over
pub behind_put : (out sums : List ℕ) (m k : ℕ) → 32 ≤ length out → k < length sums → get_or (put_mid 32 m out sums) (32 + k) 0 ≡ get_or sums k 0
behind_put out sums m k room within =
    let front : 32 + k - 32 ≡ k = omega arith in
    get_or-append_right (take 32 out) (sums ++ post_of 32 m out) 32 (32 + k) 0 (length-take-le 32 out room) (omega arith)
    ∙ ap (λ i. get_or (sums ++ post_of 32 m out) i 0) front
    ∙ get_or_append_left sums (post_of 32 m out) 0 k within

-- what is given for bytes is as long as they are
length-coded : (gives next : ℕ → ℤ → ℕ) (word : ℕ) (zs : List ℤ) → length (coded gives next word zs) ≡ length zs
length-coded gives next word [] = refl
length-coded gives next word (z ∷ zs) = ap suc (length-coded gives next (next word z) zs)

pub length-first :
    (gives next : ℕ → ℤ → ℕ) (word first : ℕ) (bytes made : List ℕ) → first ≡ 32 → 32 ≤ length bytes → map pos made ≡ coded gives next word (map pos (take first bytes)) → length made ≡ 32
length-first gives next word first bytes made is room made_is =
    sym (length-map made pos) ∙ ap length made_is ∙ length-coded gives next word (map pos (take first bytes))
    ∙ length-map (take first bytes) pos ∙ length-take-le first bytes (omega (arith, is, room)) ∙ is

-- a byte as an item
byte_item : (bytes : List ℕ) (k : ℕ) → k < length bytes → low_bit (map pos bytes) k ≡ get_or bytes k 0 % 2
byte_item bytes k within = ap (λ z. residue z 2) (get_or-map pos bytes k 0 (pos 0) within)

-- whether a sum is even, with one term more
parity : (c old sum b new : ℕ) → c < 2 → old % 2 ≡ sum % 2 → new % 2 ≡ (old + c * b) % 2 → new % 2 ≡ (sum + c * (b % 2)) % 2
parity zero old sum b new small before made = omega arith
parity (suc zero) old sum b new small before made = omega arith
parity (suc (suc c)) old sum b new small before made = absurd (omega arith)

-- one place of the mask more
pub place_more :
    (bytes : List ℕ) (mask place k old new : ℕ) → 32 + k < length bytes → place < 32 →
    old % 2 ≡ (low_bit (map pos bytes) (32 + k) + masked_before place mask (map pos bytes) (32 + k)) % 2 →
    new % 2 ≡ (old + mask / 2 ^ place % 2 * get_or bytes (32 - 1 - place + k) 0) % 2 →
    new % 2 ≡ (low_bit (map pos bytes) (32 + k) + masked_before (place + 1) mask (map pos bytes) (32 + k)) % 2
place_more bytes mask place k old new within few before made =
    let xs = map pos bytes in
    let term = λ (j : ℕ). place_in mask j * low_bit xs (32 + k - j) in
    let next : place + 1 ≡ suc place = omega arith in
    let at : 32 + k - (1 + place) ≡ 32 - 1 - place + k = omega arith in
    let bit : 1 + place - 1 ≡ place = omega arith in
    let here : low_bit xs (32 + k - (1 + place)) ≡ get_or bytes (32 - 1 - place + k) 0 % 2 = ap (low_bit xs) at ∙ byte_item bytes (32 - 1 - place + k) (omega arith) in
    let last : term (1 + place) ≡ mask / 2 ^ place % 2 * (get_or bytes (32 - 1 - place + k) 0 % 2) = λ i. mask / 2 ^ bit i % 2 * here i in
    let more : masked_before (place + 1) mask xs (32 + k) ≡ masked_before place mask xs (32 + k) + mask / 2 ^ place % 2 * (get_or bytes (32 - 1 - place + k) 0 % 2) =
    ap (λ c. sum (map term (numbers_from 1 c))) next ∙ sum-more term 1 place ∙ ap (λ z. masked_before place mask xs (32 + k) + z) last in
    parity (mask / 2 ^ place % 2) old (low_bit xs (32 + k) + masked_before place mask xs (32 + k)) (get_or bytes (32 - 1 - place + k) 0) new (mod_below (mask / 2 ^ place) 2 (omega arith)) before made
    ∙ ap (λ z. z % 2) (omega arith ∙ ap (λ z. low_bit xs (32 + k) + z) (sym more))

-- a byte behind the first of a list
pub byte_behind : (bytes sums : List ℕ) (k : ℕ) → sums ≡ drop 32 bytes → length bytes ≡ 32 + length sums → k < length sums →
    get_or sums k 0 % 2 ≡ (low_bit (map pos bytes) (32 + k) + 0) % 2
byte_behind bytes sums k are long within =
    ap (λ ys. get_or ys k 0 % 2) are ∙ ap (λ b. b % 2) (get_or-drop 32 bytes k 0) ∙ (let here = byte_item bytes (32 + k) (omega arith) in omega (arith, here))

-- the last items are the register
pub last_word :
    (bits mask init : ℕ) → 2 ≤ bits → bits ≤ 32 → init < 2 ^ bits → (x : List ℤ) (d : ℕ) → length x ≡ d + 32 →
    word_after (followed bits) 0 (drop d x) ≡ word_after (followed bits) init x
last_word bits mask init some few less x d long =
    let left : length (drop d x) ≡ 32 = omega (arith, length-drop d x, long) in
    word_is bits mask 0 some few (pow_pos bits) (drop d x)
    ∙ same_register bits 0 init (drop d x) x (length (drop d x)) (length x) (omega (arith, left, few)) (omega (arith, long, few))
    (λ j from to. get_or-drop d x (length (drop d x) - j) (pos 0) ∙ ap (item x) (omega (arith, left, long, few)))
    ∙ sym (word_is bits mask init some few less x)
