-- Kinds of bits settle.
use Rattle.std.specs.Prelude.{ℕ, suc, ◌+◌, ◌-◌, ◌*◌, ◌/◌, ◌%◌, ◌^◌, ◌≤◌, ◌≡◌, ℤ, pos, List, map, sum, refl, zero, ◌<◌, nat_le, true, ◌-ℤ◌}
use Rattle.std.proofs.Common.{sym, ◌∙◌, ap, ap₂, arith, get_or}
use Rattle.std.proofs.Math.Nat.{mul-add, mul-le-mul_right}
use Rattle.std.proofs.lemmas.Bool.{le-leb}
use Rattle.std.proofs.lemmas.Nat.{le-div}
use Rattle.stream_model.specs.declared.vocabulary.ItemType.{ItemType}
use Rattle.stream_model.specs.Lists.{item, numbers_from}
use Rattle.stream_model.specs.Meaning.{input}
use Rattle.stream_model.specs.Numbers.{residue, wrap, floor_div}
use Rattle.kind_model.specs.declared.vocabulary.BitOrder.TheVariants.{MsbFirst}
use Rattle.kind_model.specs.declared.vocabulary.BitOrder.{BitOrder}
use Rattle.kind_model.specs.BitStreams.{bit_before, word_before, number_by, is_behind_code, correlate_access_code, place_by, stream_bit, common_divisor, repacking}
use Rattle.kind_model.specs.Bits.{descrambler, received, masked, place_in, low_bit, pack_k_bits, unpack_k_bits, diff_decoder}
use Rattle.shape_laws.specs.Shaped.{map-same, sum_below-same}
use Rattle.kind_laws.specs.BitStreams.{same_bits}
use Rattle.slice_laws.specs.Slices.{Settles}
use Rattle.slice_laws.proofs.Shapes.{shaped-settles, IsRest, past-rest, div-later, mod-later, div-at, at-right}
use Rattle.slice_laws.proofs.Streams.{map-moved}

pub pack_k_bits-settles : (n : ℕ) (right : ℕ → ℕ) (f : ℕ) → ((p : ℕ) → right p ≤ n * f) → Settles (pack_k_bits n) right f
pack_k_bits-settles n right f reached =
    shaped-settles _ _ n 1 _ _ _ _ _ _ right f reached
    (λ ts us xs ys k p m settings inputs h.
    let r = reached 0 in
    let h' : f ≤ m = omega arith in
    sum_below-same n _ _ (λ j l.
    let low = at-right n f m j h' in
    let e : (1 * k + m) * n + j ≡ n * k + (m * n + j) = omega arith in
    ap (λ z. pos (residue z 2 * 2 ^ (n - 1 - j))) (ap (item (input xs 0)) e ∙ inputs.items 0 (m * n + j) (omega arith))))

pub unpack_k_bits-settles : (n : ℕ) (right : ℕ → ℕ) (f : ℕ) → 1 ≤ n → ((p : ℕ) → right p ≤ f) → Settles (unpack_k_bits n) right f
unpack_k_bits-settles n right f some reached =
    shaped-settles _ _ 1 n _ _ _ _ _ _ right f (λ p. let r = reached p in omega arith)
    (λ ts us xs ys k p m settings inputs h.
    let at : f ≤ m / n = div-at n f m some h in
    let r = reached 0 in
    let e : (n * k + m) / n ≡ 1 * k + m / n = div-later n k m some ∙ omega arith in
    ap₂ (λ (z : ℤ) (b : ℕ). pos (residue (floor_div z (2 ^ (n - 1 - b))) 2)) (ap (item (input xs 0)) e ∙ inputs.items 0 (m / n) (omega arith)) (mod-later n k m))

stream_bit-rest : (o : BitOrder) (k : ℕ) (x y : List ℤ) (c r b : ℕ) → 1 ≤ k → IsRest x y c r → r ≤ b / k → stream_bit o k x (k * c + b) ≡ stream_bit o k y b
stream_bit-rest o k x y c r b some same h =
    ap₂ (λ (z : ℤ) (m : ℕ). residue z (2 ^ k) / 2 ^ place_by o k m % 2) (ap (item x) (div-later k c b some) ∙ same (b / k) h) (mod-later k c b)

repacked-place : (d i k l q n : ℕ) → d * k ≡ i * l → (i * q + n) * l ≡ k * (d * q) + n * l
repacked-place d i k l q n even =
    let a : (i * q + n) * l ≡ q * (i * l) + n * l = omega arith in
    let b : q * (d * k) + n * l ≡ k * (d * q) + n * l = omega arith in
    a ∙ ap (λ z. q * z + n * l) (sym even) ∙ b

repacked-at : (d i k l f n b : ℕ) → 1 ≤ k → d * k ≡ i * l → i * f ≤ n → n * l ≤ b → d * f ≤ b / k
repacked-at d i k l f n b some even h low =
    let m : i * f * l ≤ n * l = mul-le-mul_right l h in
    let e : d * f * k ≡ f * (d * k) = omega arith in
    let g : f * (i * l) ≡ i * f * l = omega arith in
    let s : d * f * k ≡ i * f * l = e ∙ ap (λ z. f * z) even ∙ g in
    le-div (d * f) b k (omega arith) (omega arith)

pub repacking-settles : (t : ItemType) (k l : ℕ) (o p : BitOrder) (right : ℕ → ℕ) (f : ℕ) → 1 ≤ k → ((q : ℕ) → right q ≤ l / common_divisor k l * f) → Settles (repacking t k l o p) right f
repacking-settles t k l o p right f some reached =
    shaped-settles _ _ (l / common_divisor k l) (k / common_divisor k l) _ _ _ _ _ _ right f reached
    (λ ts us xs ys q port n settings inputs h.
    let r = reached 0 in
    ap (λ bs. wrap t (pos (number_by p bs)))
    (ap (λ z. map (stream_bit o k (input xs 0)) (numbers_from z l)) (repacked-place (l / common_divisor k l) (k / common_divisor k l) k l q n (same_bits k l))
    ∙ map-moved (stream_bit o k (input xs 0)) (stream_bit o k (input ys 0)) (k * (l / common_divisor k l * q)) (n * l) l
    (λ b low.
    let at = repacked-at (l / common_divisor k l) (k / common_divisor k l) k l f n b some (same_bits k l) h low in
    stream_bit-rest o k (input xs 0) (input ys 0) (l / common_divisor k l * q) (right 0) b some (inputs.items 0) (omega arith))))

pub diff_decoder-settles : (modulus : ℕ) (right : ℕ → ℕ) (f : ℕ) → ((p : ℕ) → right p + 1 ≤ f) → Settles (diff_decoder modulus) right f
diff_decoder-settles modulus right f reached =
    shaped-settles _ _ 1 1 _ _ _ _ _ _ right f (λ p. let r = reached p in omega arith)
    (λ ts us xs ys k p n settings inputs h.
    let r = reached 0 in
    ap₂ (λ (a b : ℤ). pos (residue (a -ℤ b) modulus)) (inputs.items 0 n (omega arith)) (past-rest (input xs 0) (input ys 0) (1 * k) (right 0) n 1 (inputs.items 0) (omega arith)))

-- the registers of a descrambler hold the last bits, the newest first
received-at : (bits init : ℕ) (x : List ℤ) (n j : ℕ) → j < n → get_or (received bits init x n) j 0 ≡ low_bit x (n - suc j)
received-at bits init x zero j h = absurd (omega arith)
received-at bits init x (suc n) zero h = let e : n ≡ suc n - 1 = omega arith in ap (low_bit x) e
received-at bits init x (suc n) (suc j) h = received-at bits init x n j (omega arith) ∙ (let e : n - suc j ≡ suc n - suc (suc j) = omega arith in ap (low_bit x) e)

masked-same : (bits mask : ℕ) (gs hs : List ℕ) → ((j : ℕ) → j < bits → get_or gs j 0 ≡ get_or hs j 0) → masked bits mask gs ≡ masked bits mask hs
masked-same bits mask gs hs same =
    ap sum (map-same (λ j. place_in mask j * get_or gs (j - 1) 0) (λ j. place_in mask j * get_or hs (j - 1) 0) 1 bits (λ j low high. ap (λ z. place_in mask j * z) (same (j - 1) (omega arith))))

pub descrambler-settles : (bits mask init : ℕ) (right : ℕ → ℕ) (f : ℕ) → ((p : ℕ) → right p + bits ≤ f) → Settles (descrambler bits mask init) right f
descrambler-settles bits mask init right f reached =
    λ c. record {
      takes = λ p j k h. mul-add 1 k j;
      gives = λ j k h. mul-add 1 k j;
      reaches = λ p. let r = reached p in let g : right p ≤ 1 * f = omega arith in g;
      ends = λ j h. refl;
      out = λ ts us xs ys p n port settings inputs h.
          let h' : 1 * f ≤ n = h in
          let r = reached 0 in
          let now : low_bit (input xs 0) (1 * c + n) ≡ low_bit (input ys 0) n = ap (λ z. residue z 2) (inputs.items 0 n (omega arith)) in
          let past : masked bits mask (received bits init (input xs 0) (1 * c + n)) ≡ masked bits mask (received bits init (input ys 0) n) =
          masked-same bits mask _ _ (λ j l.
          let e : 1 * c + n - suc j ≡ 1 * c + (n - suc j) = omega arith in
          received-at bits init (input xs 0) (1 * c + n) j (omega arith)
          ∙ ap (low_bit (input xs 0)) e
          ∙ ap (λ z. residue z 2) (inputs.items 0 (n - suc j) (omega arith))
          ∙ sym (received-at bits init (input ys 0) n j (omega arith))) in
          ap₂ (λ (a b : ℕ). pos ((a + b) % 2)) now past;
    }

bit-rest : (x y : List ℤ) (c r n back : ℕ) → IsRest x y c r → r + back ≤ n → bit_before x (c + n) back ≡ bit_before y n back
bit-rest x y c r n back same h = ap (λ z. residue z 2) (past-rest x y c r n back same h)

behind-rest : (code count threshold : ℕ) (x y : List ℤ) (c r n : ℕ) → IsRest x y c r → r + (64 + count) ≤ n → is_behind_code code count threshold x (c + n) ≡ is_behind_code code count threshold y n
behind-rest code count threshold x y c r n same h =
    let word : word_before count x (c + n) ≡ word_before count y n =
    ap (number_by MsbFirst) (map-same (λ j. bit_before x (c + n) (64 + count - j)) (λ j. bit_before y n (64 + count - j)) 0 count (λ j low high. bit-rest x y c r n (64 + count - j) same (omega arith))) in
    let a : nat_le count (c + n) ≡ true = le-leb count (c + n) (omega arith) in
    let b : nat_le count n ≡ true = le-leb count n (omega arith) in
    rw (a, b, word) refl

pub correlate_access_code-settles : (code count threshold : ℕ) (right : ℕ → ℕ) (f : ℕ) → ((p : ℕ) → right p + (64 + count) ≤ f) → Settles (correlate_access_code code count threshold) right f
correlate_access_code-settles code count threshold right f reached =
    shaped-settles _ _ 1 1 _ _ _ _ _ _ right f (λ p. let r = reached p in omega arith)
    (λ ts us xs ys k p n settings inputs h.
    let r = reached 0 in
    ap₂ (λ a b. pos (a + 2 * b)) (bit-rest (input xs 0) (input ys 0) (1 * k) (right 0) n 64 (inputs.items 0) (omega arith))
    (behind-rest code count threshold (input xs 0) (input ys 0) (1 * k) (right 0) n (inputs.items 0) (omega arith)))
