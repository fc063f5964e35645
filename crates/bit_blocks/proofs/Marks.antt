-- Words of bits in a window, as they go on from item to item.
use Rattle.std.proofs.Common.{◌≡◌, ℕ, ◌+◌, ◌-◌, ◌*◌, ◌%◌, ◌^◌, ◌<◌, ◌≤◌, ℤ, pos, List, map, take, get_or, length, length-take, arith, ap, sym, ◌∙◌}
use Rattle.std.proofs.lemmas.List.{get_or-map, get_or-take, take-map}
use Rattle.kind_model.specs.declared.vocabulary.BitOrder.TheVariants.{MsbFirst}
use Rattle.kind_model.specs.Bits.{low_bit}
use Rattle.kind_model.specs.BitStreams.{number_by}
use Rattle.shape_laws.specs.Shaped.{residue-less, map-same}
use Rattle.stream_model.specs.Lists.{item}
use Rattle.stream_model.specs.Numbers.{residue}
use Rattle.lane_filters.proofs.Streams.{made-joined, made-few, joined-behind}
use Rattle.bit_blocks.specs.Marked.{word_at}

-- the lowest bit of a byte
pub low_bit-byte : (bytes : List ℕ) (k : ℕ) → k < length bytes → get_or bytes k 0 % 2 ≡ low_bit (map pos bytes) k
low_bit-byte bytes k within =
    let same : pos (get_or bytes k 0) ≡ item (map pos bytes) k = sym (get_or-map pos bytes k 0 (pos 0) within) in
    λ i. residue (same i) 2

-- the first word of a window
pub word_at-begun : (bytes : List ℕ) (count : ℕ) → count ≤ length bytes → word_at (length (take count bytes)) (map pos (take count bytes)) 0 ≡ word_at count (map pos bytes) 0
word_at-begun bytes count enough =
    let long : length (take count bytes) ≡ count = omega (arith, length-take count bytes, enough) in
    ap (λ n. word_at n (map pos (take count bytes)) 0) long
    ∙ ap (number_by MsbFirst)
    (map-same (low_bit (map pos (take count bytes))) (low_bit (map pos bytes)) 0 count
    (λ j from to.
    let near : j < count = omega (arith, to) in
    let same : item (map pos (take count bytes)) j ≡ item (map pos bytes) j = ap (λ zs. item zs j) (sym (take-map pos count bytes)) ∙ get_or-take count (map pos bytes) j (pos 0) near in
    λ i. residue (same i) 2))

low_bit-few : (w : List ℤ) (n : ℕ) → low_bit w n < 2
low_bit-few w n = residue-less (item w n) 2 (omega arith)

pub word_at-few : (count : ℕ) (w : List ℤ) (a : ℕ) → word_at count w a < 2 ^ count
word_at-few count w a = made-few (low_bit w) (low_bit-few w) MsbFirst a count

-- one bit more behind a word
pub word_at-more : (count : ℕ) (w : List ℤ) (a : ℕ) → 2 * word_at count w a + low_bit w (a + count) ≡ word_at (count + 1) w a
word_at-more count w a = omega (arith, made-joined (low_bit w) MsbFirst a count 1)

-- the word without its first bit
word_at-rest : (rest : ℕ) (w : List ℤ) (a : ℕ) → word_at (1 + rest) w a % 2 ^ rest ≡ word_at rest w (a + 1)
word_at-rest rest w a =
    ap (λ z. z % 2 ^ rest) (made-joined (low_bit w) MsbFirst a 1 rest)
    ∙ joined-behind MsbFirst 1 _ rest _ (word_at-few 1 w a) (word_at-few rest w (a + 1))

-- one bit goes and one comes
pub word_at-next : (count : ℕ) (w : List ℤ) (a : ℕ) → 1 ≤ count → 2 * (word_at count w a % 2 ^ (count - 1)) + low_bit w (a + count) ≡ word_at count w (a + 1)
word_at-next count w a some =
    let whole : count ≡ 1 + (count - 1) = omega (arith, some) in
    let again : count - 1 + 1 ≡ count = omega (arith, some) in
    let place : a + count ≡ a + 1 + (count - 1) = omega (arith, some) in
    let rest : word_at count w a % 2 ^ (count - 1) ≡ word_at (count - 1) w (a + 1) = ap (λ n. word_at n w a % 2 ^ (count - 1)) whole ∙ word_at-rest (count - 1) w a in
    (λ i. 2 * rest i + low_bit w (place i)) ∙ word_at-more (count - 1) w (a + 1) ∙ ap (λ n. word_at n w (a + 1)) again
