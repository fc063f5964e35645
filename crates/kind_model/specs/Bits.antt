-- The kinds of bits: packing, differential coding and scrambling. All ports have bytes.
use Rattle.std.specs.Prelude.{ℕ, zero, suc, ◌+◌, ◌-◌, ◌*◌, ◌/◌, ◌%◌, ◌^◌, ℤ, pos, ◌-ℤ◌, List, ◌∷◌, map, take, sum, slice_index_or}
use Rattle.stream_model.specs.declared.vocabulary.ItemType.TheVariants.{Byte}
use Rattle.stream_model.specs.Numbers.{residue, total}
use Rattle.stream_model.specs.Lists.{numbers_from, item, item_before}
use Rattle.kind_model.specs.Kernels.{packed, unpacked}
use Rattle.stream_model.specs.Meaning.{Meaning, input}
use Rattle.stream_model.specs.Shapes.{ports, at_rate, sync}

-- the lowest bits of k bytes in one byte, the first the highest (GNU Radio manual)
abbrev pub pack_k_bits : ℕ → Meaning
pack_k_bits k = record (at_rate (ports 1 Byte) (ports 1 Byte) k 1) { out = λ ts xs p n. packed k (input xs 0) n }

-- the k lowest bits of a byte, one in each byte, the highest first (GNU Radio manual)
abbrev pub unpack_k_bits : ℕ → Meaning
unpack_k_bits k = record (at_rate (ports 1 Byte) (ports 1 Byte) 1 k) { out = λ ts xs p n. unpacked k (input xs 0) n }

-- the sum of the first n items modulo m
abbrev pub running_sum : ℕ → List ℤ → ℕ → ℕ
running_sum m x n = residue (total (take n x)) m

-- the sum of all items so far modulo m, which is the item plus the last output (GNU Radio manual); the word is the last
-- output
abbrev pub diff_encoder : ℕ → Meaning
diff_encoder m =
    record (sync Byte Byte) {
      word = λ ts xs k. running_sum m (input xs 0) k;
      out = λ ts xs p n. pos (running_sum m (input xs 0) (n + 1));
    }

-- the difference of an item and the one before it modulo m (GNU Radio manual)
abbrev pub diff_decoder : ℕ → Meaning
diff_decoder m =
    record (sync Byte Byte) {
      history = 2;
      out = λ ts xs p n. pos (residue (item (input xs 0) n -ℤ item_before (input xs 0) n 1) m);
    }

-- place j, counted from 1, of a register or a mask: bit j - 1 of the number (own)
abbrev pub place_in : ℕ → ℕ → ℕ
place_in r j = r / 2 ^ (j - 1) % 2

-- what a register of so many bits holds, place 1 first: the newest bit stands there, the oldest at the last place
abbrev pub places_of : ℕ → ℕ → List ℕ
places_of bits r = map (place_in r) (numbers_from 1 bits)

-- the number of a register that holds the first bits of a list
abbrev pub register_of : ℕ → List ℕ → ℕ
register_of bits held = sum (map (λ j. slice_index_or held (j - 1) 0 * 2 ^ (j - 1)) (numbers_from 1 bits))

-- the sum over the places j of mask j times the bit that the list holds there
abbrev pub masked : ℕ → ℕ → List ℕ → ℕ
masked bits mask held = sum (map (λ j. place_in mask j * slice_index_or held (j - 1) 0) (numbers_from 1 bits))

-- the lowest bit of item n
abbrev pub low_bit : List ℤ → ℕ → ℕ
low_bit x n = residue (item x n) 2

-- the outputs y[n-1], y[n-2], .., y[0] of a scrambler, and then y[-1], y[-2], .., which are the places of init:
-- y[n] = x[n] + sum over j of mask j * y[n-j], modulo 2
abbrev pub scrambled : ℕ → ℕ → ℕ → List ℤ → ℕ → List ℕ
scrambled bits mask init x zero = places_of bits init
scrambled bits mask init x (suc n) = let ys = scrambled bits mask init x n in
    ((low_bit x n + masked bits mask ys) % 2) ∷ ys

-- the lowest bits of x[n-1], x[n-2], .., x[0], and then x[-1], x[-2], .., which are the places of init
abbrev pub received : ℕ → ℕ → List ℤ → ℕ → List ℕ
received bits init x zero = places_of bits init
received bits init x (suc n) = low_bit x n ∷ received bits init x n

-- the bits s[n-1], s[n-2], .., s[0] of a shift register with feedback, and then s[-1], s[-2], .., which are the places
-- of init: s[n] = sum over j of mask j * s[n-j], modulo 2
abbrev pub shifted : ℕ → ℕ → ℕ → ℕ → List ℕ
shifted bits mask init zero = places_of bits init
shifted bits mask init (suc n) = let ss = shifted bits mask init n in (masked bits mask ss % 2) ∷ ss

-- the newest bit of such a list
abbrev pub newest : List ℕ → ℕ
newest held = slice_index_or held 0 0

-- y[n] = x[n] + sum over j of mask j * y[n-j], modulo 2 (textbook multiplicative scrambler; mask and init as numbers
-- are own); the word is the register of the last outputs
abbrev pub scrambler : ℕ → ℕ → ℕ → Meaning
scrambler bits mask init =
    record (sync Byte Byte) {
      start = init;
      word = λ ts xs k. register_of bits (scrambled bits mask init (input xs 0) k);
      out = λ ts xs p n. pos (newest (scrambled bits mask init (input xs 0) (suc n)));
    }

-- y[n] = x[n] + sum over j of mask j * x[n-j], modulo 2 (textbook self-synchronizing descrambler); the word is the
-- register of the last input bits
abbrev pub descrambler : ℕ → ℕ → ℕ → Meaning
descrambler bits mask init =
    record (sync Byte Byte) {
      start = init;
      word = λ ts xs k. register_of bits (received bits init (input xs 0) k);
      out = λ ts xs p n. pos ((low_bit (input xs 0) n + masked bits mask (received bits init (input xs 0) n)) % 2);
    }

-- y[n] = x[n] + s[n], modulo 2, where s is what a shift register with feedback gives by itself (textbook additive
-- scrambler); the word is that register
abbrev pub additive_scrambler : ℕ → ℕ → ℕ → Meaning
additive_scrambler bits mask init =
    record (sync Byte Byte) {
      start = init;
      word = λ ts xs k. register_of bits (shifted bits mask init k);
      out = λ ts xs p n. pos ((low_bit (input xs 0) n + newest (shifted bits mask init (suc n))) % 2);
    }
