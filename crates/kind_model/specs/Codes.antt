-- The kinds that check and code frames and symbols. All ports have bytes.
use Rattle.std.specs.Prelude.{◌≡◌, ℕ, zero, suc, ◌+◌, ◌-◌, ◌*◌, ◌/◌, ◌%◌, ◌^◌, ◌<◌, ◌≤◌, ℤ, pos, List, [], ◌∷◌, All, length, map, slice_index_or, nat_lt, if◌then◌else◌, bit_xor}
use Rattle.std.specs.List.{list_all}
use Rattle.std.specs.Ordering.{int_eq}
use Rattle.stream_model.specs.declared.vocabulary.ItemType.TheVariants.{Byte}
use Rattle.kind_model.specs.declared.vocabulary.BitOrder.{BitOrder}
use Rattle.kind_model.specs.declared.vocabulary.Checksum.{Checksum}
use Rattle.stream_model.specs.Numbers.{AreItems, residue}
use Rattle.stream_model.specs.Lists.{numbers_from, below, item}
use Rattle.stream_model.specs.Meaning.{Meaning, input}
use Rattle.stream_model.specs.Shapes.{ports, at_rate, sync}
use Rattle.kind_model.specs.BitStreams.{place_by, number_by, stream_bit}

-- a register of so many bits behind one more bit of a message: it moves up by a bit, and where the bit that leaves it
-- differs from the one that comes, the polynomial is added modulo 2 (textbook division of polynomials by a shift
-- register)
abbrev pub divided : ℕ → ℕ → ℕ → ℕ → ℕ
divided bits polynomial r b = bit_xor (2 * r % 2 ^ bits) (bit_xor (r / 2 ^ (bits - 1)) b * polynomial)

-- the register behind these bits
abbrev pub remainder : ℕ → ℕ → ℕ → List ℕ → ℕ
remainder bits polynomial r [] = r
remainder bits polynomial r (b ∷ bs) = remainder bits polynomial (divided bits polynomial r b) bs

-- the number that has the bits of a register, of which the highest is the first
abbrev pub in_order : BitOrder → ℕ → ℕ → ℕ
in_order o bits r = number_by o (map (λ j. r / 2 ^ (bits - 1 - j) % 2) (below bits))

-- the checksum of n bytes of a stream, from byte a on
abbrev pub checksum : Checksum → List ℤ → ℕ → ℕ → ℕ
checksum c x a n = bit_xor (in_order c.order c.bits (remainder c.bits c.polynomial c.init
    (map (stream_bit c.order 8 x) (numbers_from (8 * a) (8 * n))))) c.final_xor

-- how many bytes hold it
abbrev pub bytes_of : Checksum → ℕ
bytes_of c = (c.bits + 7) / 8

-- byte j of them: where the highest bit of a byte comes first, the highest byte does
abbrev pub checksum_byte : Checksum → ℕ → ℕ → ℤ
checksum_byte c sum j = pos (sum / 256 ^ place_by c.order (bytes_of c) j % 256)

-- byte r of a frame of n bytes that begins at byte a, behind which its checksum comes
abbrev pub with_checksum : Checksum → ℕ → List ℤ → ℕ → ℕ → ℤ
with_checksum c n x a r = if nat_lt r n then item x (a + r) else checksum_byte c (checksum c x a n) (r - n)

-- each n bytes, and then their checksum (GNU Radio manual: crc_append; frames of one length are own)
abbrev pub crc_append : ℕ → Checksum → Meaning
crc_append n c =
    let m = n + bytes_of c in
    record (at_rate (ports 1 Byte) (ports 1 Byte) n m) {
      out = λ ts xs p k. with_checksum c n (input xs 0) (k / m * n)
          (k % m);
    }

-- 1 where the bytes behind a frame of n bytes that begins at byte a are its checksum, else 0
abbrev pub is_checked : Checksum → ℕ → List ℤ → ℕ → ℕ
is_checked c n x a =
    if list_all (λ j. int_eq (item x (a + n + j)) (checksum_byte c (checksum c x a n) j))
    (below (bytes_of c)) then 1 else 0

-- of each n bytes with the checksum behind them, whether it is theirs (GNU Radio manual: crc_check, which drops frames
-- that have another)
abbrev pub crc_check : ℕ → Checksum → Meaning
crc_check n c =
    let m = n + bytes_of c in
    record (at_rate (ports 1 Byte) (ports 1 Byte) m 1) { out = λ ts xs p k. pos (is_checked c n (input xs 0) (k * m)) }

-- which checksums there are, and how long a frame may be (GNU Radio manual: at least 8 bits; the other limits are own)
pub record IsChecksum (c : Checksum) (n : ℕ) : Type 0 where
  pub least : 8 ≤ c.bits
  pub most : c.bits ≤ 32
  pub polynomial : c.polynomial < 2 ^ c.bits
  pub init : c.init < 2 ^ c.bits
  pub final_xor : c.final_xor < 2 ^ c.bits
  pub some : 1 ≤ n
  pub few : n ≤ 1020

-- where a table of a machine has what belongs to a state and an item, which is taken modulo the number of symbols: the
-- symbols of state 0 come first, then those of state 1, and so on
abbrev pub row_of : ℕ → ℕ → ℤ → ℕ
row_of symbols state z = state * symbols + residue z symbols

-- the state behind the first n items
abbrev pub state_after : ℕ → List ℕ → ℕ → List ℤ → ℕ → ℕ
state_after symbols next start x zero = start
state_after symbols next start x (suc n) = slice_index_or next (row_of symbols (state_after symbols next start x n)
    (item x n)) 0

-- a machine that goes from state to state and gives an item for each: y[n] is the output of its state and x[n], and the
-- next state that of both (GNU Radio manual: trellis.encoder; that items are taken modulo the number of symbols is
-- own); the word is the state
abbrev pub state_machine : ℕ → List ℕ → List ℤ → ℕ → Meaning
state_machine symbols next output start =
    record (sync Byte Byte) {
      start = start;
      word = λ ts xs k. state_after symbols next start (input xs 0) k;
      out = λ ts xs p n. item output (row_of symbols (state_after symbols next start (input xs 0) n)
          (item (input xs 0) n));
    }

-- which machines there are: whole rows of symbols, each next state and the first one a state, outputs that are bytes
-- (the limits are own)
pub record IsMachine (symbols : ℕ) (next : List ℕ) (output : List ℤ) (start : ℕ) : Type 0 where
  pub some : 1 ≤ symbols
  pub few : length next ≤ 4096
  pub whole : length next / symbols * symbols ≡ length next
  pub states : All (λ s. s < length next / symbols) next
  pub outputs : length output ≡ length next
  pub bytes : AreItems Byte output
  pub begins : start < length next / symbols
