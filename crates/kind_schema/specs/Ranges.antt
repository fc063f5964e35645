-- What a parameter of a block may be.
use Rattle.std.specs.Prelude.{ℕ, ◌+◌, ◌-◌, ◌*◌, ◌/◌, ◌^◌, ℤ, pos, int_le, int_lt, List, [], ◌∷◌, length, sum, Bool, true, false, ◌&&◌, not, nat_eq, nat_le, nat_lt, Option, Some, None, is_some}
use Rattle.std.specs.List.{list_all}
use Rattle.std.specs.Ordering.{int_eq}
use Rattle.toml.specs.Data.{Members}
use Rattle.stream_model.specs.declared.vocabulary.ItemType.{ItemType}
use Rattle.stream_model.specs.declared.vocabulary.ItemType.TheVariants.{Byte, Short, Int}
use Rattle.stream_model.specs.Numbers.{least_of, greatest_of, bits_of}
use Rattle.rate_blocks.specs.Lengths.{unsigned}
use Rattle.block_parameters.specs.declared.fault.Parameter.{Parameter}
use Rattle.block_parameters.specs.declared.fault.Parameter.TheVariants as parameters
use Rattle.kind_schema.specs.declared.key.Key.{Key}
use Rattle.kind_schema.specs.declared.key.Key.TheVariants as keys
use Rattle.kind_schema.specs.declared.range.ItemTypes.{ItemTypes}
use Rattle.kind_schema.specs.declared.range.ItemTypes.TheVariants as types
use Rattle.kind_schema.specs.declared.range.Range.{Range}
use Rattle.kind_schema.specs.declared.range.Range.TheVariants as ranges
use Rattle.kind_schema.specs.Tables.{number_at, count_at, small_at, known_at, numbers_at, text_at, type_at, type_or_byte, order_at}

-- a parameter as a key
abbrev pub parameter : Parameter → Key
parameter p = keys.Parameter p

-- tests of numbers
abbrev pub is_in : ItemType → ℤ → Bool
is_in t z = int_le (least_of t) z && int_le z (greatest_of t)

abbrev pub is_within : ℕ → ℕ → ℕ → Bool
is_within least most n = nat_le least n && nat_le n most

-- tests of lists: items of a type, of which the taps of a filter are shorts, a table of bytes, the lengths of a mux,
-- the places of a frame
abbrev pub are_items : ItemType → List ℤ → Bool
are_items t zs = is_within 1 256 (length zs) && list_all (is_in t) zs

abbrev pub are_taps : List ℤ → Bool
are_taps zs = are_items Short zs

abbrev pub are_bytes : List ℤ → Bool
are_bytes zs = nat_le (length zs) 256 && list_all (is_in Byte) zs

abbrev pub are_lengths : List ℤ → Bool
are_lengths zs =
    is_within 1 16 (length zs) && (list_all (int_le (pos 1)) zs && (list_all (is_within 1 1024) (unsigned zs) && nat_le
    (sum (unsigned zs)) 1024))

abbrev pub are_distinct : List ℤ → Bool
are_distinct [] = true
are_distinct (z ∷ zs) = list_all (λ y. not (int_eq z y)) zs && are_distinct zs

abbrev pub are_places : List ℤ → Bool
are_places zs = is_within 1 256 (length zs) && (list_all (λ z. int_le (pos 0) z && int_lt z (pos (length zs))) zs &&
    are_distinct zs)

-- next states in whole rows of symbols, each the number of a row; a byte for each of them; and the number of a row
abbrev pub are_states : ℕ → List ℤ → Bool
are_states symbols zs =
    is_within 1 4096 (length zs) && (nat_eq (length zs / symbols * symbols) (length zs) && list_all
    (λ z. int_le (pos 0) z && int_lt z (pos (length zs / symbols))) zs)

abbrev pub are_outputs : List ℤ → List ℤ → Bool
are_outputs next zs = nat_eq (length zs) (length next) && list_all (is_in Byte) zs

abbrev pub is_state : ℕ → List ℤ → ℕ → Bool
is_state symbols next n = nat_lt n (length next / symbols)

-- next states of at most 1,024 states; a number of an output for each of them; steps of a block; and a state that may
-- be not known
abbrev pub are_few_states : ℕ → List ℤ → Bool
are_few_states symbols zs = are_states symbols zs && nat_le (length zs / symbols) 1024

abbrev pub are_numbers_below : ℕ → List ℤ → List ℤ → Bool
are_numbers_below outputs next zs = nat_eq (length zs) (length next) && list_all
    (λ z. int_le (pos 0) z && int_lt z (pos outputs)) zs

abbrev pub are_steps : ℕ → ℕ → ℕ → Bool
are_steps steps outputs states = nat_le 1 steps && (nat_le (steps * outputs) 1024 && nat_le (steps * states) 16384)

abbrev pub is_known_state : ℕ → List ℤ → Option ℕ → Bool
is_known_state symbols next None = true
is_known_state symbols next (Some s) = is_state symbols next s

-- a text has 1 to 64 digits, each 0 or 1
abbrev pub is_code : List ℕ → Bool
is_code text = is_within 1 64 (length text) && list_all (is_within 48 49) text

-- a kind is one for items of a type
abbrev pub is_wide : ItemType → Bool
is_wide Byte = false
is_wide Short = true
is_wide Int = true

abbrev pub are_among : ItemTypes → ItemType → Bool
are_among types.Bytes t = true
are_among types.Any t = true
are_among types.Wide t = is_wide t

-- a number of this many bits, at least the first
abbrev pub has_bits : ℕ → ℕ → ℕ → Bool
has_bits least bits n = nat_le least n && nat_lt n (2 ^ bits)

-- what stands in a table at a parameter of a block on items of a type lies in its range
abbrev pub lies_in : Range → ItemType → Members → Parameter → Bool
lies_in ranges.Type t ms p = is_some (type_at ms (parameter p))
lies_in ranges.Item t ms p = is_in t (number_at ms (parameter p))
lies_in ranges.Short t ms p = is_in Short (number_at ms (parameter p))
lies_in (ranges.Number least most) t ms p = is_within least most (small_at ms (parameter p))
lies_in (ranges.Long most) t ms p = nat_le (count_at ms (parameter p)) most
lies_in (ranges.Register least) t ms p = has_bits least (small_at ms (parameter parameters.Bits))
    (count_at ms (parameter p))
lies_in ranges.Switch t ms p = int_le (pos 0) (number_at ms (parameter p)) && int_le (number_at ms (parameter p))
    (pos 1)
lies_in ranges.High t ms p = is_in t (number_at ms (parameter p)) && int_le (number_at ms (parameter parameters.Low))
    (number_at ms (parameter p))
lies_in (ranges.AtLeast q most) t ms p = is_within (small_at ms (parameter q)) most (small_at ms (parameter p))
lies_in ranges.KeptOffset t ms p = nat_le (small_at ms (parameter p) + small_at ms (parameter parameters.M))
    (small_at ms (parameter parameters.N))
lies_in ranges.Period t ms p = nat_lt (length (numbers_at ms (parameter parameters.Values))) (small_at ms (parameter p))
    && nat_le (small_at ms (parameter p)) 1024
lies_in ranges.ValuesOffset t ms p = nat_le (small_at ms (parameter p))
    (small_at ms (parameter parameters.Period) - length (numbers_at ms (parameter parameters.Values)))
lies_in ranges.ItemBits t ms p = is_within 1 (bits_of t) (small_at ms (parameter p))
lies_in ranges.BitOrder t ms p = is_some (order_at ms (parameter p))
lies_in ranges.Code t ms p = is_code (text_at ms (parameter p))
lies_in ranges.Threshold t ms p = nat_le (small_at ms (parameter p)) (length (text_at ms (parameter parameters.Code)))
lies_in ranges.Items t ms p = are_items t (numbers_at ms (parameter p))
lies_in ranges.TargetItems t ms p = are_items (type_or_byte (type_at ms (parameter parameters.To)))
    (numbers_at ms (parameter p))
lies_in ranges.Places t ms p = are_places (numbers_at ms (parameter p))
lies_in ranges.Taps t ms p = are_taps (numbers_at ms (parameter p))
lies_in ranges.Bytes t ms p = are_bytes (numbers_at ms (parameter p))
lies_in ranges.Lengths t ms p = are_lengths (numbers_at ms (parameter p))
lies_in ranges.States t ms p = are_states (small_at ms (parameter parameters.Symbols)) (numbers_at ms (parameter p))
lies_in ranges.Outputs t ms p = are_outputs (numbers_at ms (parameter parameters.Next)) (numbers_at ms (parameter p))
lies_in ranges.State t ms p = is_state (small_at ms (parameter parameters.Symbols))
    (numbers_at ms (parameter parameters.Next)) (small_at ms (parameter p))
lies_in ranges.FewStates t ms p = are_few_states (small_at ms (parameter parameters.Symbols))
    (numbers_at ms (parameter p))
lies_in ranges.NumbersOfOutputs t ms p = are_numbers_below (small_at ms (parameter parameters.Outputs))
    (numbers_at ms (parameter parameters.Next)) (numbers_at ms (parameter p))
lies_in ranges.Steps t ms p =
    are_steps (small_at ms (parameter p)) (small_at ms (parameter parameters.Outputs))
    (length (numbers_at ms (parameter parameters.Next)) / small_at ms (parameter parameters.Symbols))
lies_in ranges.KnownState t ms p = is_known_state (small_at ms (parameter parameters.Symbols))
    (numbers_at ms (parameter parameters.Next)) (known_at ms (parameter p))
