-- What stands in a table of a graph file, and the tests of its keys.
use Rattle.std.specs.Prelude.{ℕ, ◌+◌, ◌-◌, ◌*◌, ◌^◌, min, ℤ, pos, negsuc, List, [], ◌∷◌, Bool, true, false, ◌&&◌, if◌then◌else◌, Option, Some, None, is_some, bytes_eq, codes}
use Rattle.std.specs.List.{list_any}
use Rattle.toml.specs.Data.{Data, Items, no_items, item, Members, no_members, member, get_member, as_str, as_integer, as_array, as_table}
use Rattle.stream_model.specs.declared.vocabulary.ItemType.{ItemType}
use Rattle.stream_model.specs.declared.vocabulary.ItemType.TheVariants.{Byte, Short, Int}
use Rattle.kind_model.specs.declared.vocabulary.BitOrder.{BitOrder}
use Rattle.kind_model.specs.declared.vocabulary.BitOrder.TheVariants.{MsbFirst, LsbFirst}
use Rattle.stream_model.specs.declared.vocabulary.Policy.{Policy}
use Rattle.stream_model.specs.declared.vocabulary.Policy.TheVariants as policy
use Rattle.kind_schema.specs.declared.key.Key.{Key}
use Rattle.kind_schema.specs.declared.key.ValueForm.{ValueForm}
use Rattle.kind_schema.specs.declared.key.ValueForm.TheVariants.{Text, Number, Numbers, Tables, Choice}
use Rattle.kind_schema.specs.declared.fault.KeyFault.{KeyFault}
use Rattle.kind_schema.specs.declared.fault.KeyFault.TheVariants.{MissingKey, WrongType}
use Rattle.kind_schema.specs.Keys.{text_of, form_of, is_needed, missing}

-- what stands at a key
abbrev pub at_key : Key → Members → Option Data
at_key key ms = get_member (text_of key) ms

-- the text at a key; empty where there is none
abbrev pub text_in : Option (List ℕ) → List ℕ
text_in None = []
text_in (Some text) = text

abbrev pub string_in : Option Data → Option (List ℕ)
string_in None = None
string_in (Some d) = as_str d

abbrev pub text_at : Members → Key → List ℕ
text_at ms key = text_in (string_in (at_key key ms))

-- the whole number at a key, or what stands for a missing one
abbrev pub integer_or : ℤ → Option ℤ → ℤ
integer_or z None = z
integer_or z (Some n) = n

abbrev pub integer_in : Option Data → Option ℤ
integer_in None = None
integer_in (Some d) = as_integer d

abbrev pub number_at : Members → Key → ℤ
number_at ms key = integer_or (missing key) (integer_in (at_key key ms))

-- the number as one that is not negative: a negative one counts as the greatest of 64 bits, which nothing may be
abbrev pub count_of : ℤ → ℕ
count_of (pos n) = n
count_of (negsuc n) = 2 ^ 64 - 1

abbrev pub count_at : Members → Key → ℕ
count_at ms key = count_of (number_at ms key)

-- the same in 32 bits
abbrev pub small_at : Members → Key → ℕ
small_at ms key = min (count_at ms key) (2 ^ 32 - 1)

-- the number of a state in 32 bits; none where the number is less than 0
abbrev pub known_of : ℤ → ℕ → Option ℕ
known_of (pos n) s = Some s
known_of (negsuc n) s = None

abbrev pub known_at : Members → Key → Option ℕ
known_at ms key = known_of (number_at ms key) (small_at ms key)

-- the items of the array at a key; none where there is none
abbrev pub items_in : Option Items → Items
items_in None = no_items
items_in (Some ds) = ds

abbrev pub array_in : Option Data → Option Items
array_in None = None
array_in (Some d) = as_array d

abbrev pub items_at : Members → Key → Items
items_at ms key = items_in (array_in (at_key key ms))

-- the whole numbers of an array
abbrev pub numbers_of : Items → List ℤ
numbers_of no_items = []
numbers_of (item d ds) = integer_or (pos 0) (as_integer d) ∷ numbers_of ds

abbrev pub numbers_at : Members → Key → List ℤ
numbers_at ms key = numbers_of (items_at ms key)

-- the type of a text, none where it is the text of no type. Where there is no text it is the type of bytes
abbrev pub type_named : List ℕ → Option ItemType
type_named text =
    if bytes_eq text (codes "byte") then Some Byte else if bytes_eq text (codes "short") then Some
    Short else if bytes_eq text (codes "int") then Some Int else None

abbrev pub type_in : Option (List ℕ) → Option ItemType
type_in None = Some Byte
type_in (Some text) = type_named text

abbrev pub type_at : Members → Key → Option ItemType
type_at ms key = type_in (string_in (at_key key ms))

-- the type that a name is of, that of bytes where it is of none
abbrev pub type_or_byte : Option ItemType → ItemType
type_or_byte None = Byte
type_or_byte (Some t) = t

-- the order of bits of a text, none where it is the text of no order. Where there is no text the highest comes first
abbrev pub order_named : List ℕ → Option BitOrder
order_named text = if bytes_eq text (codes "msb_first") then Some MsbFirst else if bytes_eq text
    (codes "lsb_first") then Some LsbFirst else None

abbrev pub order_in : Option (List ℕ) → Option BitOrder
order_in None = Some MsbFirst
order_in (Some text) = order_named text

abbrev pub order_at : Members → Key → Option BitOrder
order_at ms key = order_in (string_in (at_key key ms))

abbrev pub order_or_msb : Option BitOrder → BitOrder
order_or_msb None = MsbFirst
order_or_msb (Some order) = order

-- the number whose binary digits a text has, the highest first
abbrev pub code_from : ℕ → List ℕ → ℕ
code_from n [] = n
code_from n (c ∷ text) = code_from (2 * n + (c - 48)) text

abbrev pub code_at : Members → Key → ℕ
code_at ms key = code_from 0 (text_at ms key)

-- which tags pass, by a text, none where it is the text of no choice. Where there is no text all do
abbrev pub policy_named : List ℕ → Option Policy
policy_named text =
    if bytes_eq text (codes "all") then Some policy.All else if bytes_eq text (codes "none") then Some
    policy.None else if bytes_eq text (codes "one") then Some policy.One else None

-- all items of an array pass a test
abbrev pub each_item : (Data → Bool) → Items → Bool
each_item test no_items = true
each_item test (item d ds) = test d && each_item test ds

-- a value is an array of such items
abbrev pub is_array_of : (Data → Bool) → Option Items → Bool
is_array_of test None = false
is_array_of test (Some ds) = each_item test ds

-- a text is that of a choice
abbrev pub is_choice : Option (List ℕ) → Bool
is_choice None = false
is_choice (Some text) = is_some (policy_named text)

-- a value is a whole number, and a table
abbrev pub is_number : Data → Bool
is_number d = is_some (as_integer d)

abbrev pub is_table : Data → Bool
is_table d = is_some (as_table d)

-- a value has the form
abbrev pub fits : ValueForm → Data → Bool
fits Text d = is_some (as_str d)
fits Number d = is_number d
fits Numbers d = is_array_of is_number (as_array d)
fits Tables d = is_array_of is_table (as_array d)
fits Choice d = is_choice (as_str d)

-- what is wrong with what stands at a key
abbrev pub value_fault : Key → Option Data → Option KeyFault
value_fault key None = if is_needed key then Some (MissingKey key) else None
value_fault key (Some d) = if fits (form_of key) d then None else Some (WrongType key)

-- the same, of a table
abbrev pub key_fault : Members → Key → Option KeyFault
key_fault ms key = value_fault key (at_key key ms)

-- the first fault, none where there is none
abbrev pub or_else : Option KeyFault → Option KeyFault → Option KeyFault
or_else None g = g
or_else (Some f) g = Some f

-- what is wrong at the first of these keys at which something is
abbrev pub keys_fault : Members → List Key → Option KeyFault
keys_fault ms [] = None
keys_fault ms (key ∷ keys) = or_else (key_fault ms key) (keys_fault ms keys)

-- a text is one of these keys
abbrev pub is_known : List Key → List ℕ → Bool
is_known keys text = list_any (λ key. bytes_eq text (text_of key)) keys

-- a table has no other keys than these
abbrev pub has_only : List Key → Members → Bool
has_only keys no_members = true
has_only keys (member text d ms) = is_known keys text && has_only keys ms
