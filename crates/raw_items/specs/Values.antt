-- What bytes are as items, and items as bytes.
use Rattle.std.specs.Prelude.{ℕ, zero, suc, ◌+◌, ◌*◌, ◌/◌, ◌%◌, ℤ, pos, List, [], ◌∷◌, map, reverse}
use Rattle.std.specs.List.{flat_map}
use Rattle.stream_model.specs.Numbers.{numbers_in, residue, wrap}
use Rattle.stream_model.specs.declared.vocabulary.ItemType.{ItemType}
use Rattle.raw_items.specs.Layout.{size_of, parts_of}
use Rattle.raw_items.specs.declared.byte_order.ByteOrder.{ByteOrder}
use Rattle.raw_items.specs.declared.byte_order.ByteOrder.TheVariants.{Little, Big}

-- the number that bytes are, the lowest first
abbrev pub number_of : List ℕ → ℕ
number_of [] = 0
number_of (b ∷ bytes) = b + 256 * number_of bytes

-- the lowest n bytes of a number, the lowest first
abbrev pub low_bytes : ℕ → ℕ → List ℕ
low_bytes zero x = []
low_bytes (suc n) x = x % 256 ∷ low_bytes n (x / 256)

-- bytes that stand with the lowest first, in the order; and the other way about
abbrev pub in_order : ByteOrder → List ℕ → List ℕ
in_order Little bytes = bytes
in_order Big bytes = reverse bytes

-- the item that its bytes are: of the type's numbers, the one that equals theirs modulo how many there are
abbrev pub item_of : ItemType → ByteOrder → List ℕ → ℤ
item_of t order bytes = wrap t (pos (number_of (in_order order bytes)))

-- the bytes of an item
abbrev pub bytes_of : ItemType → ByteOrder → ℤ → List ℕ
bytes_of t order z = in_order order (low_bytes (size_of t) (residue z (numbers_in t)))

-- the whole items that bytes are, in order
abbrev pub items_of : ItemType → ByteOrder → List ℕ → List ℤ
items_of t order bytes = map (item_of t order) (parts_of t bytes)

-- the bytes of items, in order
abbrev pub all_bytes_of : ItemType → ByteOrder → List ℤ → List ℕ
all_bytes_of t order zs = flat_map (bytes_of t order) zs
