-- How many bytes an item has, and how bytes stand one behind the other.
use Rattle.std.specs.Prelude.{ℕ, ◌*◌, ◌/◌, List, length, drop}
use Rattle.std.specs.Simd.{first_chunks}
use Rattle.stream_model.specs.Numbers.{bits_of}
use Rattle.stream_model.specs.declared.vocabulary.ItemType.{ItemType}

-- a byte has eight bits
abbrev pub size_of : ItemType → ℕ
size_of t = bits_of t / 8

-- how many whole items so many bytes are
abbrev pub count_of : ItemType → List ℕ → ℕ
count_of t bytes = length bytes / size_of t

-- the bytes of each whole item
abbrev pub parts_of : ItemType → List ℕ → List (List ℕ)
parts_of t bytes = first_chunks (size_of t) (count_of t bytes) bytes

-- the bytes behind the last whole item, those of an item whose end has not come
abbrev pub cut_of : ItemType → List ℕ → List ℕ
cut_of t bytes = drop (count_of t bytes * size_of t) bytes
