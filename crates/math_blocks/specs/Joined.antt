-- Blocks that make each item of one item of each input.
use Rattle.std.specs.Prelude.{◌≡◌, ◌≤◌, ℕ, ℤ, pos, ◌+ℤ◌, ◌-ℤ◌, ◌*ℤ◌, List, [], ◌∷◌, ◌++◌, length, All, true, ◌&&◌}
use Rattle.std.specs.Cmp.{first_so}
use denote.Enum.Bare.{sameb}
use Rattle.std.proofs.Common.{ap, ◌∙◌}
use Rattle.stream_model.specs.contracts.vocabulary.ItemType.{the_type}
use Rattle.stream_model.specs.declared.vocabulary.ItemType.{ItemType}
use Rattle.stream_model.specs.Numbers.{IsItem, least_of, greatest_of, wrap, total}
use Rattle.kind_model.specs.Kernels.{lesser, greater}
use Rattle.stream_model.specs.Meaning.{Meaning}
use Rattle.stream_model.specs.Shapes.{ports, any_ports, at_rate}
use Rattle.kind_model.specs.Math.{items_at, difference, product, least_up_to, greatest_down_to, all_bits}
use Rattle.items.specs.declared.stream_items.Items.{Items}
use Rattle.items.specs.Items.{type_of, numbers_of, spare_of}
use Rattle.block_trait.specs.SameItem.{same_item}
use Rattle.math_blocks.specs.declared.joined.Joined.{Joined}

-- one input or more, and one output, whose items are what `joins` makes of the inputs' items
abbrev pub joined_of : (ItemType → List ℤ → ℤ) → ItemType → Meaning
joined_of joins t = record (at_rate (any_ports t) (ports 1 t) 1 1) { out = λ ts xs p n. joins t (items_at xs n) }

-- blocks that the derived test finds equal mean the same
pub joined-same : {J : Type 0} (equation : ItemType → Meaning) (a b : Joined J) → (sameb the_type a.item b.item && true)
    ≡ true → equation a.item ≡ equation b.item
joined-same equation a b e = ap equation (same_item a.item b.item (first_so (sameb the_type a.item b.item) true e))

-- what is made of one number is the number, and of one more is made by `pair` of it and what was made of the others
pub record IsFold (joins : ItemType → List ℤ → ℤ) (pair : ItemType → ℤ → ℤ → ℤ) : Type 0 where
  pub alone : (t : ItemType) (z : ℤ) → IsItem t z → joins t (z ∷ []) ≡ z
  pub one_more : (t : ItemType) (zs : List ℤ) (z : ℤ) → joins t (zs ++ z ∷ []) ≡ pair t (joins t zs) z

-- what is made of one number is made by `alone`, of two by `pair`, and of one more by `pair` of it and what was made of
-- the others
pub record AreJoined (joins : ItemType → List ℤ → ℤ) (alone : ItemType → ℤ → ℤ) (pair : ItemType → ℤ → ℤ → ℤ) : Type 0
  where
    pub one : (t : ItemType) (z : ℤ) → IsItem t z → joins t (z ∷ []) ≡ alone t z
    pub two : (t : ItemType) (y z : ℤ) → IsItem t y → joins t (y ∷ z ∷ []) ≡ pair t y z
    pub one_more : (t : ItemType) (x y : ℤ) (zs : List ℤ) (z : ℤ) → joins t (x ∷ y ∷ zs ++ z ∷ [])
        ≡ pair t (joins t (x ∷ y ∷ zs)) z

-- a number as it is
abbrev pub itself : ItemType → ℤ → ℤ
itself t z = z

-- what is made one number after the other from the first on is joined so
pub fold_joined : (joins : ItemType → List ℤ → ℤ) (pair : ItemType → ℤ → ℤ → ℤ) → IsFold joins pair
    → AreJoined joins itself pair
fold_joined joins pair fold =
    record {
      one = fold.alone;
      two = λ t y z are. fold.one_more t (y ∷ []) z ∙ ap (λ x. pair t x z) (fold.alone t y are);
      one_more = λ t x y zs z. fold.one_more t (x ∷ y ∷ zs) z;
    }

-- windows with so many items each, one window or more, can be joined into an empty output with room for what is made
pub record CanJoin (count : ℕ) (windows : List Items) (out : Items) : Type 0 where
  pub some : 1 ≤ length windows
  pub same_type : All (λ w. type_of w ≡ type_of out) windows
  pub same_length : All (λ w. length (numbers_of w) ≡ count) windows
  pub empty : numbers_of out ≡ []
  pub room : count ≤ spare_of out

-- the wrapped sum of numbers, and of two
abbrev pub sum_of : ItemType → List ℤ → ℤ
sum_of t zs = wrap t (total zs)

abbrev pub sum_of_two : ItemType → ℤ → ℤ → ℤ
sum_of_two t y z = wrap t (y +ℤ z)

-- the wrapped difference of numbers, of one and of two
abbrev pub difference_of : ItemType → List ℤ → ℤ
difference_of t zs = wrap t (difference zs)

abbrev pub negative_of : ItemType → ℤ → ℤ
negative_of t z = wrap t (pos 0 -ℤ z)

abbrev pub difference_of_two : ItemType → ℤ → ℤ → ℤ
difference_of_two t y z = wrap t (y -ℤ z)

-- the wrapped product of numbers, and of two
abbrev pub product_of : ItemType → List ℤ → ℤ
product_of t zs = wrap t (product zs)

abbrev pub product_of_two : ItemType → ℤ → ℤ → ℤ
product_of_two t y z = wrap t (y *ℤ z)

-- the least of numbers of a type, and the greatest; of two the lesser, and the greater
abbrev pub least_among : ItemType → List ℤ → ℤ
least_among t zs = least_up_to (greatest_of t) zs

abbrev pub greatest_among : ItemType → List ℤ → ℤ
greatest_among t zs = greatest_down_to (least_of t) zs

abbrev pub lesser_of_two : ItemType → ℤ → ℤ → ℤ
lesser_of_two t y z = lesser y z

abbrev pub greater_of_two : ItemType → ℤ → ℤ → ℤ
greater_of_two t y z = greater y z

-- the number with the bits of all numbers, joined bit for bit by op, where `none` joins to nothing new
abbrev pub bits_of_all : (ℕ → ℕ → ℕ) → (ItemType → ℕ) → ItemType → List ℤ → ℤ
bits_of_all op none t zs = wrap t (pos (all_bits op (none t) t zs))
