-- The kinds of arithmetic, logic, tables and conversion are lawful.
use Rattle.std.specs.Ordering.{int_eq}
use Rattle.std.specs.Int.RustNames.{int_div}
use Rattle.std.specs.Prelude.{ℕ, ◌-◌, ◌*◌, ◌≤◌, ◌≡◌, zero, suc, ℤ, pos, negsuc, ◌≤ℤ◌, ◌+ℤ◌, ◌*ℤ◌, List, [], ◌∷◌, ◌++◌, length, take, min, All, unsigned_abs, int_lt, if◌then◌else◌, cond, true, false, bit_and, bit_or, bit_xor, refl}
use Rattle.std.proofs.Common.{ap, ap₂, subst, sym, ◌∙◌, arith, inl, inr}
use Rattle.std.proofs.lemmas.Bool.{cases_lt}
use Rattle.std.proofs.lemmas.Int.{ints}
use Rattle.std.proofs.lemmas.List.{get_or_past}
use Rattle.std.proofs.lemmas.List.Elements.{All-head, All-tail, All-cons}
use Rattle.stream_model.specs.declared.vocabulary.ItemType.{ItemType}
use Rattle.stream_model.specs.declared.vocabulary.ItemType.TheVariants.{Byte, Short, Int}
use Rattle.stream_model.specs.Numbers.{IsItem, AreItems, least_of, greatest_of, numbers_in, wrap, total}
use Rattle.stream_model.specs.Lists.{item}
use Rattle.kind_model.specs.Kernels.{scaled, bits_in, bits_joined, turned, divided, lesser, greater, absolute, clipped}
use Rattle.stream_model.specs.Meaning.{input, IsLawful}
use Rattle.stream_model.specs.Shapes.{number_set, number_at}
use Rattle.kind_model.specs.Math.{add_const, multiply_const, divide_const, divided_by, quotient, divide, sliced, binary_slicer, mu_law, ulaw_encode, a_law_parts, a_law, alaw_encode, bitwise_const, and_const, or_const, xor_const, scale, items_at, add, product, multiply, difference, sub, least_up_to, minimum, greatest_down_to, maximum, all_bits, bitwise, and_of, or_of, xor_of, last_taken, sample_and_hold, not_of, abs, clip, muted, mute, looked_up, map_bb, number_for, table, convert, moving_sum}
use Rattle.shape_laws.specs.Shaped.{IsItem-zero, IsItem-wrap, IsItem-sat, IsItem-item, AreItems-input, item-same, past-same, sum_below-same, one_for_one, shaped-lawful}

-- items n of inputs that agree there
items_at-same : (xs ys : List (List ℤ)) (n : ℕ) → length xs ≡ length ys
    → ((p : ℕ) → item (input xs p) n ≡ item (input ys p) n) → items_at xs n ≡ items_at ys n
items_at-same [] [] n e same = refl
items_at-same [] (y ∷ ys) n e same = (cc)
items_at-same (x ∷ xs) [] n e same = (cc)
items_at-same (x ∷ xs) (y ∷ ys) n e same = ap₂ ◌∷◌ (same 0) (items_at-same xs ys n (omega (arith, e))
    (λ p. same (suc p)))

pub add_const-lawful : (t : ItemType) (v : ℤ) → IsItem t v → IsLawful (add_const t v)
add_const-lawful t v fits =
    shaped-lawful _ _ _ _ _ _ _ _ _ _ one_for_one (omega arith) (omega arith) (fits.above, fits.below) (λ ts xs. refl)
    (λ ts xs p n h. IsItem-wrap t (item (input xs 0) n +ℤ number_at v ts n))
    (λ ts us xs ys k p n settings inputs h.
    ap₂ (λ a b. wrap t (a +ℤ b)) (item-same (input xs 0) (input ys 0) (1 * k) n (inputs.items 0) h)
    (ap number_set (settings n h)))
    (λ ts us xs ys k settings inputs. refl)

pub multiply_const-lawful : (t : ItemType) (v : ℤ) → IsItem t v → IsLawful (multiply_const t v)
multiply_const-lawful t v fits =
    shaped-lawful _ _ _ _ _ _ _ _ _ _ one_for_one (omega arith) (omega arith) (fits.above, fits.below) (λ ts xs. refl)
    (λ ts xs p n h. IsItem-wrap t (item (input xs 0) n *ℤ number_at v ts n))
    (λ ts us xs ys k p n settings inputs h.
    ap₂ (λ a b. wrap t (a *ℤ b)) (item-same (input xs 0) (input ys 0) (1 * k) n (inputs.items 0) h)
    (ap number_set (settings n h)))
    (λ ts us xs ys k settings inputs. refl)

-- a quotient is an item
IsItem-divided : (t : ItemType) (y z : ℤ) → IsItem t (divided t y z)
IsItem-divided t y z = elim (int_eq z (pos 0)) as (λ b. IsItem t (cond b (pos 0) (wrap t (int_div y z))))
    [ true ↦ IsItem-zero t | false ↦ IsItem-wrap t (int_div y z) ]

pub divide_const-lawful : (t : ItemType) (v : ℤ) → IsItem t v → IsLawful (divide_const t v)
divide_const-lawful t v fits =
    shaped-lawful _ _ _ _ _ _ _ _ _ _ one_for_one (omega arith) (omega arith) (fits.above, fits.below) (λ ts xs. refl)
    (λ ts xs p n h. IsItem-divided t (item (input xs 0) n) (number_at v ts n))
    (λ ts us xs ys k p n settings inputs h.
    ap₂ (divided t) (item-same (input xs 0) (input ys 0) (1 * k) n (inputs.items 0) h) (ap number_set (settings n h)))
    (λ ts us xs ys k settings inputs. refl)

pub bitwise_const-lawful : (op : ℕ → ℕ → ℕ) (t : ItemType) (v : ℤ) → IsItem t v → IsLawful (bitwise_const op t v)
bitwise_const-lawful op t v fits =
    shaped-lawful _ _ _ _ _ _ _ _ _ _ one_for_one (omega arith) (omega arith) (fits.above, fits.below) (λ ts xs. refl)
    (λ ts xs p n h. IsItem-wrap t _)
    (λ ts us xs ys k p n settings inputs h.
    ap₂ (bits_joined op t) (item-same (input xs 0) (input ys 0) (1 * k) n (inputs.items 0) h)
    (ap number_set (settings n h)))
    (λ ts us xs ys k settings inputs. refl)

pub and_const-lawful : (t : ItemType) (v : ℤ) → IsItem t v → IsLawful (and_const t v)
and_const-lawful t v = bitwise_const-lawful bit_and t v

pub or_const-lawful : (t : ItemType) (v : ℤ) → IsItem t v → IsLawful (or_const t v)
or_const-lawful t v = bitwise_const-lawful bit_or t v

pub xor_const-lawful : (t : ItemType) (v : ℤ) → IsItem t v → IsLawful (xor_const t v)
xor_const-lawful t v = bitwise_const-lawful bit_xor t v

pub scale-lawful : (t : ItemType) (factor : ℤ) (shift : ℕ) → IsItem Short factor → IsLawful (scale t factor shift)
scale-lawful t factor shift fits =
    shaped-lawful _ _ _ _ _ _ _ _ _ _ one_for_one (omega arith) (omega arith) (fits.above, fits.below) (λ ts xs. refl)
    (λ ts xs p n h. IsItem-sat t _)
    (λ ts us xs ys k p n settings inputs h.
    ap₂ (λ a b. scaled t b shift a) (item-same (input xs 0) (input ys 0) (1 * k) n (inputs.items 0) h)
    (ap number_set (settings n h)))
    (λ ts us xs ys k settings inputs. refl)

pub add-lawful : (t : ItemType) → IsLawful (add t)
add-lawful t =
    shaped-lawful _ _ _ _ _ _ _ _ _ _ one_for_one (omega arith) (omega arith) refl (λ ts xs. refl)
    (λ ts xs p n h. IsItem-wrap t (total (items_at xs n)))
    (λ ts us xs ys k p n settings inputs h.
    ap (λ zs. wrap t (total zs)) (items_at-same xs ys n inputs.ports
    (λ q. item-same (input xs q) (input ys q) (1 * k) n (inputs.items q) h)))
    (λ ts us xs ys k settings inputs. refl)

pub multiply-lawful : (t : ItemType) → IsLawful (multiply t)
multiply-lawful t =
    shaped-lawful _ _ _ _ _ _ _ _ _ _ one_for_one (omega arith) (omega arith) refl (λ ts xs. refl)
    (λ ts xs p n h. IsItem-wrap t (product (items_at xs n)))
    (λ ts us xs ys k p n settings inputs h.
    ap (λ zs. wrap t (product zs)) (items_at-same xs ys n inputs.ports
    (λ q. item-same (input xs q) (input ys q) (1 * k) n (inputs.items q) h)))
    (λ ts us xs ys k settings inputs. refl)

pub sub-lawful : (t : ItemType) → IsLawful (sub t)
sub-lawful t =
    shaped-lawful _ _ _ _ _ _ _ _ _ _ one_for_one (omega arith) (omega arith) refl (λ ts xs. refl)
    (λ ts xs p n h. IsItem-wrap t (difference (items_at xs n)))
    (λ ts us xs ys k p n settings inputs h.
    ap (λ zs. wrap t (difference zs)) (items_at-same xs ys n inputs.ports
    (λ q. item-same (input xs q) (input ys q) (1 * k) n (inputs.items q) h)))
    (λ ts us xs ys k settings inputs. refl)

-- one of two items is an item
IsItem-lesser : (t : ItemType) (y z : ℤ) → IsItem t y → IsItem t z → IsItem t (lesser y z)
IsItem-lesser t y z one other = elim (int_lt z y) as (λ b. IsItem t (cond b z y)) [ true ↦ other | false ↦ one ]

IsItem-greater : (t : ItemType) (y z : ℤ) → IsItem t y → IsItem t z → IsItem t (greater y z)
IsItem-greater t y z one other = elim (int_lt y z) as (λ b. IsItem t (cond b z y)) [ true ↦ other | false ↦ one ]

-- the ends of a type's range lie in it
pub IsItem-greatest : (t : ItemType) → IsItem t (greatest_of t)
IsItem-greatest Byte = record { above = omega (arith, ints); below = omega (arith, ints) }
IsItem-greatest Short = record { above = omega (arith, ints); below = omega (arith, ints) }
IsItem-greatest Int = record { above = omega (arith, ints); below = omega (arith, ints) }

pub IsItem-least : (t : ItemType) → IsItem t (least_of t)
IsItem-least Byte = record { above = omega (arith, ints); below = omega (arith, ints) }
IsItem-least Short = record { above = omega (arith, ints); below = omega (arith, ints) }
IsItem-least Int = record { above = omega (arith, ints); below = omega (arith, ints) }

-- items n of inputs of the type are such numbers
AreItems-items_at : (t : ItemType) (xs : List (List ℤ)) (n : ℕ) → All (AreItems t) xs → AreItems t (items_at xs n)
AreItems-items_at t [] n are = λ k d l. absurd (omega arith)
AreItems-items_at t (x ∷ xs) n are =
    All-cons (IsItem t) (item x n) (items_at xs n) (IsItem-item t x n (All-head (AreItems t) x xs are))
    (AreItems-items_at t xs n (All-tail (AreItems t) x xs are))

pub IsItem-least_up_to : (t : ItemType) (most : ℤ) (zs : List ℤ) → IsItem t most → AreItems t zs
    → IsItem t (least_up_to most zs)
IsItem-least_up_to t most [] fits are = fits
IsItem-least_up_to t most (z ∷ zs) fits are =
    IsItem-lesser t z (least_up_to most zs) (All-head (IsItem t) z zs are)
    (IsItem-least_up_to t most zs fits (All-tail (IsItem t) z zs are))

pub IsItem-greatest_down_to : (t : ItemType) (least : ℤ) (zs : List ℤ) → IsItem t least → AreItems t zs
    → IsItem t (greatest_down_to least zs)
IsItem-greatest_down_to t least [] fits are = fits
IsItem-greatest_down_to t least (z ∷ zs) fits are =
    IsItem-greater t z (greatest_down_to least zs) (All-head (IsItem t) z zs are)
    (IsItem-greatest_down_to t least zs fits (All-tail (IsItem t) z zs are))

lesser_comm : (y z : ℤ) → lesser y z ≡ lesser z y
lesser_comm y z = grind (arith, ints)

lesser_assoc : (x y z : ℤ) → lesser x (lesser y z) ≡ lesser (lesser x y) z
lesser_assoc x y z = grind (arith, ints)

greater_comm : (y z : ℤ) → greater y z ≡ greater z y
greater_comm y z = grind (arith, ints)

greater_assoc : (x y z : ℤ) → greater x (greater y z) ≡ greater (greater x y) z
greater_assoc x y z = grind (arith, ints)

-- one more number at the end
pub least-push : (most : ℤ) (zs : List ℤ) (z : ℤ) → least_up_to most (zs ++ z ∷ []) ≡ lesser (least_up_to most zs) z
least-push most [] z = lesser_comm z most
least-push most (x ∷ zs) z = ap (lesser x) (least-push most zs z) ∙ lesser_assoc x (least_up_to most zs) z

pub greatest-push : (least : ℤ) (zs : List ℤ) (z : ℤ) → greatest_down_to least (zs ++ z ∷ [])
    ≡ greater (greatest_down_to least zs) z
greatest-push least [] z = greater_comm z least
greatest-push least (x ∷ zs) z = ap (greater x) (greatest-push least zs z) ∙ greater_assoc x (greatest_down_to least zs)
    z

pub minimum-lawful : (t : ItemType) → IsLawful (minimum t)
minimum-lawful t =
    shaped-lawful _ _ _ _ _ _ _ _ _ _ one_for_one (omega arith) (omega arith) refl (λ ts xs. refl)
    (λ ts xs p n h. IsItem-least_up_to t (greatest_of t) (items_at xs n) (IsItem-greatest t)
    (AreItems-items_at t xs n h))
    (λ ts us xs ys k p n settings inputs h.
    ap (least_up_to (greatest_of t)) (items_at-same xs ys n inputs.ports
    (λ q. item-same (input xs q) (input ys q) (1 * k) n (inputs.items q) h)))
    (λ ts us xs ys k settings inputs. refl)

pub maximum-lawful : (t : ItemType) → IsLawful (maximum t)
maximum-lawful t =
    shaped-lawful _ _ _ _ _ _ _ _ _ _ one_for_one (omega arith) (omega arith) refl (λ ts xs. refl)
    (λ ts xs p n h. IsItem-greatest_down_to t (least_of t) (items_at xs n) (IsItem-least t)
    (AreItems-items_at t xs n h))
    (λ ts us xs ys k p n settings inputs h.
    ap (greatest_down_to (least_of t)) (items_at-same xs ys n inputs.ports
    (λ q. item-same (input xs q) (input ys q) (1 * k) n (inputs.items q) h)))
    (λ ts us xs ys k settings inputs. refl)

IsItem-divided_by : (t : ItemType) (y : ℤ) (zs : List ℤ) → IsItem t y → IsItem t (divided_by t y zs)
IsItem-divided_by t y [] is = is
IsItem-divided_by t y (z ∷ zs) is = IsItem-divided_by t (divided t y z) zs (IsItem-divided t y z)

IsItem-quotient : (t : ItemType) (zs : List ℤ) → AreItems t zs → IsItem t (quotient t zs)
IsItem-quotient t [] are = IsItem-zero t
IsItem-quotient t (z ∷ zs) are = IsItem-divided_by t z zs (All-head (IsItem t) z zs are)

pub divide-lawful : (t : ItemType) → IsLawful (divide t)
divide-lawful t =
    shaped-lawful _ _ _ _ _ _ _ _ _ _ one_for_one (omega arith) (omega arith) refl (λ ts xs. refl)
    (λ ts xs p n h. IsItem-quotient t (items_at xs n) (AreItems-items_at t xs n h))
    (λ ts us xs ys k p n settings inputs h.
    ap (quotient t) (items_at-same xs ys n inputs.ports (λ q. item-same (input xs q) (input ys q) (1 * k) n
    (inputs.items q) h)))
    (λ ts us xs ys k settings inputs. refl)

pub bitwise-lawful : (op : ℕ → ℕ → ℕ) (none : ℕ) (t : ItemType) → IsLawful (bitwise op none t)
bitwise-lawful op none t =
    shaped-lawful _ _ _ _ _ _ _ _ _ _ one_for_one (omega arith) (omega arith) refl (λ ts xs. refl)
    (λ ts xs p n h. IsItem-wrap t (pos (all_bits op none t (items_at xs n))))
    (λ ts us xs ys k p n settings inputs h.
    ap (λ zs. wrap t (pos (all_bits op none t zs)))
    (items_at-same xs ys n inputs.ports (λ q. item-same (input xs q) (input ys q) (1 * k) n (inputs.items q) h)))
    (λ ts us xs ys k settings inputs. refl)

pub and_of-lawful : (t : ItemType) → IsLawful (and_of t)
and_of-lawful t = bitwise-lawful bit_and (numbers_in t - 1) t

pub or_of-lawful : (t : ItemType) → IsLawful (or_of t)
or_of-lawful t = bitwise-lawful bit_or 0 t

pub xor_of-lawful : (t : ItemType) → IsLawful (xor_of t)
xor_of-lawful t = bitwise-lawful bit_xor 0 t

-- of streams whose first items agree the same is held
last_taken-same : (x y c d : List ℤ) (k n : ℕ) → take k x ≡ take k y → take k c ≡ take k d → n ≤ k → last_taken x c n
    ≡ last_taken y d n
last_taken-same x y c d k zero e g h = refl
last_taken-same x y c d k (suc n) e g h =
    let before = last_taken-same x y c d k n e g (omega arith) in
    let now = item-same x y k n e (omega arith) in
    let asked = item-same c d k n g (omega arith) in
    λ i. if int_eq (asked i) (pos 0) then before i else now i

no_bits : (t : ItemType) → bits_in t (pos 0) ≡ 0
no_bits Byte = refl
no_bits Short = refl
no_bits Int = refl

pub sample_and_hold-lawful : (t : ItemType) → IsLawful (sample_and_hold t)
sample_and_hold-lawful t =
    shaped-lawful _ _ _ _ _ _ _ _ _ _ one_for_one (omega arith) (omega arith) refl (λ ts xs. no_bits t)
    (λ ts xs p n h. IsItem-wrap t (last_taken (input xs 0) (input xs 1) (suc n)))
    (λ ts us xs ys k p n settings inputs h.
    ap (wrap t) (last_taken-same (input xs 0) (input ys 0) (input xs 1) (input ys 1) (1 * k) (suc n) (inputs.items 0)
    (inputs.items 1) (omega arith)))
    (λ ts us xs ys k settings inputs.
    ap (bits_in t) (last_taken-same (input xs 0) (input ys 0) (input xs 1) (input ys 1) (1 * k) k (inputs.items 0)
    (inputs.items 1) (omega arith)))

pub not_of-lawful : (t : ItemType) → IsLawful (not_of t)
not_of-lawful t =
    shaped-lawful _ _ _ _ _ _ _ _ _ _ one_for_one (omega arith) (omega arith) refl (λ ts xs. refl)
    (λ ts xs p n h. IsItem-wrap t _)
    (λ ts us xs ys k p n settings inputs h. ap (turned t) (item-same (input xs 0) (input ys 0) (1 * k) n
    (inputs.items 0) h))
    (λ ts us xs ys k settings inputs. refl)

pub abs-lawful : (t : ItemType) → IsLawful (abs t)
abs-lawful t =
    shaped-lawful _ _ _ _ _ _ _ _ _ _ one_for_one (omega arith) (omega arith) refl (λ ts xs. refl)
    (λ ts xs p n h. IsItem-wrap t _)
    (λ ts us xs ys k p n settings inputs h. ap (absolute t) (item-same (input xs 0) (input ys 0) (1 * k) n
    (inputs.items 0) h))
    (λ ts us xs ys k settings inputs. refl)

-- the ends and what lies between them are items
IsItem-clipped : (t : ItemType) (low high z : ℤ) → IsItem t low → IsItem t high → IsItem t z
    → IsItem t (clipped low high z)
IsItem-clipped t low high z at_low at_high at_z =
    elim (int_lt z low) as (λ b. IsItem t (cond b low (cond (int_lt high z) high z))) [
      | true ↦ at_low
      | false ↦ elim (int_lt high z) as (λ b. IsItem t (cond b high z)) [ true ↦ at_high | false ↦ at_z ]
    ]

pub clip-lawful : (t : ItemType) (low high : ℤ) → IsItem t low → IsItem t high → IsLawful (clip t low high)
clip-lawful t low high at_low at_high =
    shaped-lawful _ _ _ _ _ _ _ _ _ _ one_for_one (omega arith) (omega arith) refl (λ ts xs. refl)
    (λ ts xs p n h. IsItem-clipped t low high (item (input xs 0) n) at_low at_high
    (IsItem-item t (input xs 0) n (AreItems-input t xs 0 h)))
    (λ ts us xs ys k p n settings inputs h. ap (clipped low high) (item-same (input xs 0) (input ys 0) (1 * k) n
    (inputs.items 0) h))
    (λ ts us xs ys k settings inputs. refl)

IsItem-muted : (t : ItemType) (on z : ℤ) → IsItem t z → IsItem t (muted on z)
IsItem-muted t on z fits = elim (int_lt (pos 0) on) as (λ b. IsItem t (cond b (pos 0) z))
    [ true ↦ IsItem-zero t | false ↦ fits ]

pub mute-lawful : (t : ItemType) (on : ℤ) → pos 0 ≤ℤ on → on ≤ℤ pos 1 → IsLawful (mute t on)
mute-lawful t on above below =
    shaped-lawful _ _ _ _ _ _ _ _ _ _ one_for_one (omega arith) (omega arith) (above, below) (λ ts xs. refl)
    (λ ts xs p n h. IsItem-muted t (number_at on ts n) (item (input xs 0) n)
    (IsItem-item t (input xs 0) n (AreItems-input t xs 0 h)))
    (λ ts us xs ys k p n settings inputs h.
    ap₂ muted (ap number_set (settings n h)) (item-same (input xs 0) (input ys 0) (1 * k) n (inputs.items 0) h))
    (λ ts us xs ys k settings inputs. refl)

-- a table of bytes takes bytes to bytes
pub IsItem-looked_up : (table : List ℤ) (z : ℤ) → AreItems Byte table → IsItem Byte z → IsItem Byte (looked_up table z)
IsItem-looked_up table (pos n) bytes h =
    elim (cases_lt n (length table)) as (λ _. IsItem Byte (looked_up table (pos n))) [
      | inl l ↦ bytes n (pos n) l
      | inr g ↦ subst (IsItem Byte) (sym (get_or_past table n (pos n) g)) h
    ]
IsItem-looked_up table (negsuc n) bytes h = h

pub map_bb-lawful : (table : List ℤ) → AreItems Byte table → IsLawful (map_bb table)
map_bb-lawful table bytes =
    shaped-lawful _ _ _ _ _ _ _ _ _ _ one_for_one (omega arith) (omega arith) refl (λ ts xs. refl)
    (λ ts xs p n h. IsItem-looked_up table (item (input xs 0) n) bytes
    (IsItem-item Byte (input xs 0) n (AreItems-input Byte xs 0 h)))
    (λ ts us xs ys k p n settings inputs h. ap (looked_up table) (item-same (input xs 0) (input ys 0) (1 * k) n
    (inputs.items 0) h))
    (λ ts us xs ys k settings inputs. refl)

pub table-lawful : (to : ItemType) (values : List ℤ) → AreItems to values → IsLawful (table to values)
table-lawful to values are =
    shaped-lawful _ _ _ _ _ _ _ _ _ _ one_for_one (omega arith) (omega arith) refl (λ ts xs. refl)
    (λ ts xs p n h. IsItem-item to values _ are)
    (λ ts us xs ys k p n settings inputs h. ap (number_for values) (item-same (input xs 0) (input ys 0) (1 * k) n
    (inputs.items 0) h))
    (λ ts us xs ys k settings inputs. refl)

IsItem-sliced : (threshold z : ℤ) → IsItem Byte (sliced threshold z)
IsItem-sliced threshold z =
    elim (int_lt z threshold) as (λ b. IsItem Byte (cond b (pos 0) (pos 1))) [
      | true ↦ IsItem-zero Byte
      | false ↦ record { above = omega (arith, ints); below = omega (arith, ints) }
    ]

pub binary_slicer-lawful : (t : ItemType) (threshold : ℤ) → IsLawful (binary_slicer t threshold)
binary_slicer-lawful t threshold =
    shaped-lawful _ _ _ _ _ _ _ _ _ _ one_for_one (omega arith) (omega arith) refl (λ ts xs. refl)
    (λ ts xs p n h. IsItem-sliced threshold (item (input xs 0) n))
    (λ ts us xs ys k p n settings inputs h. ap (sliced threshold) (item-same (input xs 0) (input ys 0) (1 * k) n
    (inputs.items 0) h))
    (λ ts us xs ys k settings inputs. refl)

-- a number that is not above 255 is a byte
IsItem-byte : (n : ℕ) → n ≤ 255 → IsItem Byte (pos n)
IsItem-byte n few = record { above = omega (arith, ints); below = omega (arith, ints) }

IsItem-mu_law : (z : ℤ) → IsItem Byte (mu_law z)
IsItem-mu_law z = IsItem-byte _ (grind arith)

pub ulaw_encode-lawful : (t : ItemType) → IsLawful (ulaw_encode t)
ulaw_encode-lawful t =
    shaped-lawful _ _ _ _ _ _ _ _ _ _ one_for_one (omega arith) (omega arith) refl (λ ts xs. refl)
    (λ ts xs p n h. IsItem-mu_law (item (input xs 0) n))
    (λ ts us xs ys k p n settings inputs h. ap mu_law (item-same (input xs 0) (input ys 0) (1 * k) n (inputs.items 0)
    h))
    (λ ts us xs ys k settings inputs. refl)

IsItem-a_law : (z : ℤ) → IsItem Byte (a_law z)
IsItem-a_law z = IsItem-wrap Byte (pos (bit_xor (if int_lt z (pos 0) then a_law_parts 0
    (min (unsigned_abs z - 8) 32767) else a_law_parts 128 (min (unsigned_abs z) 32767)) 85))

pub alaw_encode-lawful : (t : ItemType) → IsLawful (alaw_encode t)
alaw_encode-lawful t =
    shaped-lawful _ _ _ _ _ _ _ _ _ _ one_for_one (omega arith) (omega arith) refl (λ ts xs. refl)
    (λ ts xs p n h. IsItem-a_law (item (input xs 0) n))
    (λ ts us xs ys k p n settings inputs h. ap a_law (item-same (input xs 0) (input ys 0) (1 * k) n (inputs.items 0) h))
    (λ ts us xs ys k settings inputs. refl)

pub convert-lawful : (from to : ItemType) → IsLawful (convert from to)
convert-lawful from to =
    shaped-lawful _ _ _ _ _ _ _ _ _ _ one_for_one (omega arith) (omega arith) refl (λ ts xs. refl)
    (λ ts xs p n h. IsItem-wrap to (item (input xs 0) n))
    (λ ts us xs ys k p n settings inputs h. ap (wrap to) (item-same (input xs 0) (input ys 0) (1 * k) n (inputs.items 0)
    h))
    (λ ts us xs ys k settings inputs. refl)

pub moving_sum-lawful : (t : ItemType) (count : ℕ) → 1 ≤ count → IsLawful (moving_sum t count)
moving_sum-lawful t count some =
    shaped-lawful _ _ _ _ _ _ _ _ _ _ one_for_one (omega arith) some refl (λ ts xs. refl)
    (λ ts xs p n h. IsItem-wrap t _)
    (λ ts us xs ys k p n settings inputs h.
    ap (wrap t) (sum_below-same count _ _ (λ j l. past-same (input xs 0) (input ys 0) (1 * k) n j (inputs.items 0) h)))
    (λ ts us xs ys k settings inputs. refl)
