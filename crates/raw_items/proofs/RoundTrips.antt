-- Items made of bytes give the bytes, and bytes made of items give the items.
use Rattle.std.proofs.Common.{◌≡◌, ℕ, zero, suc, ◌+◌, ◌*◌, ◌/◌, ◌^◌, ◌<◌, ◌≤◌, ◌∙◌, ap, sym, refl, subst, ℤ, pos, List, [], ◌∷◌, ◌++◌, length, map, reverse, take, drop, arith, append_assoc, length-append, length-drop}
use Rattle.std.specs.List.{All}
use Rattle.std.specs.Simd.{first_chunks}
use Rattle.std.proofs.Math.Nat.{mul-div_cancel, div-mul-le_self}
use Rattle.std.proofs.lemmas.List.Elements.{All-head, All-tail, All-take, All-drop}
use Rattle.std.proofs.lemmas.List.Sorted.{All-permutation, IsPermutation-reverse}
use Rattle.std.proofs.lemmas.List.{take_at, drop_at, take-append-drop, drop-drop, length-take-le, reverse-reverse, length-reverse}
use Rattle.stream_model.specs.Numbers.{IsItem, numbers_in, residue, wrap}
use Rattle.stream_model.specs.declared.vocabulary.ItemType.{ItemType}
use Rattle.stream_model.specs.declared.vocabulary.ItemType.TheVariants.{Byte, Short, Int}
use Rattle.raw_items.specs.declared.byte_order.ByteOrder.{ByteOrder}
use Rattle.raw_items.specs.declared.byte_order.ByteOrder.TheVariants.{Little, Big}
use Rattle.raw_items.specs.Layout.{size_of, count_of, cut_of}
use Rattle.raw_items.specs.Values.{number_of, low_bytes, in_order, item_of, bytes_of, items_of, all_bytes_of}
use Rattle.raw_items.proofs.Numbers.{AreBytes, length-low_bytes, number_of-low_bytes, low_bytes-number_of, number_of-lt, residue-wrap, residue_below, wrap-residue}
use Rattle.raw_items.proofs.Parts.{size_of-pos}

AreBytes-reverse : (xs : List ℕ) → AreBytes xs → AreBytes (reverse xs)
AreBytes-reverse xs h = All-permutation (λ b. b < 256) xs (reverse xs) (IsPermutation-reverse xs) h

-- the order keeps the length and the bytes, and twice it is none
pub length-in_order : (order : ByteOrder) (xs : List ℕ) → length (in_order order xs) ≡ length xs
length-in_order Little xs = refl
length-in_order Big xs = length-reverse xs

in_order-in_order : (order : ByteOrder) (xs : List ℕ) → in_order order (in_order order xs) ≡ xs
in_order-in_order Little xs = refl
in_order-in_order Big xs = reverse-reverse xs

AreBytes-in_order : (order : ByteOrder) (xs : List ℕ) → AreBytes xs → AreBytes (in_order order xs)
AreBytes-in_order Little xs h = h
AreBytes-in_order Big xs h = AreBytes-reverse xs h

-- a type has as many numbers as its bytes have
numbers_in_bytes : (t : ItemType) → 256 ^ size_of t ≡ numbers_in t
numbers_in_bytes Byte = refl
numbers_in_bytes Short = refl
numbers_in_bytes Int = refl

pub length-bytes_of : (t : ItemType) (order : ByteOrder) (z : ℤ) → length (bytes_of t order z) ≡ size_of t
length-bytes_of t order z = length-in_order order _ ∙ length-low_bytes (size_of t) (residue z (numbers_in t))

-- one item
pub item_of-bytes_of : (t : ItemType) (order : ByteOrder) (z : ℤ) → IsItem t z → item_of t order (bytes_of t order z) ≡ z
item_of-bytes_of t order z h =
    let r : ℕ = residue z (numbers_in t) in
    let fits : r < 256 ^ size_of t = subst (λ m. r < m) (sym (numbers_in_bytes t)) (residue_below t z h) in
    ap (λ xs. wrap t (pos (number_of xs))) (in_order-in_order order (low_bytes (size_of t) r))
    ∙ ap (λ n. wrap t (pos n)) (number_of-low_bytes (size_of t) r fits)
    ∙ wrap-residue t z h

pub bytes_of-item_of : (t : ItemType) (order : ByteOrder) (bytes : List ℕ) → AreBytes bytes → length bytes ≡ size_of t → bytes_of t order (item_of t order bytes) ≡ bytes
bytes_of-item_of t order bytes h e =
    let xs : List ℕ = in_order order bytes in
    let are : AreBytes xs = AreBytes-in_order order bytes h in
    let long : length xs ≡ size_of t = length-in_order order bytes ∙ e in
    let limit : 256 ^ length xs ≡ numbers_in t = ap (λ k. 256 ^ k) long ∙ numbers_in_bytes t in
    let fits : number_of xs < numbers_in t = subst (λ m. number_of xs < m) limit (number_of-lt xs are) in
    ap (λ r. in_order order (low_bytes (size_of t) r)) (residue-wrap t (number_of xs) fits)
    ∙ ap (λ n. in_order order (low_bytes n (number_of xs))) (sym long)
    ∙ ap (in_order order) (low_bytes-number_of xs are)
    ∙ in_order-in_order order bytes

-- items one behind the other
pub length-all_bytes_of : (t : ItemType) (order : ByteOrder) (zs : List ℤ) → length (all_bytes_of t order zs) ≡ length zs * size_of t
length-all_bytes_of t order [] = omega arith
length-all_bytes_of t order (z ∷ zs) =
    let one : length (bytes_of t order z) ≡ size_of t = length-bytes_of t order z in
    let others : length (all_bytes_of t order zs) ≡ length zs * size_of t = length-all_bytes_of t order zs in
    let more : suc (length zs) * size_of t ≡ size_of t + length zs * size_of t = grind arith in
    omega (arith, length-append (bytes_of t order z) (all_bytes_of t order zs))

parts_back : (t : ItemType) (order : ByteOrder) (zs : List ℤ) → All (IsItem t) zs → map (item_of t order) (first_chunks (size_of t) (length zs) (all_bytes_of t order zs)) ≡ zs
parts_back t order [] h = refl
parts_back t order (z ∷ zs) h =
    let first : List ℕ = bytes_of t order z in
    let others : List ℕ = all_bytes_of t order zs in
    let long : length first ≡ size_of t = length-bytes_of t order z in
    λ i. (ap (item_of t order) (take_at first others (size_of t) long) ∙ item_of-bytes_of t order z (All-head (IsItem t) z zs h)) i
    ∷ (ap (λ xs. map (item_of t order) (first_chunks (size_of t) (length zs) xs)) (drop_at first others (size_of t) long) ∙ parts_back t order zs (All-tail (IsItem t) z zs h)) i

-- bytes that were made of items give the items
pub items_of-all_bytes_of : (t : ItemType) (order : ByteOrder) (zs : List ℤ) → All (IsItem t) zs → items_of t order (all_bytes_of t order zs) ≡ zs
items_of-all_bytes_of t order zs h =
    let bytes : List ℕ = all_bytes_of t order zs in
    let count : count_of t bytes ≡ length zs = ap (λ m. m / size_of t) (length-all_bytes_of t order zs) ∙ mul-div_cancel (length zs) (size_of-pos t) in
    ap (λ m. map (item_of t order) (first_chunks (size_of t) m bytes)) count ∙ parts_back t order zs h

bytes_back : (t : ItemType) (order : ByteOrder) (k : ℕ) (bytes : List ℕ) → AreBytes bytes → k * size_of t ≤ length bytes → all_bytes_of t order (map (item_of t order) (first_chunks (size_of t) k bytes)) ++ drop (k * size_of t) bytes ≡ bytes
bytes_back t order zero bytes h l = let none : 0 * size_of t ≡ 0 = omega arith in ap (λ m. drop m bytes) none
bytes_back t order (suc k) bytes h l =
    let n : ℕ = size_of t in
    let more : suc k * n ≡ n + k * n = grind arith in
    let first : List ℕ = take n bytes in
    let rest : List ℕ = drop n bytes in
    let within : n ≤ length bytes = omega arith in
    let one : bytes_of t order (item_of t order first) ≡ first = bytes_of-item_of t order first (All-take (λ b. b < 256) n bytes h) (length-take-le n bytes within) in
    let room : k * n ≤ length rest = omega (arith, length-drop n bytes) in
    let items : List ℕ = all_bytes_of t order (map (item_of t order) (first_chunks n k rest)) in
    let past : drop (suc k * n) bytes ≡ drop (k * n) rest = ap (λ m. drop m bytes) more ∙ sym (drop-drop (k * n) n bytes) in
    append_assoc (bytes_of t order (item_of t order first)) items (drop (suc k * n) bytes)
    ∙ (λ i. one i ++ (items ++ past i))
    ∙ ap (λ xs. first ++ xs) (bytes_back t order k rest (All-drop (λ b. b < 256) n bytes h) room)
    ∙ take-append-drop n bytes

-- and items that were made of bytes give the bytes, up to those of an item whose end has not come
pub all_bytes_of-items_of : (t : ItemType) (order : ByteOrder) (bytes : List ℕ) → AreBytes bytes → all_bytes_of t order (items_of t order bytes) ++ cut_of t bytes ≡ bytes
all_bytes_of-items_of t order bytes h = bytes_back t order (count_of t bytes) bytes h (div-mul-le_self (length bytes) (size_of t))
