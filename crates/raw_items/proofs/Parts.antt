-- Lists of bytes in parts of one length.
use Rattle.std.proofs.Common.{◌≡◌, ℕ, zero, suc, ◌+◌, ◌*◌, ◌/◌, ◌<◌, ◌≤◌, ◌∙◌, ap, sym, ℤ, List, [], ◌∷◌, ◌++◌, length, map, drop, arith, length-append, length-drop}
use Rattle.std.specs.Simd.{first_chunks}
use Rattle.std.proofs.Math.Nat.{add-mul-div_right, mul-div_cancel, div-eq_of_lt}
use Rattle.std.proofs.Math.Seq.{drop-append-add}
use Rattle.std.proofs.lemmas.List.{map-append, take-append-le, drop-append-le}
use Rattle.stream_model.specs.declared.vocabulary.ItemType.{ItemType}
use Rattle.stream_model.specs.declared.vocabulary.ItemType.TheVariants.{Byte, Short, Int}
use Rattle.raw_items.specs.declared.byte_order.ByteOrder.{ByteOrder}
use Rattle.raw_items.specs.Layout.{size_of, count_of, parts_of, cut_of}
use Rattle.raw_items.specs.Values.{item_of, items_of}

pub size_of-pos : (t : ItemType) → 0 < size_of t
size_of-pos Byte = omega arith
size_of-pos Short = omega arith
size_of-pos Int = omega arith

pub size_of-le : (t : ItemType) → size_of t ≤ 4
size_of-le Byte = omega arith
size_of-le Short = omega arith
size_of-le Int = omega arith

-- the parts of two lists, of which the first ends with a part
pub first_chunks-append : {X : Type 0} (n j k : ℕ) (xs ys : List X) → length xs ≡ j * n → first_chunks n (j + k) (xs ++ ys) ≡ first_chunks n j xs ++ first_chunks n k ys
first_chunks-append n zero k [] ys e = ap (λ m. first_chunks n m ys) (omega arith)
first_chunks-append n zero k (x ∷ xs) ys e = absurd (omega arith)
first_chunks-append n (suc j) k xs ys e =
    let within : n ≤ length xs = omega arith in
    let rest : length (drop n xs) ≡ j * n = omega (arith, length-drop n xs) in
    let more : suc j + k ≡ suc (j + k) = omega arith in
    ap (λ m. first_chunks n m (xs ++ ys)) more
    ∙ (λ i. take-append-le n xs ys within i ∷ (ap (first_chunks n (j + k)) (drop-append-le n xs ys within) ∙ first_chunks-append n j k (drop n xs) ys rest) i)

count-append : {X : Type 0} (n j : ℕ) (xs ys : List X) → 0 < n → length xs ≡ j * n → length (xs ++ ys) / n ≡ j + length ys / n
count-append n j xs ys some e =
    let whole : length (xs ++ ys) ≡ length ys + j * n = omega (arith, length-append xs ys) in
    ap (λ m. m / n) whole ∙ add-mul-div_right (length ys) j some ∙ omega arith

pub count_of-append : (t : ItemType) (j : ℕ) (xs ys : List ℕ) → length xs ≡ j * size_of t → count_of t (xs ++ ys) ≡ j + count_of t ys
count_of-append t j xs ys e = count-append (size_of t) j xs ys (size_of-pos t) e

count_of-whole : (t : ItemType) (j : ℕ) (xs : List ℕ) → length xs ≡ j * size_of t → count_of t xs ≡ j
count_of-whole t j xs e = ap (λ m. m / size_of t) e ∙ mul-div_cancel j (size_of-pos t)

-- items of two lists, of which the first ends with an item
pub items_of-append : (t : ItemType) (order : ByteOrder) (j : ℕ) (xs ys : List ℕ) → length xs ≡ j * size_of t → items_of t order (xs ++ ys) ≡ items_of t order xs ++ items_of t order ys
items_of-append t order j xs ys e =
    let f : List ℕ → ℤ = item_of t order in
    ap (λ m. map f (first_chunks (size_of t) m (xs ++ ys))) (count_of-append t j xs ys e)
    ∙ ap (map f) (first_chunks-append (size_of t) j (count_of t ys) xs ys e)
    ∙ map-append f (first_chunks (size_of t) j xs) (parts_of t ys)
    ∙ ap (λ m. map f (first_chunks (size_of t) m xs) ++ items_of t order ys) (sym (count_of-whole t j xs e))

-- and what is cut
pub cut_of-append : (t : ItemType) (j : ℕ) (xs ys : List ℕ) → length xs ≡ j * size_of t → cut_of t (xs ++ ys) ≡ cut_of t ys
cut_of-append t j xs ys e =
    let place : (j + count_of t ys) * size_of t ≡ length xs + count_of t ys * size_of t = grind arith in
    ap (λ m. drop (m * size_of t) (xs ++ ys)) (count_of-append t j xs ys e)
    ∙ ap (λ m. drop m (xs ++ ys)) place
    ∙ drop-append-add xs ys (count_of t ys * size_of t)

-- fewer bytes than an item has are no item, and all of them are cut
pub count_of-short : (t : ItemType) (xs : List ℕ) → length xs < size_of t → count_of t xs ≡ 0
count_of-short t xs l = div-eq_of_lt l

pub items_of-short : (t : ItemType) (order : ByteOrder) (xs : List ℕ) → length xs < size_of t → items_of t order xs ≡ []
items_of-short t order xs l = ap (λ m. map (item_of t order) (first_chunks (size_of t) m xs)) (count_of-short t xs l)
