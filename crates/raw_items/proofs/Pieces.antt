-- Bytes that come in pieces are what they are at once.
use Rattle.std.proofs.Common.{◌≡◌, ℕ, ◌+◌, ◌-◌, ◌*◌, ◌%◌, ◌<◌, ◌≤◌, ◌∙◌, ap, sym, ℤ, List, ◌++◌, length, take, drop, arith, append_assoc, length-append, length-drop}
use Rattle.std.proofs.Math.Nat.{div-mul-le_self, lt-div-mul-add}
use Rattle.std.proofs.lemmas.Nat.{div-add-mod'}
use Rattle.std.proofs.lemmas.List.{append-nil, take-append-drop, length-take-le}
use Rattle.stream_model.specs.declared.vocabulary.ItemType.{ItemType}
use Rattle.raw_items.specs.declared.byte_order.ByteOrder.{ByteOrder}
use Rattle.raw_items.specs.Layout.{size_of, count_of, cut_of}
use Rattle.raw_items.specs.Values.{items_of}
use Rattle.raw_items.specs.Decoding.{Decoding, HasDecoded}
use Rattle.raw_items.proofs.Parts.{size_of-pos, items_of-append, cut_of-append, items_of-short}

-- the bytes of the whole items
whole_of : ItemType → List ℕ → List ℕ
whole_of t bytes = take (count_of t bytes * size_of t) bytes

length-whole_of : (t : ItemType) (bytes : List ℕ) → length (whole_of t bytes) ≡ count_of t bytes * size_of t
unfolding whole_of
length-whole_of t bytes = length-take-le (count_of t bytes * size_of t) bytes (div-mul-le_self (length bytes) (size_of t))

whole-append-cut : (t : ItemType) (bytes : List ℕ) → whole_of t bytes ++ cut_of t bytes ≡ bytes
unfolding whole_of
whole-append-cut t bytes = take-append-drop (count_of t bytes * size_of t) bytes

pub length-cut_of : (t : ItemType) (bytes : List ℕ) → length (cut_of t bytes) < size_of t
length-cut_of t bytes =
    let past : length bytes < count_of t bytes * size_of t + size_of t = lt-div-mul-add (size_of-pos t) in
    let within : count_of t bytes * size_of t ≤ length bytes = div-mul-le_self (length bytes) (size_of t) in
    omega (arith, length-drop (count_of t bytes * size_of t) bytes)

-- a piece more
items_of-more : (t : ItemType) (order : ByteOrder) (bytes piece : List ℕ) → items_of t order (bytes ++ piece) ≡ items_of t order bytes ++ items_of t order (cut_of t bytes ++ piece)
items_of-more t order bytes piece =
    let whole : List ℕ = whole_of t bytes in
    let cut : List ℕ = cut_of t bytes in
    let both : whole ++ cut ≡ bytes = whole-append-cut t bytes in
    let alone : items_of t order bytes ≡ items_of t order whole =
    (ap (items_of t order) (sym both)
    ∙ items_of-append t order (count_of t bytes) whole cut (length-whole_of t bytes)
    ∙ ap (λ zs. items_of t order whole ++ zs) (items_of-short t order cut (length-cut_of t bytes))
    ∙ append-nil (items_of t order whole)) in
    ap (λ xs. items_of t order (xs ++ piece)) (sym both)
    ∙ ap (items_of t order) (append_assoc whole cut piece)
    ∙ items_of-append t order (count_of t bytes) whole (cut ++ piece) (length-whole_of t bytes)
    ∙ ap (λ zs. zs ++ items_of t order (cut ++ piece)) (sym alone)

cut_of-more : (t : ItemType) (bytes piece : List ℕ) → cut_of t (bytes ++ piece) ≡ cut_of t (cut_of t bytes ++ piece)
cut_of-more t bytes piece =
    let whole : List ℕ = whole_of t bytes in
    let cut : List ℕ = cut_of t bytes in
    ap (λ xs. cut_of t (xs ++ piece)) (sym (whole-append-cut t bytes))
    ∙ ap (cut_of t) (append_assoc whole cut piece)
    ∙ cut_of-append t (count_of t bytes) whole (cut ++ piece) (length-whole_of t bytes)

-- what a decoder does with a piece, from what it holds, is right for all bytes so far
pub HasDecoded-more : (old new : Decoding) (piece : List ℕ) (out out' : List ℤ) → old.item_type ≡ new.item_type → old.order ≡ new.order
    → out' ≡ out ++ items_of old.item_type old.order (old.cut ++ piece) → new.cut ≡ cut_of old.item_type (old.cut ++ piece)
    → (bytes : List ℕ) (start : List ℤ) → HasDecoded old bytes start out → HasDecoded new (bytes ++ piece) start out'
HasDecoded-more old new piece out out' same_type same_order items cut bytes start before =
    let t : ItemType = old.item_type in record {
      items = items
          ∙ (λ i. before.items i ++ items_of t old.order (before.cut i ++ piece))
          ∙ append_assoc start (items_of t old.order bytes) (items_of t old.order (cut_of t bytes ++ piece))
          ∙ ap (λ zs. start ++ zs) (sym (items_of-more t old.order bytes piece))
          ∙ (λ i. start ++ items_of (same_type i) (same_order i) (bytes ++ piece));
      cut = cut ∙ ap (λ xs. cut_of t (xs ++ piece)) before.cut ∙ sym (cut_of-more t bytes piece) ∙ (λ i. cut_of (same_type i) (bytes ++ piece));
    }

-- an item that is held is ended by the end, and the rest is of whole items and what is cut
pub items_of-ended : (t t1 t2 : ItemType) (order : ByteOrder) (held end rest piece buffer : List ℕ) (start out out' : List ℤ) → t1 ≡ t → t2 ≡ t
    → length held + length end ≡ size_of t → piece ≡ end ++ rest → buffer ≡ held ++ end
    → out ≡ start ++ items_of t1 order buffer → out' ≡ out ++ items_of t2 order rest
    → out' ≡ start ++ items_of t order (held ++ piece)
items_of-ended t t1 t2 order held end rest piece buffer start out out' same1 same2 whole parts full first others =
    let one : length (held ++ end) ≡ 1 * size_of t = omega (arith, length-append held end) in
    let ended : items_of t order (held ++ piece) ≡ items_of t order (held ++ end) ++ items_of t order rest =
    ap (λ xs. items_of t order (held ++ xs)) parts ∙ ap (items_of t order) (sym (append_assoc held end rest)) ∙ items_of-append t order 1 (held ++ end) rest one in
    others
    ∙ (λ i. first i ++ items_of (same2 i) order rest)
    ∙ (λ i. (start ++ items_of (same1 i) order (full i)) ++ items_of t order rest)
    ∙ append_assoc start (items_of t order (held ++ end)) (items_of t order rest)
    ∙ ap (λ zs. start ++ zs) (sym ended)

pub cut_of-ended : (t : ItemType) (held end rest piece : List ℕ) → length held + length end ≡ size_of t → piece ≡ end ++ rest
    → drop (length rest - length rest % size_of t) rest ≡ cut_of t (held ++ piece)
cut_of-ended t held end rest piece whole parts =
    let one : length (held ++ end) ≡ 1 * size_of t = omega (arith, length-append held end) in
    let place : length rest - length rest % size_of t ≡ count_of t rest * size_of t = omega (arith, div-add-mod' (length rest) (size_of t)) in
    ap (λ m. drop m rest) place
    ∙ sym (ap (λ xs. cut_of t (held ++ xs)) parts ∙ ap (cut_of t) (sym (append_assoc held end rest)) ∙ cut_of-append t 1 (held ++ end) rest one)
