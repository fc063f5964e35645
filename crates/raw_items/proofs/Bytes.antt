-- Items that are bytes: each is its own byte.
use Rattle.std.proofs.Common.{◌≡◌, ℕ, ◌%◌, ◌<◌, ◌∙◌, ap, sym, refl, pos, List, [], ◌∷◌, ◌++◌, map, arith, mod-eq_of_lt}
use Rattle.std.specs.Prelude.{Result, Ok, Err, OnOk, is_ok, if◌then◌else◌}
use Rattle.std.specs.List.{All}
use Rattle.std.proofs.lemmas.Int.{ints}
use Rattle.std.proofs.lemmas.List.Elements.{All-head, All-tail, All-map}
use Rattle.stream_model.specs.Numbers.{IsItem}
use Rattle.stream_model.specs.declared.vocabulary.ItemType.TheVariants.{Byte}
use Rattle.raw_items.specs.declared.byte_order.ByteOrder.{ByteOrder}
use Rattle.raw_items.specs.declared.byte_order.ByteOrder.TheVariants.{Little, Big}
use Rattle.raw_items.specs.Values.{bytes_of, items_of, all_bytes_of}
use Rattle.raw_items.proofs.RoundTrips.{items_of-all_bytes_of}

-- each is a byte's number
abbrev pub AreByteItems : List ℕ → Type 0
AreByteItems bytes = All (λ b. IsItem Byte (pos b)) bytes

own_byte : (order : ByteOrder) (b : ℕ) → IsItem Byte (pos b) → bytes_of Byte order (pos b) ≡ b ∷ []
own_byte Little b h =
    let small : b < 256 = omega (arith, ints, h.above, h.below) in
    ap (λ k. k % 256 ∷ []) (mod-eq_of_lt small) ∙ ap (λ k. k ∷ []) (mod-eq_of_lt small)
own_byte Big b h =
    let small : b < 256 = omega (arith, ints, h.above, h.below) in
    ap (λ k. k % 256 ∷ []) (mod-eq_of_lt small) ∙ ap (λ k. k ∷ []) (mod-eq_of_lt small)

-- as bytes they are the same
pub own_bytes : (order : ByteOrder) (bytes : List ℕ) → AreByteItems bytes → all_bytes_of Byte order (map pos bytes) ≡ bytes
own_bytes order [] h = refl
own_bytes order (b ∷ bytes) h =
    λ i. own_byte order b (All-head (λ c. IsItem Byte (pos c)) b bytes h) i ++ own_bytes order bytes (All-tail (λ c. IsItem Byte (pos c)) b bytes h) i

-- and as items
pub own_items : (order : ByteOrder) (bytes : List ℕ) → AreByteItems bytes → items_of Byte order bytes ≡ map pos bytes
own_items order bytes h =
    ap (items_of Byte order) (sym (own_bytes order bytes h))
    ∙ items_of-all_bytes_of Byte order (map pos bytes) (All-map (IsItem Byte) pos bytes h)

-- what an append of bytes that may fail left
pub grown_by : {X E : Type 0} (r : Result X E) (new old more bytes : List ℕ) → new ≡ (if is_ok r then old ++ more else old) → more ≡ bytes → OnOk r (new ≡ old ++ bytes)
grown_by (Ok x) new old more bytes grown same = grown ∙ ap (λ ys. old ++ ys) same
grown_by (Err e) new old more bytes grown same = tt

pub holds_if_ok : {X E P : Type 0} (r : Result X E) → P → OnOk r P
holds_if_ok (Ok x) p = p
holds_if_ok (Err e) p = tt
