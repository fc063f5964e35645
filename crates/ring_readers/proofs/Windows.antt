-- A window of a stream, out of its kept end.
use Rattle.std.proofs.Common.{◌≡◌, ℕ, ℤ, pos, ◌+◌, ◌-◌, ◌≤◌, ◌∙◌, ap, sym, List, ◌++◌, length, map, take, drop, replicate, slice_range, arith}
use Rattle.std.proofs.lemmas.List.{append_assoc, drop-drop, drop-replicate, take_all, length-replicate, map-append, length-map}
use Rattle.stream_model.specs.Lists.{window}
use Rattle.ring_readers.specs.State.{RingState, IsRing, IsLive, IsEndOf, nobody, reader_at, past_of}
use Rattle.numbers.proofs.Mapped.{map_slice_range, map_replicate}
use Rattle.ring_readers.proofs.Ranges.{drop-append, take-append}

-- the zeros before item 0, and then the items
pub window-split : (stream : List ℤ) (past place count : ℕ)
    → window stream past place (place + count) ≡ replicate (past - place) (pos 0) ++ take (place + count - (place - past)) (drop (place - past) stream)
window-split stream past place count =
    let zeros : List ℤ = replicate (past - place) (pos 0) in
    let size : ℕ = past + (place + count) - place in
    let some : length (replicate past (pos 0)) ≡ past = length-replicate past (pos 0) in
    let few : length zeros ≡ past - place = length-replicate (past - place) (pos 0) in
    let rest : size - length zeros ≡ place + count - (place - past) = omega arith in
    ap (take size) (drop-append place (replicate past (pos 0)) stream
    ∙ (λ i. drop-replicate place past (pos 0) i ++ drop (place - some i) stream))
    ∙ take-append size zeros (drop (place - past) stream)
    ∙ (λ i. take_all size zeros (omega arith) i ++ take (rest i) (drop (place - past) stream))

-- the same out of the end that is kept, from the item `oldest` on
pub window-from_end : (stream kept : List ℤ) (oldest past place count : ℕ) → kept ≡ drop oldest stream → oldest ≤ place - past
    → replicate (past - place) (pos 0) ++ slice_range kept (place - past - oldest) (place - oldest + count) ≡ window stream past place (place + count)
window-from_end stream kept oldest past place count end old =
    let from : oldest + (place - past - oldest) ≡ place - past = omega arith in
    let many : place - oldest + count - (place - past - oldest) ≡ place + count - (place - past) = omega arith in
    ap (λ l. replicate (past - place) (pos 0) ++ l)
    ((λ i. take (many i) (drop (place - past - oldest) (end i)))
    ∙ ap (take (place + count - (place - past))) (drop-drop (place - past - oldest) oldest stream ∙ ap (λ k. drop k stream) from))
    ∙ sym (window-split stream past place count)

-- what a vector gets, as numbers
pub map-zeros_and_range : {X : Type 0} (f : X → ℤ) (out items : List X) (n i j : ℕ) (z : X) → f z ≡ pos 0
    → map f (out ++ replicate n z ++ slice_range items i j) ≡ map f out ++ (replicate n (pos 0) ++ slice_range (map f items) i j)
map-zeros_and_range f out items n i j z zero =
    map-append f (out ++ replicate n z) (slice_range items i j)
    ∙ (λ k. (map-append f out (replicate n z) ∙ ap (λ l. map f out ++ l) (map_replicate f n z ∙ ap (replicate n) zero)) k ++ map_slice_range f items i j k)
    ∙ append_assoc (map f out) (replicate n (pos 0)) (slice_range (map f items) i j)

-- the kept items reach back as far as a live reader's history
pub kept-reaches_back : (ring : RingState) (reader : ℕ) → IsRing ring → IsLive ring reader
    → ring.written - length ring.kept ≤ (reader_at ring reader).place - past_of ring reader
kept-reaches_back ring reader is live =
    let within = is.readers reader nobody live.there in
    let near = within.near live.live in
    omega (arith, is.kept, is.some_history, near, within.some, within.short)

-- the zeros and the kept items that are a live reader's window of the stream
pub window-parts : {X : Type 0} (f : X → ℤ) (ring : RingState) (stream : List ℤ) (reader count n i j : ℕ) (items : List X)
    → IsRing ring → IsLive ring reader → IsEndOf ring stream → ring.kept ≡ map f items
    → n ≡ past_of ring reader - (reader_at ring reader).place
    → i ≡ (reader_at ring reader).place - past_of ring reader - (ring.written - length items)
    → j ≡ (reader_at ring reader).place - (ring.written - length items) + count
    → replicate n (pos 0) ++ slice_range (map f items) i j ≡ window stream (past_of ring reader) (reader_at ring reader).place ((reader_at ring reader).place + count)
window-parts f ring stream reader count n i j items is live end shown zeros from to =
    let p = reader_at ring reader in
    let past : ℕ = past_of ring reader in
    let oldest : ℕ = ring.written - length items in
    let whole : length ring.kept ≡ length items = ap length shown ∙ length-map items f in
    let old : oldest ≤ p.place - past = omega (arith, whole, kept-reaches_back ring reader is live) in
    let same : map f items ≡ drop oldest stream = sym shown ∙ end.end ∙ ap (λ k. drop (ring.written - k) stream) whole in
    (λ k. replicate (zeros k) (pos 0) ++ slice_range (map f items) (from k) (to k)) ∙ window-from_end stream (map f items) oldest past p.place count same old

-- what a live reader of a ring gets is its window of the stream
pub window-made : {X : Type 0} (f : X → ℤ) (ring : RingState) (stream : List ℤ) (reader count n i j : ℕ) (out items zeroed parts new : List X) (z : X)
    → IsRing ring → IsLive ring reader → IsEndOf ring stream → ring.kept ≡ map f items → f z ≡ pos 0
    → n ≡ past_of ring reader - (reader_at ring reader).place
    → i ≡ (reader_at ring reader).place - past_of ring reader - (ring.written - length items)
    → j ≡ (reader_at ring reader).place - (ring.written - length items) + count
    → zeroed ≡ out ++ replicate n z → parts ≡ items → new ≡ zeroed ++ slice_range parts i j
    → map f new ≡ map f out ++ window stream (past_of ring reader) (reader_at ring reader).place ((reader_at ring reader).place + count)
window-made f ring stream reader count n i j out items zeroed parts new z is live end shown zero zeros from to is_zeroed is_parts is_new =
    ap (map f) (is_new ∙ (λ k. is_zeroed k ++ slice_range (is_parts k) i j))
    ∙ map-zeros_and_range f out items n i j z zero
    ∙ ap (λ l. map f out ++ l) (window-parts f ring stream reader count n i j items is live end shown zeros from to)
