-- What a ring keeps as items are written.
use Rattle.std.proofs.Common.{◌≡◌, ℕ, ℤ, ◌+◌, ◌-◌, ◌^◌, ◌<◌, ◌≤◌, ◌∙◌, ap, sym, List, ◌++◌, length, map, drop, arith, length-append, length-drop}
use Rattle.std.proofs.lemmas.List.{drop-append-le, drop-drop, length-map}
use Rattle.circular_buffer.specs.Buffer.{Buffer, buffer, keep_last}
use Rattle.ring_readers.specs.State.{RingState, IsRing, IsEndOf, most_kept, room_of, slowest_of, with_items}
use Rattle.ring_readers.proofs.Ranges.{map-keep_last}
use Rattle.ring_readers.proofs.SlowestReader.{slowest-least, room-behind}

-- a ring stays one
pub IsRing-with_items : (ring : RingState) (xs : List ℤ) → IsRing ring → length xs ≤ room_of ring → ring.written + length xs < 2 ^ 62 → IsRing (with_items ring xs)
IsRing-with_items ring xs is room small =
    let most : ℕ = most_kept ring.capacity ring.greatest in
    let long = length-append ring.kept xs in
    record {
      some_capacity = is.some_capacity;
      some_history = is.some_history;
      narrow = is.narrow;
      kept = length-drop (length (ring.kept ++ xs) - most) (ring.kept ++ xs) ∙ omega (arith, is.kept);
      small = small;
      readers = λ k d within.
          let was = is.readers k d within in
          record {
            some = was.some;
            short = was.short;
            reached = λ live. omega (arith, was.reached live);
            near = λ live. room-behind (slowest_of ring.readers) ring.written ring.capacity (length xs) _ (slowest-least ring.readers k d within live) room (was.near live);
          };
    }

-- the stream with the items behind it is again one that the ring is the end of
pub IsEndOf-with_items : (ring : RingState) (xs stream : List ℤ) → IsRing ring → IsEndOf ring stream → IsEndOf (with_items ring xs) (stream ++ xs)
IsEndOf-with_items ring xs stream is end =
    let most : ℕ = most_kept ring.capacity ring.greatest in
    let gone : ℕ = ring.written - length ring.kept in
    let more : ℕ = length (ring.kept ++ xs) - most in
    let long = length-append ring.kept xs in
    let left = length-drop more (ring.kept ++ xs) in
    let at : gone + more ≡ ring.written + length xs - length (drop more (ring.kept ++ xs)) = omega (arith, is.kept) in
    record {
      all = length-append stream xs ∙ ap (λ n. n + length xs) end.all;
      end =
          ap (λ l. drop more (l ++ xs)) end.end
          ∙ ap (drop more) (sym (drop-append-le gone stream xs (omega (arith, end.all))))
          ∙ drop-drop more gone (stream ++ xs)
          ∙ ap (λ k. drop k (stream ++ xs)) at;
    }

-- what a ring shows after items went into its buffer
pub with_items-shown : {X : Type 0} (f : X → ℤ) (ring : RingState) (old new : Buffer X) (more : List X)
    → ring.kept ≡ map f old.items → old.capacity ≡ most_kept ring.capacity ring.greatest → new ≡ buffer (keep_last old.capacity (old.items ++ more)) old.capacity
    → record ring { written = ring.written + length more; kept = map f new.items } ≡ with_items ring (map f more)
with_items-shown f ring old new more shown most is =
    let kept : map f new.items ≡ keep_last (most_kept ring.capacity ring.greatest) (ring.kept ++ map f more) =
    ap (λ (b : Buffer _). map f b.items) is ∙ map-keep_last f old.capacity old.items more ∙ (λ i. keep_last (most i) (sym shown i ++ map f more)) in
    λ i. record ring { written = ring.written + sym (length-map more f) i; kept = kept i }
