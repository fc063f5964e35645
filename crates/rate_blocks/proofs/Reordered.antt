-- Frames whose items are put into another order.
use Rattle.std.proofs.Common.{◌≡◌, ◌≢◌, ℕ, ◌+◌, ◌*◌, ◌/◌, ◌%◌, ◌<◌, ◌≤◌, ℤ, pos, List, [], ◌∷◌, All, length, length-take, map, take, drop, get_or, refl, arith, ap, subst, sym, ◌∙◌, inl, inr}
use Rattle.std.specs.Prelude.{◌≤ℤ◌, ◌<ℤ◌}
use Rattle.std.specs.List.{AllPairs, Contains}
use borrow.Rule.Slice.PartMut.{put_mid}
use Rattle.std.proofs.lemmas.Bool.{cases_lt}
use Rattle.std.proofs.lemmas.Int.{ints}
use Rattle.std.proofs.lemmas.List.{get_or-map, get_or-take, get_or_default, length-map}
use Rattle.std.proofs.lemmas.Nat.{div-mul-add, mod-mul-add, div_below}
use Rattle.stream_model.specs.declared.vocabulary.ItemType.{ItemType}
use Rattle.stream_model.specs.declared.vocabulary.ItemType.TheVariants.{Byte}
use Rattle.stream_model.specs.Numbers.{IsItem}
use Rattle.stream_model.specs.Lists.{item, listed}
use Rattle.stream_model.specs.Settings.{Held}
use Rattle.stream_model.specs.Meaning.{IsFed, input, given_items}
use Rattle.kind_model.specs.Rates.{IsOrder, from_place, permute}
use Rattle.kind_laws.specs.Rates.{item_of_firing, from_place-within}
use Rattle.shape_laws.specs.Shaped.{item-listed}
use Rattle.block_trait.specs.Shape.{IsPaced}
use Rattle.block_trait.proofs.Fills.{paced, length-paced, item-paced, given-paced}
use Rattle.item_dispatch.proofs.Written.{read_item}
use Rattle.rate_blocks.specs.Lengths.{unsigned}
use Rattle.rate_blocks.specs.Orders.{ArePlaces}
use Rattle.rate_blocks.proofs.Frames.{write_run, item-part}
use Rattle.rate_blocks.proofs.Interleaved.{mod-add}
use Rattle.rate_blocks.proofs.Paced.{add-mul-div}

-- a number that stands among those before it stands twice
pub stands_twice : (xs : List ℤ) (k : ℕ) (d : ℤ) → k < length xs → Contains (take k xs) (get_or xs k d) → ¬ AllPairs (λ y z. y ≢ z) xs
stands_twice xs k d h there apart =
    let i = there.0 in
    let x = get_or xs k d in
    let near : i < k = omega (arith, h, there.1, length-take k xs) in
    apart i k x near h (sym (get_or-take k xs i x near) ∙ there.2 ∙ get_or_default xs k d x h)

-- and one that does not differs from each of them
pub differs_more :
    (xs : List ℤ) (k : ℕ) (d : ℤ) → k < length xs → ¬ Contains (take k xs) (get_or xs k d) →
    ((i j : ℕ) (e : ℤ) → i < j → j < k → get_or xs i e ≢ get_or xs j e) → (i j : ℕ) (e : ℤ) → i < j → j < k + 1 → get_or xs i e ≢ get_or xs j e
differs_more xs k d h none before i j e order less same =
    elim (cases_lt j k) as (λ _. ⊥) [
      | inl sooner ↦ before i j e order sooner same
      | inr now ↦
          let last : j ≡ k = omega (arith, now, less) in
          let near : i < k = omega (arith, order, last) in
          let x = get_or xs k d in
          none (
            i,
            omega (arith, near, h, length-take k xs),
            get_or-take k xs i x near ∙ get_or_default xs i x e (omega (arith, near, h)) ∙ same ∙ ap (λ n. get_or xs n e) last ∙ get_or_default xs k e d h,
          )
    ]

-- a place is a byte, and below the end of the list
place_below : (a n : ℕ) → pos a <ℤ pos n → a < n
place_below a n h = omega (arith, ints, h)

pub places-bytes : (zs : List ℤ) → ArePlaces zs → All (IsItem Byte) zs
places-bytes zs are k d h = byte (get_or zs k d) (length zs) (are.places k d h).0 (are.places k d h).1 are.few
  where
    byte : (z : ℤ) (n : ℕ) → pos 0 ≤ℤ z → z <ℤ pos n → n ≤ 256 → IsItem Byte z
    byte z n low high few = record { above = low; below = omega (arith, ints, low, high, few) }

order_of : (order : List ℕ) → ArePlaces (map pos order) → IsOrder order
order_of order are =
    let long = length-map order pos in
    record {
      some = omega (arith, are.some, long);
      few = omega (arith, are.few, long);
      within = λ k d h.
          let near : k < length (map pos order) = omega (arith, h, long) in
          omega (arith, long, place_below (get_or order k d) (length (map pos order)) (subst (λ z. z <ℤ pos (length (map pos order))) (get_or-map pos order k d (pos d) h) (are.places k (pos d) near).1));
      once = λ i j d before h same.
          are.once i j (pos d) before (omega (arith, h, long))
          (get_or-map pos order i d (pos d) (omega (arith, before, h)) ∙ ap pos same ∙ sym (get_or-map pos order j d (pos d) h));
    }

pub order-of_places : (zs : List ℤ) (order : List ℕ) → map pos order ≡ zs → ArePlaces zs → IsOrder order
order-of_places zs order e are = order_of order (subst ArePlaces (sym e) are)

unsigned_pos : (ns : List ℕ) → unsigned (map pos ns) ≡ ns
unsigned_pos [] = refl
unsigned_pos (n ∷ ns) = ap (λ ms. n ∷ ms) (unsigned_pos ns)

pub order-unsigned : (zs : List ℤ) (order : List ℕ) → map pos order ≡ zs → order ≡ unsigned zs
order-unsigned zs order e = sym (unsigned_pos order) ∙ ap unsigned e

-- an item that is read from its place
pub read_place :
    {X : Type 0} (number : X → ℤ) (items : List X) (order : List ℕ) (j d : ℕ) (x : X) → IsOrder order → j < length order → length items ≡ length order →
    x ≡ get_or items (get_or order j d) x → number x ≡ item (map number items) (from_place order j)
read_place number items order j d x is h long read =
    read_item number items (get_or order j d) x read (omega (arith, is.within j d h, long)) ∙ ap (item (map number items)) (get_or_default order j d 0 h)

-- a frame more is put into its order
pub permuted_more :
    {X : Type 0} (number : X → ℤ) (order : List ℕ) (k at n m : ℕ) (items out new : List X) → IsOrder order → at ≡ k * length order → n ≡ length order → m ≡ length order →
    at + n ≤ length out → length new ≡ n → map number new ≡ listed (length order) (λ j. item (map number (take m (drop at items))) (from_place order j)) →
    ((j : ℕ) → j < k * length order → item (map number out) j ≡ item (map number items) (j / length order * length order + from_place order (j % length order))) →
    (j : ℕ) → j < (k + 1) * length order → item (map number (put_mid at n out new)) j ≡ item (map number items) (j / length order * length order + from_place order (j % length order))
permuted_more number order k at n m items out new is at_is n_is m_is fits long written before j h =
    let size = length order in
    let xs = map number items in
    write_run number out new at n (λ i. item xs (i / size * size + from_place order (i % size))) (λ i less. before i (omega (arith, less, at_is))) fits long
    (λ r less.
    let small : r < size = omega (arith, less, n_is) in
    let spot : at + r ≡ k * size + r = omega (arith, at_is) in
    let place : at + from_place order r ≡ k * size + from_place order r = omega (arith, at_is) in
    ap (λ zs. item zs r) written
    ∙ item-listed size (λ i. item (map number (take m (drop at items))) (from_place order i)) r small
    ∙ item-part number items at m (from_place order r) (omega (arith, from_place-within order r is small, m_is))
    ∙ ap (item xs) place
    ∙ sym (ap (λ i. item xs (i / size * size + from_place order (i % size))) spot
    ∙ (λ i. item xs (div-mul-add k size r small i * size + from_place order (mod-mul-add k size r small i)))))
    j (omega (arith, h, at_is, n_is))

module _ (t : ItemType) (order : List ℕ) (is : IsOrder order) (ts : List Held) (xs : List (List ℤ)) (first count state : ℕ) (w : List ℤ) (hs : List Held)
    (fed : IsFed (permute t order) ts xs first count state (w ∷ []) hs) where
  permute_pace : IsPaced (permute t order) (length order) (length order)
  permute_pace = paced _ _ (length order) (length order) 1 _ _ 0 _ (permute t order).out is.some

  pub length-permuted : length w ≡ length order * count
  length-permuted = length-paced (permute t order) (length order) (length order) permute_pace ts xs first count state w hs fed ∙ omega arith

  later : (n q j : ℕ) → n * first + (q * n + j) ≡ (1 * first + q) * n + j
  later n q j = omega arith

  pub permuted-given : listed (length order * count) (λ k. item w (k / length order * length order + from_place order (k % length order))) ≡ given_items (permute t order) ts xs first count 0
  permuted-given =
      given-paced (permute t order) (length order) (length order) permute_pace ts xs first count state w hs fed 0 (length order * count)
      (λ k. item w (k / length order * length order + from_place order (k % length order))) refl
      (λ k h.
      let n = length order in
      let less : k % n < n = omega (arith, is.some) in
      item-paced (permute t order) n n permute_pace ts xs first count state w hs fed refl (k / n * n + from_place order (k % n))
      (item_of_firing n count (k / n) (from_place order (k % n)) (from_place-within order (k % n) is less) (div_below k n count (omega (arith, is.some)) (omega (arith, h))))
      ∙ ap (item (input xs 0)) (later n (k / n) (from_place order (k % n)))
      ∙ sym (λ i. item (input xs 0) (add-mul-div n first k is.some i * n + from_place order (mod-add n first k is.some i))))
