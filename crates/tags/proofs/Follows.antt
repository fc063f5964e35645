-- Tags that are in order as they stand.
use Rattle.std.proofs.Common.{◌≡◌, ℕ, ◌+◌, ◌-◌, ◌<◌, ◌≤◌, ◌∙◌, subst, arith, true, false, Bool, List, [], ◌∷◌, length, take, drop, map, slice_index_or, Some, inl, inr}
use Rattle.std.specs.List.{IsAllAdjacentAnswer}
use Rattle.std.specs.Ordering.{is_gt, partial_le}
use Rattle.std.proofs.lemmas.Bool.{cases_lt}
use Rattle.std.proofs.lemmas.List.{length-map, get_or-take, get_or-drop, length-take-le, length-drop}
use Rattle.std.proofs.lemmas.List as lists
use Rattle.stream_model.specs.Tags.{IsOrdered, tag_cmp}
use Rattle.stream_model.proofs.TagOrder.{less_is_greater, not_greater-trans}
use Rattle.items.specs.declared.marks.Tag as items
use Rattle.items.specs.Tags.{tag_of, tag_order}
use Rattle.tags.proofs.Order.{stored_in_order}
use Rattle.tags.proofs.Sorted.{not_greater, ordered_sort}

-- neighbours in order make a list in order
pub found_ordered : (xs : List items.Tag) (r : Bool) → IsAllAdjacentAnswer (λ x y b. partial_le (λ a b. Some (tag_order a b)) x y ≡ b) xs r → r ≡ true → IsOrdered (map tag_of xs)
found_ordered [] r found e = λ i j d lt h. absurd (omega (arith, h))
found_ordered (x ∷ xs) r found e =
    ordered_sort (x ∷ xs) x
    (λ k d low high. less_is_greater (tag_of (slice_index_or (x ∷ xs) (k + 1) d)) (tag_of (slice_index_or (x ∷ xs) k d))
    ∙ not_greater _ (subst (IsAllAdjacentAnswer (λ x y b. partial_le (λ a b. Some (tag_order a b)) x y ≡ b) (x ∷ xs)) e found k d high))

from_pairs : (xs : List items.Tag) → ((i j : ℕ) (d : items.Tag) → i < j → j < length xs → is_gt (tag_cmp (tag_of (slice_index_or xs i d)) (tag_of (slice_index_or xs j d))) ≡ false) → IsOrdered (map tag_of xs)
from_pairs [] pair = λ i j d lt h. absurd (omega (arith, h))
from_pairs (x ∷ xs) pair = λ i j d lt h.
    let short : j < length (x ∷ xs) = omega (arith, h, length-map (x ∷ xs) tag_of) in
    rw (lists.get_or-map tag_of (x ∷ xs) i x d (omega (arith, lt, short)), lists.get_or-map tag_of (x ∷ xs) j x d short) (pair i j x lt short)

-- a list whose first tags are in order, and whose others are in order with the last of these
module _ (xs : List items.Tag) (kept : ℕ) (le : kept ≤ length xs) (first : IsOrdered (map tag_of (take kept xs))) (rest : IsOrdered (map tag_of (drop (kept - 1) xs))) where
  upto : (i j : ℕ) (d : items.Tag) → i < j → j < kept → is_gt (tag_cmp (tag_of (slice_index_or xs i d)) (tag_of (slice_index_or xs j d))) ≡ false
  upto i j d lt h =
      let many = length-take-le kept xs le in
      rw (← get_or-take kept xs i d (omega (arith, lt, h)), ← get_or-take kept xs j d h) (stored_in_order (take kept xs) first i j d lt (omega (arith, h, many)))

  behind : (i j : ℕ) (d : items.Tag) → kept - 1 ≤ i → i < j → j < length xs → is_gt (tag_cmp (tag_of (slice_index_or xs i d)) (tag_of (slice_index_or xs j d))) ≡ false
  behind i j d low lt h =
      let from = kept - 1 in
      let at_i : from + (i - from) ≡ i = omega (arith, low) in
      let at_j : from + (j - from) ≡ j = omega (arith, low, lt) in
      subst (λ n. is_gt (tag_cmp (tag_of (slice_index_or xs n d)) (tag_of (slice_index_or xs j d))) ≡ false) at_i
      (subst (λ n. is_gt (tag_cmp (tag_of (slice_index_or xs (from + (i - from)) d)) (tag_of (slice_index_or xs n d))) ≡ false) at_j
      (rw (← get_or-drop from xs (i - from) d, ← get_or-drop from xs (j - from) d)
      (stored_in_order (drop from xs) rest (i - from) (j - from) d (omega (arith, low, lt)) (omega (arith, h, low, lt, length-drop from xs)))))

  pair : (i j : ℕ) (d : items.Tag) → i < j → j < length xs → is_gt (tag_cmp (tag_of (slice_index_or xs i d)) (tag_of (slice_index_or xs j d))) ≡ false
  pair i j d lt h =
      elim (cases_lt j kept) [
        | inl early ↦ upto i j d lt early
        | inr late ↦
            elim (cases_lt i (kept - 1)) [
              | inl before ↦
                  not_greater-trans (tag_of (slice_index_or xs i d)) (tag_of (slice_index_or xs (kept - 1) d)) (tag_of (slice_index_or xs j d)) (upto i (kept - 1) d before (omega (arith, before)))
                  (behind (kept - 1) j d (omega arith) (omega (arith, late, before)) h)
              | inr from ↦ behind i j d from lt h
            ]
      ]

  pub follows : IsOrdered (map tag_of xs)
  follows = from_pairs xs pair
