-- Where a tag goes in a list that is in order.
use Rattle.std.proofs.Common.{◌≡◌, ℕ, zero, suc, ◌<◌, ◌≤◌, ◌∙◌, ap, sym, subst, refl, arith, true, false, List, [], ◌∷◌, length, map, insert, slice_index_or, inl, inr}
use Rattle.std.specs.List.{AllWithin}
use Rattle.std.specs.List.Sorted.{IsNonDecreasingBy, IsPartitionedBy, IsPartitionPoint}
use Rattle.std.proofs.lemmas.Bool.{both_ways, cases_Bool, cases_lt}
use Rattle.std.proofs.lemmas.List.{length-map}
use Rattle.std.proofs.Math.ListN.{get_or-map}
use Rattle.std.proofs.lemmas.List as lists
use Rattle.std.specs.Ordering.{is_lt, is_gt}
use Rattle.stream_model.specs.Tags.{Tag, IsOrdered, tag_cmp, insert_tag}
use Rattle.items.specs.declared.marks.Tag as items
use Rattle.stream_model.proofs.TagOrder.{less_is_greater, not_greater-trans, first_after, first_here, offset_upto}
use Rattle.items.specs.Tags.{tag_of}

-- a tag goes before the first that is not less
pub insert_here : (t : Tag) (us : List Tag) (p : ℕ) → p ≤ length us → AllWithin (λ u. is_lt (tag_cmp u t) ≡ true) us 0 p
    → AllWithin (λ u. is_lt (tag_cmp u t) ≡ false) us p (length us) → insert_tag t us ≡ insert us p t
insert_here t [] zero le before after = refl
insert_here t [] (suc p) le before after = absurd (omega (arith, le))
insert_here t (u ∷ us) zero le before after = first_here t u us (sym (less_is_greater u t) ∙ after 0 u (omega arith) (omega arith))
insert_here t (u ∷ us) (suc p) le before after =
    first_after t u us (sym (less_is_greater u t) ∙ before 0 u (omega arith) (omega arith))
    ∙ ap (λ rest. u ∷ rest) (insert_here t us p (omega (arith, le)) (λ k d low high. before (suc k) d (omega arith) (omega (arith, high))) (λ k d low high. after (suc k) d (omega (arith, low)) (omega (arith, high))))

-- offsets do not fall along a list in order
pub offsets_rise : (us : List Tag) → IsOrdered us → (i j : ℕ) (d : Tag) → i ≤ j → j < length us → (slice_index_or us i d).offset ≤ (slice_index_or us j d).offset
offsets_rise us o i j d le h =
    elim (cases_lt i j) [ inl lt ↦ offset_upto (slice_index_or us i d) (slice_index_or us j d) (o i j d lt h) | inr ge ↦ let e : i ≡ j = omega (arith, le, ge) in rw e (omega arith) ]

-- nor along the same list as the code has it
pub stored_offsets_rise : (xs : List items.Tag) → IsOrdered (map tag_of xs) → IsNonDecreasingBy (λ t. t.offset) xs
stored_offsets_rise xs o i j d le h =
    let at_i = ap (λ t. t.offset) (get_or-map tag_of xs i d) in
    let at_j = ap (λ t. t.offset) (get_or-map tag_of xs j d) in
    omega (arith, offsets_rise (map tag_of xs) o i j (tag_of d) le (omega (arith, h, length-map xs tag_of)), at_i, at_j)

-- what comes before something less than t is less than t
less_before : (a b t : Tag) → is_gt (tag_cmp a b) ≡ false → is_lt (tag_cmp b t) ≡ true → is_lt (tag_cmp a t) ≡ true
less_before a b t up lt =
    elim (cases_Bool (is_lt (tag_cmp a t))) [
      | inl e ↦ e
      | inr e ↦ absurd (both_ways (is_gt (tag_cmp t b)) (not_greater-trans t a b (sym (less_is_greater a t) ∙ e) up) (sym (less_is_greater b t) ∙ lt))
    ]

pub stored_in_order : (xs : List items.Tag) → IsOrdered (map tag_of xs) → (i j : ℕ) (d : items.Tag) → i < j → j < length xs → is_gt (tag_cmp (tag_of (slice_index_or xs i d)) (tag_of (slice_index_or xs j d))) ≡ false
stored_in_order xs o i j d lt h =
    subst (λ a. is_gt (tag_cmp a (tag_of (slice_index_or xs j d))) ≡ false) (get_or-map tag_of xs i d)
    (subst (λ b. is_gt (tag_cmp (slice_index_or (map tag_of xs) i (tag_of d)) b) ≡ false) (get_or-map tag_of xs j d)
    (o i j (tag_of d) lt (omega (arith, h, length-map xs tag_of))))

-- the tags before another come first
pub less_come_first : (t : items.Tag) (xs : List items.Tag) → IsOrdered (map tag_of xs) → IsPartitionedBy (λ u. is_lt (tag_cmp (tag_of u) (tag_of t))) xs
less_come_first t xs o i j d le h e =
    elim (cases_lt i j) [
      | inl lt ↦ less_before (tag_of (slice_index_or xs i d)) (tag_of (slice_index_or xs j d)) (tag_of t) (stored_in_order xs o i j d lt h) e
      | inr ge ↦ let same : i ≡ j = omega (arith, le, ge) in rw same e
    ]

-- a tag goes behind those that are less
pub stored_insert : (t : items.Tag) (xs : List items.Tag) (p : ℕ) → p ≤ length xs
    → IsPartitionPoint (λ u. is_lt (tag_cmp (tag_of u) (tag_of t)) ≡ true) (λ u. is_lt (tag_cmp (tag_of u) (tag_of t)) ≡ false) xs p
    → insert_tag (tag_of t) (map tag_of xs) ≡ insert (map tag_of xs) p (tag_of t)
stored_insert t xs p le point =
    insert_here (tag_of t) (map tag_of xs) p (omega (arith, le, length-map xs tag_of))
    (λ k d low high. rw (lists.get_or-map tag_of xs k t d (omega (arith, high, le))) (point.0 k t low high))
    (λ k d low high. rw (lists.get_or-map tag_of xs k t d (omega (arith, high, length-map xs tag_of))) (point.1 k t low (omega (arith, high, length-map xs tag_of))))

-- the model's tags of a list with one more
pub map_insert : (xs : List items.Tag) (p : ℕ) (t : items.Tag) → map tag_of (insert xs p t) ≡ insert (map tag_of xs) p (tag_of t)
map_insert xs zero t = refl
map_insert [] (suc p) t = refl
map_insert (x ∷ xs) (suc p) t = ap (λ ts. tag_of x ∷ ts) (map_insert xs p t)
