-- Sorted tags: what a filter keeps of them is sorted, and the order in which they come plays no part.
use Rattle.std.proofs.Common.{◌≡◌, ℕ, zero, suc, ◌<◌, ◌∙◌, ap, sym, refl, arith, Bool, true, false, cond, List, [], ◌∷◌, ℤ, length, get_or, set, All, inl, inr}
use Rattle.std.specs.List.{filter}
use Rattle.std.specs.declared.cmp.Ordering.{Ordering}
use Rattle.std.specs.declared.cmp.Ordering.TheVariants.{Less, Equal, Greater}
use Rattle.std.specs.Ordering.{is_lt, is_gt, is_eq, ordering_reverse, ordering_then, nat_cmp, int_cmp}
use Rattle.std.specs.Cmp.Lexicographic.{slice_cmp}
use Rattle.std.proofs.lemmas.Map.Lookups.{exact_unsigned, exact_signed, exact_bytes, exact_pairs}
use Rattle.std.proofs.lemmas.Cmp.{tied_itself}
use Rattle.std.specs.List.Sorted.{IsPermutation}
use Rattle.std.specs.List as lists
use Rattle.std.proofs.lemmas.List.Sorted.{IsPermutation-keeps}
use Rattle.std.proofs.lemmas.Bool.{both_ways, cases_Bool, cases_eq}
use Rattle.std.proofs.lemmas.List.{length-set, get_or-set_same, get_or-set_other}
use Rattle.std.proofs.lemmas.List.Elements.{All-cons, All-head, All-filter}
use Rattle.stream_model.specs.Tags.{Tag, IsOrdered, tag_cmp, insert_tag, sorted_tags}
use Rattle.stream_model.proofs.TagOrder.{tag_total, less_is_greater, first_after, first_here, not_greater-trans, ordered_insert, later, rest_ordered, all_after}

-- a tag goes to the front of those that are not before it
pub insert_front : (t : Tag) (us : List Tag) → All (λ u. is_gt (tag_cmp t u) ≡ false) us → insert_tag t us ≡ t ∷ us
insert_front t [] all = refl
insert_front t (u ∷ us) all = first_here t u us (All-head (λ v. is_gt (tag_cmp t v) ≡ false) u us all)

pub ordered_sorted : (ts : List Tag) → IsOrdered (sorted_tags ts)
ordered_sorted [] = λ i j d lt h. absurd (omega arith)
ordered_sorted (t ∷ ts) = ordered_insert t (sorted_tags ts) (ordered_sorted ts)

filter_kept : (keeps : Tag → Bool) (t : Tag) (ts : List Tag) → keeps t ≡ true → filter keeps (t ∷ ts) ≡ t ∷ filter keeps ts
filter_kept keeps t ts e = rw e refl

filter_dropped : (keeps : Tag → Bool) (t : Tag) (ts : List Tag) → keeps t ≡ false → filter keeps (t ∷ ts) ≡ filter keeps ts
filter_dropped keeps t ts e = rw e refl

module _ (keeps : Tag → Bool) where
  pub filter-insert_dropped : (t : Tag) (us : List Tag) → keeps t ≡ false → filter keeps (insert_tag t us) ≡ filter keeps us
  filter-insert_dropped t [] e = filter_dropped keeps t [] e
  filter-insert_dropped t (u ∷ us) e =
      elim (cases_Bool (is_gt (tag_cmp t u))) [
        | inl after ↦ ap (filter keeps) (first_after t u us after) ∙ ap (λ rest. cond (keeps u) (u ∷ rest) rest) (filter-insert_dropped t us e)
        | inr here ↦ ap (filter keeps) (first_here t u us here) ∙ filter_dropped keeps t (u ∷ us) e
      ]

  insert_after : (t u : Tag) (us : List Tag) → is_gt (tag_cmp t u) ≡ true → filter keeps (insert_tag t us) ≡ insert_tag t (filter keeps us) → filter keeps (u ∷ insert_tag t us) ≡ insert_tag t (filter keeps (u ∷ us))
  insert_after t u us after rest =
      elim (cases_Bool (keeps u)) [
        | inl e ↦ filter_kept keeps u (insert_tag t us) e ∙ ap (λ ts. u ∷ ts) rest ∙ sym (first_after t u (filter keeps us) after) ∙ ap (insert_tag t) (sym (filter_kept keeps u us e))
        | inr e ↦ filter_dropped keeps u (insert_tag t us) e ∙ rest ∙ ap (insert_tag t) (sym (filter_dropped keeps u us e))
      ]

  pub filter-insert_kept : (t : Tag) (us : List Tag) → IsOrdered us → keeps t ≡ true → filter keeps (insert_tag t us) ≡ insert_tag t (filter keeps us)
  filter-insert_kept t [] o e = filter_kept keeps t [] e
  filter-insert_kept t (u ∷ us) o e =
      elim (cases_Bool (is_gt (tag_cmp t u))) [
        | inl after ↦ ap (filter keeps) (first_after t u us after) ∙ insert_after t u us after (filter-insert_kept t us (rest_ordered u us o) e)
        | inr here ↦ ap (filter keeps) (first_here t u us here) ∙ filter_kept keeps t (u ∷ us) e
            ∙ sym (insert_front t (filter keeps (u ∷ us))
            (All-filter keeps (λ v. is_gt (tag_cmp t v) ≡ false) (u ∷ us)
            (All-cons (λ v. is_gt (tag_cmp t v) ≡ false) u us here (all_after t u us here (later u us o)))))
      ]

  -- what a filter keeps of sorted tags is what it keeps of them, sorted
  pub filter-sorted : (ts : List Tag) → filter keeps (sorted_tags ts) ≡ sorted_tags (filter keeps ts)
  filter-sorted [] = refl
  filter-sorted (t ∷ ts) =
      elim (cases_Bool (keeps t)) [
        | inl e ↦ filter-insert_kept t (sorted_tags ts) (ordered_sorted ts) e ∙ ap (insert_tag t) (filter-sorted ts) ∙ ap sorted_tags (sym (filter_kept keeps t ts e))
        | inr e ↦ filter-insert_dropped t (sorted_tags ts) e ∙ filter-sorted ts ∙ ap sorted_tags (sym (filter_dropped keeps t ts e))
      ]

-- equal by the order is equal
pub same_tag : (a b : Tag) → tag_cmp a b ≡ Equal → a ≡ b
same_tag a b e = ap made (exact (a.offset, (a.key, (a.value, a.source))) (b.offset, (b.key, (b.value, b.source))) e)
  where
    made : ℕ × (List ℕ × (ℤ × ℕ)) → Tag
    made x = record { offset = x.0; key = x.1.0; value = x.1.1.0; source = x.1.1.1 }

    by_source : ℤ × ℕ → ℤ × ℕ → Ordering
    by_source x y = ordering_then (int_cmp x.0 y.0) (nat_cmp x.1 y.1)

    by_key : List ℕ × (ℤ × ℕ) → List ℕ × (ℤ × ℕ) → Ordering
    by_key x y = ordering_then (slice_cmp nat_cmp x.0 y.0) (by_source x.1 y.1)

    exact : (x y : ℕ × (List ℕ × (ℤ × ℕ))) → ordering_then (nat_cmp x.0 y.0) (by_key x.1 y.1) ≡ Equal → x ≡ y
    exact = exact_pairs nat_cmp by_key exact_unsigned (exact_pairs (slice_cmp nat_cmp) by_source exact_bytes (exact_pairs int_cmp nat_cmp exact_signed exact_unsigned))

-- inserts may be made in either order: first where t is less than u
module _ (t u : Tag) (less : is_gt (tag_cmp t u) ≡ false) (greater : is_gt (tag_cmp u t) ≡ true) where
  swap_less : (us : List Tag) → insert_tag t (insert_tag u us) ≡ insert_tag u (insert_tag t us)
  swap_less [] = first_here t u [] less ∙ sym (first_after u t [] greater)
  swap_less (v ∷ vs) =
      elim (cases_Bool (is_gt (tag_cmp t v))) [
        | inl tv ↦ elim (cases_Bool (is_gt (tag_cmp u v))) [
          | inl uv ↦ ap (insert_tag t) (first_after u v vs uv) ∙ first_after t v (insert_tag u vs) tv ∙ ap (λ ts. v ∷ ts) (swap_less vs) ∙ sym (ap (insert_tag u) (first_after t v vs tv) ∙ first_after u v (insert_tag t vs) uv)
          | inr uv ↦ absurd (both_ways (is_gt (tag_cmp t v)) (not_greater-trans t u v less uv) tv)
        ]
        | inr tv ↦ elim (cases_Bool (is_gt (tag_cmp u v))) [
          | inl uv ↦ ap (insert_tag t) (first_after u v vs uv) ∙ first_here t v (insert_tag u vs) tv ∙ sym (ap (insert_tag u) (first_here t v vs tv) ∙ first_after u t (v ∷ vs) greater ∙ ap (λ ts. t ∷ ts) (first_after u v vs uv))
          | inr uv ↦ ap (insert_tag t) (first_here u v vs uv) ∙ first_here t u (v ∷ vs) less ∙ sym (ap (insert_tag u) (first_here t v vs tv) ∙ first_after u t (v ∷ vs) greater ∙ ap (λ ts. t ∷ ts) (first_here u v vs uv))
        ]
      ]

swap_by : (t u : Tag) (us : List Tag) (o : Ordering) → tag_cmp t u ≡ o → insert_tag t (insert_tag u us) ≡ insert_tag u (insert_tag t us)
swap_by t u us Less e = swap_less t u (ap is_gt e) (sym (less_is_greater t u) ∙ ap is_lt e) us
swap_by t u us Equal e = let same = same_tag t u e in rw same refl
swap_by t u us Greater e = sym (swap_less u t (ap is_gt (tag_total.antisymm u t ∙ ap ordering_reverse e)) (ap is_gt e) us)

pub insert_tag-swap : (t u : Tag) (us : List Tag) → insert_tag t (insert_tag u us) ≡ insert_tag u (insert_tag t us)
insert_tag-swap t u us = swap_by t u us (tag_cmp t u) refl

-- taking a tag out again undoes an insert
abbrev without : Tag → List Tag → List Tag
without t [] = []
without t (u ∷ us) = cond (is_eq (tag_cmp t u)) us (u ∷ without t us)

not_equal : (o : Ordering) → is_gt o ≡ true → is_eq o ≡ false
not_equal Less e = cc
not_equal Equal e = cc
not_equal Greater e = refl

without-here : (t : Tag) (us : List Tag) → without t (t ∷ us) ≡ us
without-here t us = let e = tied_itself tag_total t in rw e refl

without-later : (t u : Tag) (us : List Tag) → is_gt (tag_cmp t u) ≡ true → without t (u ∷ us) ≡ u ∷ without t us
without-later t u us after = let e = not_equal (tag_cmp t u) after in rw e refl

without-insert : (t : Tag) (us : List Tag) → without t (insert_tag t us) ≡ us
without-insert t [] = without-here t []
without-insert t (u ∷ us) =
    elim (cases_Bool (is_gt (tag_cmp t u))) [
      | inl after ↦ ap (without t) (first_after t u us after) ∙ without-later t u (insert_tag t us) after ∙ ap (λ ts. u ∷ ts) (without-insert t us)
      | inr here ↦ ap (without t) (first_here t u us here) ∙ without-here t (u ∷ us)
    ]

insert_tag-cancel : (t : Tag) (us vs : List Tag) → insert_tag t us ≡ insert_tag t vs → us ≡ vs
insert_tag-cancel t us vs e = sym (without-insert t us) ∙ ap (without t) e ∙ without-insert t vs

-- one tag in the place of another
sorted-set : (ts : List Tag) (i : ℕ) (u d : Tag) → i < length ts → insert_tag (get_or ts i d) (sorted_tags (set ts i u)) ≡ insert_tag u (sorted_tags ts)
sorted-set [] i u d h = absurd (omega arith)
sorted-set (t ∷ ts) zero u d h = insert_tag-swap t u (sorted_tags ts)
sorted-set (t ∷ ts) (suc i) u d h =
    let h' : i < length ts = omega arith in
    insert_tag-swap (get_or ts i d) t (sorted_tags (set ts i u)) ∙ ap (insert_tag t) (sorted-set ts i u d h') ∙ insert_tag-swap t u (sorted_tags ts)

sorted-swap : (ts : List Tag) (i j : ℕ) → i < length ts → j < length ts → sorted_tags (lists.swap ts i j) ≡ sorted_tags ts
sorted-swap [] i j low high = refl
sorted-swap (t ∷ ts) i j low high =
    let there : get_or (set (t ∷ ts) i (get_or (t ∷ ts) j t)) j t ≡ get_or (t ∷ ts) j t =
    elim (cases_eq j i) [
      | inl same ↦ rw same (get_or-set_same (t ∷ ts) i (get_or (t ∷ ts) i t) t low)
      | inr other ↦ get_or-set_other (t ∷ ts) i j (get_or (t ∷ ts) j t) t other
    ] in
    let in' : j < length (set (t ∷ ts) i (get_or (t ∷ ts) j t)) = omega (arith, length-set (t ∷ ts) i (get_or (t ∷ ts) j t)) in
    insert_tag-cancel (get_or (t ∷ ts) j t) (sorted_tags (lists.swap (t ∷ ts) i j)) (sorted_tags (t ∷ ts))
    (ap (λ u. insert_tag u (sorted_tags (lists.swap (t ∷ ts) i j))) (sym there)
    ∙ sorted-set (set (t ∷ ts) i (get_or (t ∷ ts) j t)) j (get_or (t ∷ ts) i t) t in'
    ∙ sorted-set (t ∷ ts) i (get_or (t ∷ ts) j t) t low)

-- sorted tags do not depend on the order in which they come
pub sorted-permutation : (ts us : List Tag) → IsPermutation ts us → sorted_tags us ≡ sorted_tags ts
sorted-permutation ts us p = IsPermutation-keeps ts (λ l. sorted_tags l ≡ sorted_tags ts) refl (λ l i j low high same. sorted-swap l i j low high ∙ same) us p
