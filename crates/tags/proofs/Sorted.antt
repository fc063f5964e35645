-- Lists of tags in order: one stands for all the orders in which its tags may come.
use Rattle.std.proofs.Common.{◌≡◌, ℕ, zero, suc, ◌+◌, ◌-◌, ◌<◌, ◌≤◌, ◌∙◌, ap, sym, subst, refl, arith, true, false, List, [], ◌∷◌, ◌++◌, append_assoc, length, take, drop, map, slice_index_or, All, inl, inr}
use Rattle.std.specs.List.Sorted.{IsPermutation, IsPartitionedBy, IsPartitionPoint, IsSorted}
use Rattle.std.specs.declared.cmp.Ordering.{Ordering}
use Rattle.std.specs.declared.cmp.Ordering.TheVariants.{Less, Equal, Greater}
use Rattle.std.specs.Ordering.{is_lt, is_le, is_gt}
use Rattle.std.proofs.lemmas.Bool.{cases_lt}
use Rattle.std.proofs.lemmas.Cmp.{tied_itself}
use Rattle.std.proofs.lemmas.List.{append-nil, length-append, length-map, map-append, take-map, length-take, take_all, drop_all, get_or-take, get_or-drop, length-take-le, length-drop, take-append-drop, take-append-le, drop-append-le}
use Rattle.std.proofs.lemmas.List.Elements.{All-append, All-cons, All-map, All-nil}
use Rattle.std.proofs.lemmas.List.Kept.{AllPairs-cons}
use Rattle.std.proofs.lemmas.List.Sorted.{IsPermutation-sym, IsPermutation-trans, IsPermutation-middle, IsPermutation-map, IsPermutation-append_comm, IsPermutation-append_right, All-permutation, ranks_by, sorted_far}
use Rattle.std.proofs.lemmas.List as lists
use borrow.Rule.Slice.PartMut.{put_mid}
use Rattle.stream_model.specs.Tags.{Tag, IsOrdered, tag_cmp, insert_tag, sorted_tags}
use Rattle.stream_model.proofs.TagOrder.{tag_total, less_is_greater, not_greater-trans, all_after, later, ordered_insert, rest_ordered}
use Rattle.stream_laws.proofs.Sorting.{insert_front, sorted-permutation}
use Rattle.items.specs.declared.marks.Tag as items
use Rattle.items.specs.Tags.{tag_of, tag_order}
use Rattle.tags.specs.TagList.{insert_tags, kept_of}
use Rattle.tags.proofs.Order.{stored_in_order}
use Rattle.tags.proofs.Rows.{from_place}

pub not_greater : (o : Ordering) → is_le o ≡ true → is_gt o ≡ false
not_greater Less e = refl
not_greater Equal e = refl
not_greater Greater e = cc

not_above : (o : Ordering) → is_gt o ≡ false → is_le o ≡ true
not_above Less e = refl
not_above Equal e = refl
not_above Greater e = cc

not_less : (o : Ordering) → is_le o ≡ false → is_lt o ≡ false
not_less Less e = cc
not_less Equal e = refl
not_less Greater e = refl

-- sorting leaves a list in order as it is
sorted_ordered : (us : List Tag) → IsOrdered us → sorted_tags us ≡ us
sorted_ordered [] o = refl
sorted_ordered (u ∷ us) o = ap (insert_tag u) (sorted_ordered us (rest_ordered u us o)) ∙ insert_front u us (later u us o)

inserted_sorted : (ts us : List Tag) → insert_tags ts (sorted_tags us) ≡ sorted_tags (ts ++ us)
inserted_sorted [] us = refl
inserted_sorted (t ∷ ts) us =
    inserted_sorted ts (t ∷ us)
    ∙ sorted-permutation (t ∷ (ts ++ us)) (ts ++ t ∷ us) (IsPermutation-sym (ts ++ t ∷ us) (t ∷ (ts ++ us)) (IsPermutation-middle ts t us))

-- whatever is in order and has the tags of both is one list with the other's in it
pub inserted : (ts us vs : List Tag) → IsOrdered us → IsPermutation (ts ++ us) vs → IsOrdered vs → insert_tags ts us ≡ vs
inserted ts us vs o same p =
    ap (insert_tags ts) (sym (sorted_ordered us o)) ∙ inserted_sorted ts us ∙ sym (sorted-permutation (ts ++ us) vs same) ∙ sorted_ordered vs p

-- two lists in order, the first up to a tag and the second from there on
pub ordered_append : (us vs : List Tag) (t : Tag) → IsOrdered us → IsOrdered vs → All (λ u. is_gt (tag_cmp u t) ≡ false) us → All (λ v. is_gt (tag_cmp t v) ≡ false) vs → IsOrdered (us ++ vs)
ordered_append [] vs t o p before after = p
ordered_append (u ∷ us) vs t o p before after =
    AllPairs-cons (λ a b. is_gt (tag_cmp a b) ≡ false) u (us ++ vs)
    (All-append (λ v. is_gt (tag_cmp u v) ≡ false) us vs (later u us o) (all_after u t vs (before 0 t (omega arith)) after))
    (ordered_append us vs t (rest_ordered u us o) p (λ k d h. before (suc k) d (omega (arith, h))) after)

ordered_take : (n : ℕ) (xs : List items.Tag) → IsOrdered (map tag_of xs) → IsOrdered (map tag_of (take n xs))
ordered_take n xs o =
    subst IsOrdered (take-map tag_of n xs)
    (λ i j d lt h. let short = length-take n (map tag_of xs) in
    rw (get_or-take n (map tag_of xs) i d (omega (arith, lt, h, short)), get_or-take n (map tag_of xs) j d (omega (arith, h, short))) (o i j d lt (omega (arith, h, short))))

-- so what is in order with more behind it has these where they go
pub in_place : (n : ℕ) (xs : List items.Tag) → IsOrdered (map tag_of xs) → map tag_of xs ≡ insert_tags (map tag_of (drop n xs)) (map tag_of (take n xs))
in_place n xs o =
    sym (inserted (map tag_of (drop n xs)) (map tag_of (take n xs)) (map tag_of xs) (ordered_take n xs o)
    (subst (IsPermutation (map tag_of (drop n xs) ++ map tag_of (take n xs))) (sym (map-append tag_of (take n xs) (drop n xs)) ∙ ap (map tag_of) (take-append-drop n xs))
    (IsPermutation-append_comm (map tag_of (drop n xs)) (map tag_of (take n xs)))) o)

-- the tags up to another come first
pub upto_come_first : (t : items.Tag) (xs : List items.Tag) → IsOrdered (map tag_of xs) → IsPartitionedBy (λ u. is_le (tag_cmp (tag_of u) (tag_of t))) xs
upto_come_first t xs o i j d le h e =
    elim (cases_lt i j) [
      | inl lt ↦ not_above _ (not_greater-trans (tag_of (slice_index_or xs i d)) (tag_of (slice_index_or xs j d)) (tag_of t) (stored_in_order xs o i j d lt h) (not_greater _ e))
      | inr ge ↦ let same : i ≡ j = omega (arith, le, ge) in rw same e
    ]

-- a tag goes behind all where the last is not behind it
pub stored_push : (t : items.Tag) (xs : List items.Tag) → IsOrdered (map tag_of xs) → 0 < length xs → ((d : items.Tag) → is_le (tag_cmp (tag_of (slice_index_or xs (length xs - 1) d)) (tag_of t)) ≡ true)
    → insert_tag (tag_of t) (map tag_of xs) ≡ map tag_of xs ++ tag_of t ∷ []
stored_push t xs o some le =
    inserted (tag_of t ∷ []) (map tag_of xs) (map tag_of xs ++ tag_of t ∷ []) o (IsPermutation-append_comm (tag_of t ∷ []) (map tag_of xs))
    (ordered_append (map tag_of xs) (tag_of t ∷ []) (tag_of t) o (λ i j d lt h. absurd (omega (arith, lt, h)))
    (All-map (λ u. is_gt (tag_cmp u (tag_of t)) ≡ false) tag_of xs (λ k d h. not_greater _ (upto_come_first t xs o k (length xs - 1) d (omega (arith, h)) (omega (arith, some)) (le d))))
    (All-cons (λ u. is_gt (tag_cmp (tag_of t) u) ≡ false) (tag_of t) [] (let same = tied_itself tag_total (tag_of t) in rw same refl) (All-nil _)))

-- what a sort makes is in order
pub ordered_sort : (ys : List items.Tag) (t : items.Tag) → IsSorted tag_order ys → IsOrdered (map tag_of ys)
ordered_sort ys t sorted i j d lt h =
    let short : j < length ys = omega (arith, h, length-map ys tag_of) in
    let earlier : i < length ys = omega (arith, lt, short) in
    rw (lists.get_or-map tag_of ys i t d earlier, lists.get_or-map tag_of ys j t d short)
    (sym (less_is_greater (tag_of (slice_index_or ys j t)) (tag_of (slice_index_or ys i t)))
    ∙ sorted_far (λ a b. is_lt (tag_cmp (tag_of a) (tag_of b))) (ranks_by tag_total tag_of) ys sorted i j t (omega (arith, lt)) short)

module _ (least : items.Tag) (before : List items.Tag) (place : ℕ) (le : place ≤ length before)
    (point : IsPartitionPoint (λ u. is_le (tag_cmp (tag_of u) (tag_of least)) ≡ true) (λ u. is_le (tag_cmp (tag_of u) (tag_of least)) ≡ false) before place) where
  up : (u : items.Tag) → is_lt (tag_cmp (tag_of u) (tag_of least)) ≡ false → is_gt (tag_cmp (tag_of least) (tag_of u)) ≡ false
  up u e = sym (less_is_greater (tag_of u) (tag_of least)) ∙ e

  first_upto : All (λ u. is_gt (tag_cmp u (tag_of least)) ≡ false) (map tag_of (take place before))
  first_upto =
      All-map (λ u. is_gt (tag_cmp u (tag_of least)) ≡ false) tag_of (take place before)
      (λ k d h. let low : k < place = omega (arith, h, length-take-le place before le) in
      rw (get_or-take place before k d low) (not_greater _ (point.0 k d (omega arith) low)))

  rest_from : All (λ u. is_gt (tag_cmp (tag_of least) (tag_of u)) ≡ false) (drop place before)
  rest_from = λ k d h.
      rw (get_or-drop place before k d)
      (up (slice_index_or before (place + k) d) (not_less _ (point.1 (place + k) d (omega arith) (omega (arith, h, length-drop place before)))))

  -- the tags up to the least of some more stay, and the others are sorted with those
  pub sorted_in : (more ys : List items.Tag) → IsOrdered (map tag_of before) → All (λ u. is_lt (tag_cmp (tag_of u) (tag_of least)) ≡ false) more
      → IsPermutation (drop place before ++ more) ys → IsSorted tag_order ys → map tag_of (take place before ++ ys) ≡ insert_tags (map tag_of more) (map tag_of before)
  sorted_in more ys o rest same sorted = sym (inserted (map tag_of more) (map tag_of before) (map tag_of (take place before ++ ys)) o moved in_order)
    where
      behind : All (λ u. is_gt (tag_cmp (tag_of least) (tag_of u)) ≡ false) ys
      behind = All-permutation (λ u. is_gt (tag_cmp (tag_of least) (tag_of u)) ≡ false) (drop place before ++ more) ys same
          (All-append (λ u. is_gt (tag_cmp (tag_of least) (tag_of u)) ≡ false) (drop place before) more rest_from (λ k d h. up (slice_index_or more k d) (rest k d h)))

      in_order : IsOrdered (map tag_of (take place before ++ ys))
      in_order =
          rw (map-append tag_of (take place before) ys)
          (ordered_append (map tag_of (take place before)) (map tag_of ys) (tag_of least) (ordered_take place before o) (ordered_sort ys least sorted) first_upto
          (All-map (λ u. is_gt (tag_cmp (tag_of least) u) ≡ false) tag_of ys behind))

      all : take place before ++ (drop place before ++ more) ≡ before ++ more
      all = sym (append_assoc (take place before) (drop place before) more) ∙ ap (λ us. us ++ more) (take-append-drop place before)

      moved : IsPermutation (map tag_of more ++ map tag_of before) (map tag_of (take place before ++ ys))
      moved =
          rw (← map-append tag_of more before)
          (IsPermutation-map tag_of (more ++ before) (take place before ++ ys)
          (IsPermutation-trans (more ++ before) (before ++ more) (take place before ++ ys) (IsPermutation-append_comm more before)
          (subst (λ us. IsPermutation us (take place before ++ ys)) all (IsPermutation-append_right (take place before) (drop place before ++ more) ys same))))

-- what stands where a part from a place on is written over
pub parted : (place : ℕ) (xs ys : List items.Tag) → put_mid place (length xs - place) xs ys ≡ take place xs ++ ys
parted place xs ys = let none = drop_all (length xs - place) (drop place xs) (omega (arith, length-drop place xs)) in rw (none, append-nil ys) refl

pub all_behind : (place : ℕ) (before more : List items.Tag) → place ≤ length before → take (length (before ++ more) - place) (drop place (before ++ more)) ≡ drop place before ++ more
all_behind place before more le =
    take_all (length (before ++ more) - place) (drop place (before ++ more)) (omega (arith, length-drop place (before ++ more))) ∙ drop-append-le place before more le

-- as many as before
pub length-parted : (gone : ℕ) (xs row ys : List items.Tag) → xs ≡ row → gone ≤ length row → length ys ≡ length (take (length xs - gone) (drop gone xs)) → length (take gone row ++ ys) ≡ length row
length-parted gone xs row ys same le many =
    let rest : length ys ≡ length row - gone = many ∙ ap length (from_place xs row gone same) ∙ length-drop gone row in
    omega (arith, length-append (take gone row) ys, length-take-le gone row le, rest, le)

-- the same in a row, of which nothing is left over
pub parted_row : (gone len : ℕ) (xs row ys : List items.Tag) → xs ≡ row → len ≡ length row → length (take gone row ++ ys) ≡ length row
    → take len (put_mid gone (length xs - gone) xs ys ++ drop (length (put_mid gone (length xs - gone) xs ys)) row) ≡ take gone row ++ ys
parted_row gone len xs row ys same whole full =
    ap (λ us. take len (us ++ drop (length us) row)) (parted gone xs ys ∙ ap (λ us. take gone us ++ ys) same)
    ∙ (ap (λ us. take len ((take gone row ++ ys) ++ us)) (drop_all (length (take gone row ++ ys)) row (omega (arith, full)))
    ∙ (ap (take len) (append-nil (take gone row ++ ys))
    ∙ take_all len (take gone row ++ ys) (omega (arith, full, whole))))

-- what is kept of it
pub kept_parted : (gone : ℕ) (row ys : List items.Tag) → gone ≤ length row → kept_of (take gone row ++ ys) gone ≡ map tag_of ys
kept_parted zero row ys le = refl
kept_parted (suc gone) [] ys le = absurd (omega (arith, le))
kept_parted (suc gone) (x ∷ row) ys le = kept_parted gone row ys (omega (arith, le))

pub ordered_insert_tags : (ts us : List Tag) → IsOrdered us → IsOrdered (insert_tags ts us)
ordered_insert_tags [] us o = o
ordered_insert_tags (t ∷ ts) us o = ordered_insert_tags ts (insert_tag t us) (ordered_insert t us o)

front : (xs ys : List items.Tag) → take (length xs) (xs ++ ys) ≡ xs
front xs ys = take-append-le (length xs) xs ys (omega arith) ∙ take_all (length xs) xs (omega arith)

back : (xs ys : List items.Tag) → drop (length xs) (xs ++ ys) ≡ ys
back [] ys = refl
back (x ∷ xs) ys = back xs ys

-- what a row has and what was put behind it
pub row_and_more : (gone kept : ℕ) (xs row more : List items.Tag) → xs ≡ row ++ more → gone ≤ length row → kept ≡ length row - gone
    → insert_tags (map tag_of (drop kept (take (length xs - gone) (drop gone xs)))) (map tag_of (take kept (take (length xs - gone) (drop gone xs)))) ≡ insert_tags (map tag_of more) (kept_of row gone)
row_and_more gone kept xs row more same le some =
    let count : kept ≡ length (drop gone row) = some ∙ sym (length-drop gone row) in
    let behind : take (length xs - gone) (drop gone xs) ≡ drop gone row ++ more = subst (λ us. take (length us - gone) (drop gone us) ≡ drop gone row ++ more) (sym same) (all_behind gone row more le) in
    rw (behind, count, front (drop gone row) more, back (drop gone row) more) refl
