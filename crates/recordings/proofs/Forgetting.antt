-- Tags that are taken out of a list and put in again, and tags on items before a part of it.
use Rattle.std.proofs.Common.{◌≡◌, ℕ, ◌<◌, ◌≤◌, ◌∙◌, ap, sym, refl, arith, zero-le, append-nil, length, subst, false, List, [], ◌∷◌, ◌++◌, All, map, get_or, nat_le, nat_lt, inl, inr}
use Rattle.std.specs.Prelude.{◌&&◌}
use Rattle.std.specs.Ordering.{is_gt}
use Rattle.std.proofs.lemmas.Bool.{cases_Bool, le-leb, leb-true, lt-leb, ltb-true, ltb-false}
use Rattle.std.proofs.lemmas.List.Elements.{All-nil, All-cons, All-head, All-tail, All-filter, All-append, All-weaker}
use Rattle.std.proofs.lemmas.Grind.{flat_map-append}
use Rattle.stream_model.specs.Tags.{Tag, IsOrdered, tag_cmp, insert_tag, sorted_tags, tags_within}
use Rattle.stream_model.proofs.TagOrder.{later, offset_upto, rest_ordered}
use Rattle.stream_laws.proofs.InTime.{within-none}
use Rattle.stream_laws.proofs.Sorting.{insert_front, insert_tag-swap, filter-insert_dropped, sorted-permutation}
use Rattle.std.proofs.lemmas.List.Sorted.{IsPermutation-sym, IsPermutation-middle}
use Rattle.items.specs.declared.marks.Tag as typed
use Rattle.items.specs.Tags.{tag_of}
use Rattle.tags.specs.TagList.{TagList, tags_from, insert_tags}
use Rattle.recordings.specs.Recent.{AreRecentTags, LieBefore, LieFrom, forgotten_tags}

-- a tag may go in before others or behind them
pub insert_tags-one : (ts : List Tag) (u : Tag) (us : List Tag) → insert_tags ts (insert_tag u us) ≡ insert_tag u (insert_tags ts us)
insert_tags-one [] u us = refl
insert_tags-one (t ∷ ts) u us = ap (insert_tags ts) (insert_tag-swap t u us) ∙ insert_tags-one ts u (insert_tag t us)

pub insert_tags-swap : (ts us vs : List Tag) → insert_tags ts (insert_tags us vs) ≡ insert_tags us (insert_tags ts vs)
insert_tags-swap ts [] vs = refl
insert_tags-swap ts (u ∷ us) vs = insert_tags-swap ts us (insert_tag u vs) ∙ ap (insert_tags us) (insert_tags-one ts u vs)

pub insert_tags-append : (ts us vs : List Tag) → insert_tags (ts ++ us) vs ≡ insert_tags us (insert_tags ts vs)
insert_tags-append [] us vs = refl
insert_tags-append (t ∷ ts) us vs = insert_tags-append ts us (insert_tag t vs)

-- the tags before an item and those from it on are all
pub parted : (to : ℕ) (ts : List Tag) → IsOrdered ts → insert_tags (tags_within 0 to ts) (tags_from to ts) ≡ ts
parted to [] o = refl
parted to (t ∷ ts) o =
    let rest : insert_tags (tags_within 0 to ts) (tags_from to ts) ≡ ts = parted to ts (rest_ordered t ts o) in
    let front : insert_tag t (insert_tags (tags_within 0 to ts) (tags_from to ts)) ≡ t ∷ ts = ap (insert_tag t) rest ∙ insert_front t ts (later t ts o) in
    elim (cases_Bool (nat_lt t.offset to)) [
      | inl low ↦ let high = lt-leb to t.offset (ltb-true t.offset to low) in
          rw (le-leb 0 t.offset zero-le, low, high) (insert_tags-one (tags_within 0 to ts) t (tags_from to ts) ∙ front)
      | inr low ↦ let high = le-leb to t.offset (ltb-false t.offset to low) in
          rw (le-leb 0 t.offset zero-le, low, high) (ap (insert_tags (tags_within 0 to ts)) (sym (insert_front t (tags_from to ts) (All-filter (λ u. nat_le to u.offset) (λ u. is_gt (tag_cmp t u) ≡ false) ts (later t ts o))))
          ∙ insert_tags-one (tags_within 0 to ts) t (tags_from to ts) ∙ front)
    ]

-- so what is forgotten and what is kept stay together all, where more is forgotten
pub forgotten_more : (gone ts : List Tag) (to : ℕ) → IsOrdered ts → insert_tags (gone ++ tags_within 0 to ts) (tags_from to ts) ≡ insert_tags gone ts
forgotten_more gone ts to o =
    insert_tags-append gone (tags_within 0 to ts) (tags_from to ts)
    ∙ insert_tags-swap (tags_within 0 to ts) gone (tags_from to ts)
    ∙ ap (insert_tags gone) (parted to ts o)

-- tags before a part are none of it
pub within_behind : (from to : ℕ) (gone ts : List Tag) → All (λ t. t.offset < from) gone → tags_within from to (insert_tags gone ts) ≡ tags_within from to ts
within_behind from to [] ts low = refl
within_behind from to (t ∷ gone) ts low =
    let before = lt-leb from t.offset (All-head (λ u. u.offset < from) t gone low) in
    within_behind from to gone (insert_tag t ts) (All-tail (λ u. u.offset < from) t gone low)
    ∙ filter-insert_dropped (λ u. nat_le from u.offset && nat_lt u.offset to) t ts (rw before refl)

-- nor of those from a later item on
from_behind : (from : ℕ) (gone ts : List Tag) → All (λ t. t.offset < from) gone → tags_from from (insert_tags gone ts) ≡ tags_from from ts
from_behind from [] ts low = refl
from_behind from (t ∷ gone) ts low =
    from_behind from gone (insert_tag t ts) (All-tail (λ u. u.offset < from) t gone low)
    ∙ filter-insert_dropped (λ u. nat_le from u.offset) t ts (lt-leb from t.offset (All-head (λ u. u.offset < from) t gone low))

-- tags that all lie on an item or later are those from it on
from_all : (from : ℕ) (ts : List Tag) → LieFrom from ts → tags_from from ts ≡ ts
from_all from [] high = refl
from_all from (t ∷ ts) high =
    rw (le-leb from t.offset (All-head (λ u. from ≤ u.offset) t ts high)) (ap (λ us. t ∷ us) (from_all from ts (All-tail (λ u. from ≤ u.offset) t ts high)))

-- so what is kept are all tags from an item on, where the others are forgotten
pub kept_are_all : (from : ℕ) (pieces : List (TagList × ℕ)) (ts : List Tag) → AreRecentTags from pieces ts → tags_from from (insert_tags (forgotten_tags pieces) ts) ≡ ts
kept_are_all from pieces ts are = from_behind from (forgotten_tags pieces) ts are.before ∙ from_all from ts are.behind

-- the tags from an item on lie there
pub from_lies : (from : ℕ) (ts : List Tag) → LieFrom from (tags_from from ts)
from_lies from [] = All-nil (λ t. from ≤ t.offset)
from_lies from (t ∷ ts) =
    elim (cases_Bool (nat_le from t.offset)) [
      | inl high ↦ rw high (All-cons (λ u. from ≤ u.offset) t (tags_from from ts) (leb-true from t.offset high) (from_lies from ts))
      | inr low ↦ rw low (from_lies from ts)
    ]

-- and so do all tags behind one that does
pub all_lie : (from : ℕ) (t : Tag) (ts : List Tag) → IsOrdered (t ∷ ts) → from ≤ t.offset → LieFrom from (t ∷ ts)
all_lie from t ts o high =
    All-cons (λ u. from ≤ u.offset) t ts high
    (All-weaker (λ u. is_gt (tag_cmp t u) ≡ false) (λ u. from ≤ u.offset) (λ u after. let behind = offset_upto t u after in omega (arith, high, behind)) ts (later t ts o))

-- so they all do where the first does, as the code has them
pub all_from_first : (from : ℕ) (xs : List typed.Tag) → IsOrdered (map tag_of xs) → ((d : typed.Tag) → from ≤ (get_or xs 0 d).offset) → LieFrom from (map tag_of xs)
all_from_first from [] o first = All-nil (λ t. from ≤ t.offset)
all_from_first from (x ∷ xs) o first = all_lie from (tag_of x) (map tag_of xs) o (first x)

-- the tags before an item lie before it
pub within_before : (to : ℕ) (ts : List Tag) → All (λ t. t.offset < to) (tags_within 0 to ts)
within_before to [] = All-nil (λ t. t.offset < to)
within_before to (t ∷ ts) =
    elim (cases_Bool (nat_lt t.offset to)) [
      | inl low ↦ rw (le-leb 0 t.offset zero-le, low) (All-cons (λ u. u.offset < to) t (tags_within 0 to ts) (ltb-true t.offset to low) (within_before to ts))
      | inr low ↦ rw (le-leb 0 t.offset zero-le, low) (within_before to ts)
    ]

-- one more piece is forgotten
pub forgotten_push : (pieces : List (TagList × ℕ)) (ts : TagList) (to : ℕ) → forgotten_tags (pieces ++ (ts, to) ∷ []) ≡ forgotten_tags pieces ++ tags_within 0 to ts.tags
forgotten_push pieces ts to =
    flat_map-append (λ p. tags_within 0 p.1 p.0.tags) pieces ((ts, to) ∷ [])
    ∙ ap (λ us. forgotten_tags pieces ++ us) (append-nil (tags_within 0 to ts.tags))

-- what lies before an item lies before a later one
pub lie_still : (pieces : List (TagList × ℕ)) (from to : ℕ) → from ≤ to → LieBefore from pieces → LieBefore to pieces
lie_still pieces from to le low = All-weaker (λ t. t.offset < from) (λ t. t.offset < to) (λ t h. omega (arith, le, h)) (forgotten_tags pieces) low

-- and lies before the item up to which it is
pub lie_before : (pieces : List (TagList × ℕ)) (ts : TagList) (from to : ℕ) → from ≤ to → LieBefore from pieces → LieBefore to (pieces ++ (ts, to) ∷ [])
lie_before pieces ts from to le low =
    subst (All (λ t. t.offset < to)) (sym (forgotten_push pieces ts to))
    (All-append (λ t. t.offset < to) (forgotten_tags pieces) (tags_within 0 to ts.tags)
    (lie_still pieces from to le low)
    (within_before to ts.tags))

-- a piece of which nothing is forgotten
pub forgotten_none : (pieces : List (TagList × ℕ)) (ts : TagList) → forgotten_tags (pieces ++ (ts, 0) ∷ []) ≡ forgotten_tags pieces
forgotten_none pieces ts = forgotten_push pieces ts 0 ∙ ap (λ us. forgotten_tags pieces ++ us) (within-none 0 ts.tags) ∙ append-nil (forgotten_tags pieces)

inserted_sorted : (ts us : List Tag) → insert_tags ts (sorted_tags us) ≡ sorted_tags (ts ++ us)
inserted_sorted [] us = refl
inserted_sorted (t ∷ ts) us =
    inserted_sorted ts (t ∷ us)
    ∙ sorted-permutation (t ∷ (ts ++ us)) (ts ++ t ∷ us) (IsPermutation-sym (ts ++ t ∷ us) (t ∷ (ts ++ us)) (IsPermutation-middle ts t us))

sorted-ordered : (ts : List Tag) → IsOrdered ts → sorted_tags ts ≡ ts
sorted-ordered [] o = refl
sorted-ordered (t ∷ ts) o = ap (insert_tag t) (sorted-ordered ts (rest_ordered t ts o)) ∙ insert_front t ts (later t ts o)

-- they are then the list
pub insert_tags-empty : (ts : List Tag) → IsOrdered ts → insert_tags ts [] ≡ ts
insert_tags-empty ts o = inserted_sorted ts [] ∙ ap sorted_tags (append-nil ts) ∙ sorted-ordered ts o

-- no more tags are kept than there were
pub kept_no_more : (to : ℕ) (ts : List Tag) → length (tags_from to ts) ≤ length ts
kept_no_more to [] = zero-le
kept_no_more to (t ∷ ts) =
    let rest = kept_no_more to ts in
    elim (cases_Bool (nat_le to t.offset)) [
      | inl kept ↦ rw kept (omega (arith, rest))
      | inr gone ↦ rw gone (omega (arith, rest))
    ]
