-- Lists of tags from an item on, and of tags further on.
use Rattle.std.proofs.Common.{◌≡◌, ℕ, ◌+◌, ◌-◌, ◌<◌, ◌≤◌, List, [], ◌∷◌, cond, refl, arith, ap, ap₂, sym, ◌∙◌, inl, inr}
use Rattle.std.specs.Prelude.{nat_le}
use Rattle.std.specs.Ordering.{is_gt, nat_cmp}
use Rattle.std.proofs.lemmas.Bool.{cases_Bool, cases_lt, le-leb, lt-leb}
use Rattle.stream_model.specs.Tags.{Tag, tag_cmp, insert_tag, sorted_tags, tags_within}
use Rattle.stream_model.specs.Network.{Node, moved_tag, moved}
use Rattle.stream_model.proofs.TagOrder.{first_after, first_here}
use Rattle.stream_laws.proofs.Sorting.{filter-sorted}
use Rattle.stream_laws.proofs.InTime.{within-on, within-behind}
use Rattle.slice_laws.specs.Tags.{tags_from_item, on_by, ahead_by}

-- a tag at or behind an item is kept, another is not
pub from-on : (x : ℕ) (t : Tag) (ts : List Tag) → x ≤ t.offset → tags_from_item x (t ∷ ts) ≡ t ∷ tags_from_item x ts
from-on x t ts h = let l = le-leb x t.offset h in rw l refl

pub from-before : (x : ℕ) (t : Tag) (ts : List Tag) → t.offset < x → tags_from_item x (t ∷ ts) ≡ tags_from_item x ts
from-before x t ts h = let l = lt-leb x t.offset h in rw l refl

-- tags further on are in the same order
cmp-on : (c a b : ℕ) → nat_cmp (c + a) (c + b) ≡ nat_cmp a b
cmp-on c a b = grind arith

insert-ahead : (c : ℕ) (t : Tag) (us : List Tag) → insert_tag (on_by c t) (ahead_by c us) ≡ ahead_by c (insert_tag t us)
insert-ahead c t [] = refl
insert-ahead c t (u ∷ us) =
    let same : tag_cmp (on_by c t) (on_by c u) ≡ tag_cmp t u = rw (cmp-on c t.offset u.offset) refl in
    elim (cases_Bool (is_gt (tag_cmp t u))) [
      | inl after ↦ first_after (on_by c t) (on_by c u) (ahead_by c us) (ap is_gt same ∙ after) ∙ ap (λ ts. on_by c u ∷ ts) (insert-ahead c t us) ∙ ap (ahead_by c) (sym (first_after t u us after))
      | inr here ↦ first_here (on_by c t) (on_by c u) (ahead_by c us) (ap is_gt same ∙ here) ∙ ap (ahead_by c) (sym (first_here t u us here))
    ]

pub sorted-ahead : (c : ℕ) (ts : List Tag) → sorted_tags (ahead_by c ts) ≡ ahead_by c (sorted_tags ts)
sorted-ahead c [] = refl
sorted-ahead c (t ∷ ts) = ap (insert_tag (on_by c t)) (sorted-ahead c ts) ∙ insert-ahead c t (sorted_tags ts)

pub from-ahead : (c x : ℕ) (ts : List Tag) → tags_from_item (c + x) (ahead_by c ts) ≡ ahead_by c (tags_from_item x ts)
from-ahead c x [] = refl
from-ahead c x (t ∷ ts) =
    elim (cases_lt t.offset x) [
      | inl lt ↦ (let lt' : c + t.offset < c + x = omega arith in
          from-before (c + x) (on_by c t) (ahead_by c ts) lt' ∙ from-ahead c x ts ∙ ap (ahead_by c) (sym (from-before x t ts lt)))
      | inr le ↦ (let le' : c + x ≤ c + t.offset = omega arith in
          from-on (c + x) (on_by c t) (ahead_by c ts) le' ∙ ap (λ us. on_by c t ∷ us) (from-ahead c x ts) ∙ ap (ahead_by c) (sym (from-on x t ts le)))
    ]

-- from a later item on
pub from-later : (x y : ℕ) (ts : List Tag) → x ≤ y → tags_from_item y (tags_from_item x ts) ≡ tags_from_item y ts
from-later x y [] h = refl
from-later x y (t ∷ ts) h =
    elim (cases_lt t.offset y) [
      | inl lt ↦ (elim (cases_lt t.offset x) [
        | inl before ↦ ap (tags_from_item y) (from-before x t ts before) ∙ from-later x y ts h ∙ sym (from-before y t ts lt)
        | inr on ↦ ap (tags_from_item y) (from-on x t ts on) ∙ from-before y t (tags_from_item x ts) lt ∙ from-later x y ts h ∙ sym (from-before y t ts lt)
      ])
      | inr le ↦ (let on : x ≤ t.offset = omega arith in
          ap (tags_from_item y) (from-on x t ts on) ∙ from-on y t (tags_from_item x ts) le ∙ ap (λ us. t ∷ us) (from-later x y ts h) ∙ sym (from-on y t ts le))
    ]

-- what agrees from an item on agrees from a later one on
pub agree-later : (c x y : ℕ) (ts us : List Tag) → x ≤ y → tags_from_item (c + x) ts ≡ ahead_by c (tags_from_item x us) → tags_from_item (c + y) ts ≡ ahead_by c (tags_from_item y us)
agree-later c x y ts us h same =
    let h' : c + x ≤ c + y = omega arith in
    sym (from-later (c + x) (c + y) ts h')
    ∙ ap (tags_from_item (c + y)) same
    ∙ from-ahead c y (tags_from_item x us)
    ∙ ap (ahead_by c) (from-later x y us h)

module _ (n : Node) (q r x : ℕ) where
  -- what lies before item r is moved to before item x
  pub moved-late : (ts : List Tag) → ((s : ℕ) → s < r → n.meaning.place q s < x) → tags_from_item x (moved n q (tags_from_item r ts)) ≡ tags_from_item x (moved n q ts)
  moved-late [] early = refl
  moved-late (t ∷ ts) early =
      elim (cases_lt t.offset r) [
        | inl lt ↦ ap (λ us. tags_from_item x (moved n q us)) (from-before r t ts lt) ∙ moved-late ts early ∙ sym (from-before x (moved_tag n q t) (moved n q ts) (early t.offset lt))
        | inr le ↦ ap (λ us. tags_from_item x (moved n q us)) (from-on r t ts le) ∙ ap (λ us. cond (nat_le x (n.meaning.place q t.offset)) (moved_tag n q t ∷ us) us) (moved-late ts early)
      ]

  -- and the others alike, c items apart and d
  pub moved-ahead : (c d : ℕ) (ts : List Tag) → ((s : ℕ) → r ≤ s → n.meaning.place q (c + s) ≡ d + n.meaning.place q s) →
      moved n q (ahead_by c (tags_from_item r ts)) ≡ ahead_by d (moved n q (tags_from_item r ts))
  moved-ahead c d [] moves = refl
  moved-ahead c d (t ∷ ts) moves =
      elim (cases_lt t.offset r) [
        | inl lt ↦ ap (λ us. moved n q (ahead_by c us)) (from-before r t ts lt) ∙ moved-ahead c d ts moves ∙ ap (λ us. ahead_by d (moved n q us)) (sym (from-before r t ts lt))
        | inr le ↦ ap (λ us. moved n q (ahead_by c us)) (from-on r t ts le)
            ∙ (let e = moves t.offset le in ap₂ (λ (o : ℕ) (us : List Tag). record t { offset = o } ∷ us) e (moved-ahead c d ts moves))
            ∙ ap (λ us. ahead_by d (moved n q us)) (sym (from-on r t ts le))
      ]

-- the end of a stream, where the lengths differ by what is left out
pub within-ahead : (c x long short : ℕ) (ts : List Tag) → long - (c + x) ≡ short - x → tags_within 0 long (ahead_by c (tags_from_item x ts)) ≡ ahead_by c (tags_within 0 short (tags_from_item x ts))
within-ahead c x long short [] lengths = refl
within-ahead c x long short (t ∷ ts) lengths =
    elim (cases_lt t.offset x) [
      | inl lt ↦ ap (λ us. tags_within 0 long (ahead_by c us)) (from-before x t ts lt) ∙ within-ahead c x long short ts lengths ∙ ap (λ us. ahead_by c (tags_within 0 short us)) (sym (from-before x t ts lt))
      | inr le ↦ ap (λ us. tags_within 0 long (ahead_by c us)) (from-on x t ts le) ∙ on (within-ahead c x long short ts lengths) le ∙ ap (λ us. ahead_by c (tags_within 0 short us)) (sym (from-on x t ts le))
    ]
  where
    on : tags_within 0 long (ahead_by c (tags_from_item x ts)) ≡ ahead_by c (tags_within 0 short (tags_from_item x ts)) → x ≤ t.offset → tags_within 0 long (on_by c t ∷ ahead_by c (tags_from_item x ts)) ≡ ahead_by c (tags_within 0 short (t ∷ tags_from_item x ts))
    on more le =
        elim (cases_lt t.offset short) [
          | inl in' ↦ (let in'' : c + t.offset < long = omega arith in
              within-on 0 long (on_by c t) (ahead_by c (tags_from_item x ts)) (omega arith) in'' ∙ ap (λ us. on_by c t ∷ us) (more) ∙ ap (ahead_by c) (sym (within-on 0 short t (tags_from_item x ts) (omega arith) in')))
          | inr out ↦ (let out' : long ≤ c + t.offset = omega arith in
              within-behind 0 long (on_by c t) (ahead_by c (tags_from_item x ts)) out' ∙ more ∙ ap (ahead_by c) (sym (within-behind 0 short t (tags_from_item x ts) out)))
        ]

-- one part of another part
pub from-within : (x to : ℕ) (ts : List Tag) → tags_from_item x (tags_within 0 to ts) ≡ tags_within 0 to (tags_from_item x ts)
from-within x to [] = refl
from-within x to (t ∷ ts) =
    elim (cases_lt t.offset to) [
      | inl in' ↦ ap (tags_from_item x) (within-on 0 to t ts (omega arith) in') ∙ (elim (cases_lt t.offset x) [
        | inl lt ↦ from-before x t (tags_within 0 to ts) lt ∙ from-within x to ts ∙ ap (tags_within 0 to) (sym (from-before x t ts lt))
        | inr le ↦ from-on x t (tags_within 0 to ts) le ∙ ap (λ us. t ∷ us) (from-within x to ts) ∙ sym (within-on 0 to t (tags_from_item x ts) (omega arith) in') ∙ ap (tags_within 0 to) (sym (from-on x t ts le))
      ])
      | inr out ↦ ap (tags_from_item x) (within-behind 0 to t ts out) ∙ from-within x to ts ∙ (elim (cases_lt t.offset x) [
        | inl lt ↦ ap (tags_within 0 to) (sym (from-before x t ts lt))
        | inr le ↦ sym (within-behind 0 to t (tags_from_item x ts) out) ∙ ap (tags_within 0 to) (sym (from-on x t ts le))
      ])
    ]

pub from-all : (ts : List Tag) → tags_from_item 0 ts ≡ ts
from-all [] = refl
from-all (t ∷ ts) = from-on 0 t ts (omega arith) ∙ ap (λ us. t ∷ us) (from-all ts)

-- lists that agree from an item on agree there too where both are cut, and lengths differ by what is left out
pub cut-ahead : (c x long short : ℕ) (ts us vs ws : List Tag) → ts ≡ tags_within 0 long vs → us ≡ tags_within 0 short ws → long - (c + x) ≡ short - x →
    tags_from_item (c + x) vs ≡ ahead_by c (tags_from_item x ws) → tags_from_item (c + x) ts ≡ ahead_by c (tags_from_item x us)
cut-ahead c x long short ts us vs ws is is' lengths same =
    ap (tags_from_item (c + x)) is
    ∙ from-within (c + x) long vs
    ∙ ap (tags_within 0 long) same
    ∙ within-ahead c x long short ws lengths
    ∙ ap (ahead_by c) (sym (from-within x short ws) ∙ ap (tags_from_item x) (sym is'))

-- the same of sorted lists
pub sorted-agree : (c x : ℕ) (vs ws : List Tag) → tags_from_item (c + x) vs ≡ ahead_by c (tags_from_item x ws) → tags_from_item (c + x) (sorted_tags vs) ≡ ahead_by c (tags_from_item x (sorted_tags ws))
sorted-agree c x vs ws same =
    filter-sorted (λ t. nat_le (c + x) t.offset) vs ∙ ap sorted_tags same ∙ sorted-ahead c (tags_from_item x ws) ∙ ap (ahead_by c) (sym (filter-sorted (λ t. nat_le x t.offset) ws))
