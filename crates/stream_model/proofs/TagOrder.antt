-- The order of tags is total, and a list in order stays so with one more tag.
use Rattle.std.proofs.Common.{◌≡◌, suc, ◌<◌, ◌≤◌, ◌∙◌, ap, sym, refl, arith, Bool, true, false, List, [], ◌∷◌, slice_index_or, All, inl, inr}
use Rattle.std.proofs.lemmas.Bool.{both_ways, cases_lt, le-ltb, ne_eqb}
use Rattle.std.specs.declared.cmp.Ordering.{Ordering}
use Rattle.std.specs.declared.cmp.Ordering.TheVariants.{Less, Equal, Greater}
use Rattle.std.specs.Ordering.{is_lt, is_gt, ordering_reverse}
use Rattle.std.specs.Cmp.{IsTotalOrder, then_total, on_total, nat_cmp_total, int_cmp_total}
use Rattle.std.specs.Cmp.Lexicographic.{nat_list_cmp_total}
use Rattle.std.proofs.lemmas.List.Elements.{All-cons, All-nil, All-head, All-tail}
use Rattle.std.proofs.lemmas.List.Kept.{AllPairs-cons}
use Rattle.stream_model.specs.Tags.{Tag, IsOrdered, tag_cmp, insert_tag}

pub tag_total : IsTotalOrder tag_cmp
tag_total =
    then_total (on_total (λ t. t.offset) nat_cmp_total)
    (then_total (on_total (λ t. t.key) nat_list_cmp_total) (then_total (on_total (λ t. t.value) int_cmp_total) (on_total (λ t. t.source) nat_cmp_total)))

flipped : (s : Ordering) → is_lt (ordering_reverse s) ≡ is_gt s
flipped Less = refl
flipped Equal = refl
flipped Greater = refl

greater_is : (s : Ordering) → is_gt s ≡ true → s ≡ Greater
greater_is Less e = cc
greater_is Equal e = cc
greater_is Greater e = refl

settle : (t : Bool) → (t ≡ true → true ≡ false) → t ≡ false
settle false h = refl
settle true h = h refl

back : (a b : Tag) (s : Ordering) → tag_cmp a b ≡ s → tag_cmp b a ≡ ordering_reverse s
back a b s e = tag_total.antisymm b a ∙ ap ordering_reverse e

pub less_is_greater : (a b : Tag) → is_lt (tag_cmp a b) ≡ is_gt (tag_cmp b a)
less_is_greater a b = ap is_lt (tag_total.antisymm a b) ∙ flipped (tag_cmp b a)

upto : (a b c : Tag) (s : Ordering) → tag_cmp b c ≡ s → is_gt s ≡ false → tag_cmp a c ≡ Greater → tag_cmp a b ≡ Greater
upto a b c Less e n g = back b a Less (tag_total.trans b c a e (back a c Greater g))
upto a b c Equal e n g = back b a Less (tag_total.congr b c a e ∙ back a c Greater g)
upto a b c Greater e n g = cc

pub not_greater-trans : (a b c : Tag) → is_gt (tag_cmp a b) ≡ false → is_gt (tag_cmp b c) ≡ false → is_gt (tag_cmp a c) ≡ false
not_greater-trans a b c p q = settle (is_gt (tag_cmp a c)) (λ e. sym (ap is_gt (upto a b c (tag_cmp b c) refl q (greater_is (tag_cmp a c) e))) ∙ p)

pub first_after : (t u : Tag) (us : List Tag) → is_gt (tag_cmp t u) ≡ true → insert_tag t (u ∷ us) ≡ u ∷ insert_tag t us
first_after t u us e = rw e refl

pub first_here : (t u : Tag) (us : List Tag) → is_gt (tag_cmp t u) ≡ false → insert_tag t (u ∷ us) ≡ t ∷ u ∷ us
first_here t u us e = rw e refl

pub all_after : (t u : Tag) (us : List Tag) → is_gt (tag_cmp t u) ≡ false → All (λ v. is_gt (tag_cmp u v) ≡ false) us → All (λ v. is_gt (tag_cmp t v) ≡ false) us
all_after t u us e all = λ k d h. not_greater-trans t u (slice_index_or us k d) e (all k d h)

not_less : (s : Ordering) → is_gt s ≡ true → is_lt s ≡ false
not_less Less e = cc
not_less Equal e = refl
not_less Greater e = refl

not_before : (t u : Tag) → is_gt (tag_cmp t u) ≡ true → is_gt (tag_cmp u t) ≡ false
not_before t u e = sym (less_is_greater t u) ∙ not_less (tag_cmp t u) e

cases_bool : (t : Bool) (P : Type 0) → (t ≡ true → P) → (t ≡ false → P) → P
cases_bool true P p q = p refl
cases_bool false P p q = q refl

-- what holds of a tag and of all tags of a list holds of them together
pub All-insert_tag : (P : Tag → Type 0) (t : Tag) (us : List Tag) → P t → All P us → All P (insert_tag t us)
All-insert_tag P t [] one all = All-cons P t [] one all
All-insert_tag P t (u ∷ us) one all =
    cases_bool (is_gt (tag_cmp t u)) (All P (insert_tag t (u ∷ us)))
    (λ e. rw (first_after t u us e) (All-cons P u (insert_tag t us) (All-head P u us all) (All-insert_tag P t us one (All-tail P u us all))))
    (λ e. rw (first_here t u us e) (All-cons P t (u ∷ us) one all))

pub later : (u : Tag) (us : List Tag) → IsOrdered (u ∷ us) → All (λ v. is_gt (tag_cmp u v) ≡ false) us
later u us o = λ k d h. o 0 (suc k) d (omega arith) (omega (arith, h))

pub rest_ordered : (u : Tag) (us : List Tag) → IsOrdered (u ∷ us) → IsOrdered us
rest_ordered u us o = λ i j d lt h. o (suc i) (suc j) d (omega (arith, lt)) (omega (arith, h))

-- a list in order stays so with one more tag
pub ordered_insert : (t : Tag) (us : List Tag) → IsOrdered us → IsOrdered (insert_tag t us)
ordered_insert t [] o = AllPairs-cons (λ a b. is_gt (tag_cmp a b) ≡ false) t [] (All-nil _) o
ordered_insert t (u ∷ us) o =
    cases_bool (is_gt (tag_cmp t u)) (IsOrdered (insert_tag t (u ∷ us)))
    (λ e. rw (first_after t u us e) (AllPairs-cons (λ a b. is_gt (tag_cmp a b) ≡ false) u (insert_tag t us)
    (All-insert_tag (λ v. is_gt (tag_cmp u v) ≡ false) t us (not_before t u e) (later u us o)) (ordered_insert t us (rest_ordered u us o))))
    (λ e. rw (first_here t u us e) (AllPairs-cons (λ a b. is_gt (tag_cmp a b) ≡ false) t (u ∷ us)
    (All-cons (λ v. is_gt (tag_cmp t v) ≡ false) u us e (all_after t u us e (later u us o))) o))

offset_after : (a b : Tag) → b.offset < a.offset → is_gt (tag_cmp a b) ≡ true
offset_after a b lt =
    let less = le-ltb a.offset b.offset (omega (arith, lt)) in
    let equal = ne_eqb a.offset b.offset (λ e. omega (arith, lt, e)) in rw (less, equal) refl

pub offset_upto : (a b : Tag) → is_gt (tag_cmp a b) ≡ false → a.offset ≤ b.offset
offset_upto a b n = elim (cases_lt b.offset a.offset) [ inl lt ↦ absurd (both_ways (is_gt (tag_cmp a b)) n (offset_after a b lt)) | inr le ↦ le ]
