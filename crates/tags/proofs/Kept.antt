-- Parts of a list of tags, after one more tag and after other parts.
use Rattle.std.proofs.Common.{◌≡◌, ℕ, suc, ◌≤◌, ◌<◌, ◌∙◌, ap, sym, refl, arith, true, false, List, [], ◌∷◌, length, nat_le, nat_lt, inl, inr}
use Rattle.std.specs.Ordering.{is_gt}
use Rattle.std.proofs.lemmas.Bool.{cases_Bool, leb-true, leb-false, le-leb, lt-leb}
use Rattle.stream_model.specs.Tags.{Tag, tag_cmp, insert_tag, tags_within}
use Rattle.tags.specs.TagList.{tags_from}
use Rattle.stream_model.proofs.TagOrder.{first_after, first_here, offset_upto}

pub kept : (p : ℕ) (t : Tag) (ts : List Tag) → p ≤ t.offset → tags_from p (t ∷ ts) ≡ t ∷ tags_from p ts
kept p t ts le = let e = le-leb p t.offset le in rw e refl

pub dropped : (p : ℕ) (t : Tag) (ts : List Tag) → t.offset < p → tags_from p (t ∷ ts) ≡ tags_from p ts
dropped p t ts lt = let e = lt-leb p t.offset lt in rw e refl

insert_after : (p : ℕ) (t u : Tag) (us : List Tag) → is_gt (tag_cmp t u) ≡ true → tags_from p (insert_tag t us) ≡ insert_tag t (tags_from p us)
    → tags_from p (u ∷ insert_tag t us) ≡ insert_tag t (tags_from p (u ∷ us))
insert_after p t u us e rest =
    elim (cases_Bool (nat_le p u.offset)) [
      | inl in' ↦ let le = leb-true p u.offset in' in
          kept p u (insert_tag t us) le ∙ (ap (λ ts. u ∷ ts) rest ∙ (sym (first_after t u (tags_from p us) e) ∙ ap (insert_tag t) (sym (kept p u us le))))
      | inr out ↦ let lt = leb-false p u.offset out in
          dropped p u (insert_tag t us) lt ∙ (rest ∙ ap (insert_tag t) (sym (dropped p u us lt)))
    ]

insert_before : (p : ℕ) (t u : Tag) (us : List Tag) → p ≤ t.offset → is_gt (tag_cmp t u) ≡ false → tags_from p (t ∷ u ∷ us) ≡ insert_tag t (tags_from p (u ∷ us))
insert_before p t u us le e =
    let up = offset_upto t u e in
    let in' : p ≤ u.offset = omega (arith, le, up) in
    kept p t (u ∷ us) le ∙ (ap (λ ts. t ∷ ts) (kept p u us in') ∙ (sym (first_here t u (tags_from p us) e) ∙ ap (insert_tag t) (sym (kept p u us in'))))

-- a tag on item p or a later one is one more among those
pub tags_from-insert : (p : ℕ) (t : Tag) (us : List Tag) → p ≤ t.offset → tags_from p (insert_tag t us) ≡ insert_tag t (tags_from p us)
tags_from-insert p t [] le = kept p t [] le
tags_from-insert p t (u ∷ us) le =
    elim (cases_Bool (is_gt (tag_cmp t u))) [
      | inl e ↦ ap (tags_from p) (first_after t u us e) ∙ insert_after p t u us e (tags_from-insert p t us le)
      | inr e ↦ ap (tags_from p) (first_here t u us e) ∙ insert_before p t u us le e
    ]

-- the later of two beginnings decides
pub tags_from-twice : (p q : ℕ) (ts : List Tag) → p ≤ q → tags_from q (tags_from p ts) ≡ tags_from q ts
tags_from-twice p q [] le = refl
tags_from-twice p q (t ∷ ts) le =
    elim (cases_Bool (nat_le p t.offset)) [
      | inl in' ↦ ap (tags_from q) (kept p t ts (leb-true p t.offset in')) ∙ cons_from q t (tags_from p ts) ts (tags_from-twice p q ts le)
      | inr out ↦ let lt = leb-false p t.offset out in
          ap (tags_from q) (dropped p t ts lt) ∙ (tags_from-twice p q ts le ∙ sym (dropped q t ts (omega (arith, lt, le))))
    ]
  where
    cons_from : (q : ℕ) (t : Tag) (us vs : List Tag) → tags_from q us ≡ tags_from q vs → tags_from q (t ∷ us) ≡ tags_from q (t ∷ vs)
    cons_from q t us vs e = elim (cases_Bool (nat_le q t.offset)) [
      | inl in' ↦ let le = leb-true q t.offset in' in kept q t us le ∙ (ap (λ ts. t ∷ ts) e ∙ sym (kept q t vs le))
      | inr out ↦ let lt = leb-false q t.offset out in dropped q t us lt ∙ (e ∙ sym (dropped q t vs lt))
    ]

-- a part that begins no earlier is the same of what is kept
pub tags_within-from : (p from to : ℕ) (ts : List Tag) → p ≤ from → tags_within from to (tags_from p ts) ≡ tags_within from to ts
tags_within-from p from to [] le = refl
tags_within-from p from to (t ∷ ts) le =
    elim (cases_Bool (nat_le p t.offset)) [
      | inl in' ↦ ap (tags_within from to) (kept p t ts (leb-true p t.offset in')) ∙ cons_within from to t (tags_from p ts) ts (tags_within-from p from to ts le)
      | inr out ↦ let lt = leb-false p t.offset out in
          ap (tags_within from to) (dropped p t ts lt) ∙ (tags_within-from p from to ts le ∙ sym (before_all from to t ts (omega (arith, lt, le))))
    ]
  where
    before_all : (from to : ℕ) (t : Tag) (ts : List Tag) → t.offset < from → tags_within from to (t ∷ ts) ≡ tags_within from to ts
    before_all from to t ts lt = let e = lt-leb from t.offset lt in rw e refl

    cons_within : (from to : ℕ) (t : Tag) (us vs : List Tag) → tags_within from to us ≡ tags_within from to vs → tags_within from to (t ∷ us) ≡ tags_within from to (t ∷ vs)
    cons_within from to t us vs e = elim (cases_Bool (nat_le from t.offset)) [
      | inl in' ↦ elim (cases_Bool (nat_lt t.offset to)) [ inl on ↦ rw (in', on) (ap (λ ts. t ∷ ts) e) | inr off ↦ rw (in', off) e ]
      | inr out ↦ rw out e
    ]

pub length-insert_tag : (t : Tag) (us : List Tag) → length (insert_tag t us) ≡ suc (length us)
length-insert_tag t [] = refl
length-insert_tag t (u ∷ us) =
    elim (cases_Bool (is_gt (tag_cmp t u))) [
      | inl e ↦ ap length (first_after t u us e) ∙ ap suc (length-insert_tag t us)
      | inr e ↦ ap length (first_here t u us e)
    ]
