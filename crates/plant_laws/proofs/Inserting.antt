-- Tags put into a list in order.
use Rattle.std.proofs.Common.{◌≡◌, ℕ, ◌<◌, ◌≤◌, cond, List, [], ◌∷◌, ◌++◌, refl, arith, ap, sym, ◌∙◌, inl, inr}
use Rattle.std.specs.Prelude.{◌&&◌, nat_le, nat_lt}
use Rattle.std.proofs.lemmas.Bool.{cases_lt}
use Rattle.std.proofs.lemmas.List.Sorted.{IsPermutation-sym, IsPermutation-middle, IsPermutation-append_comm}
use Rattle.stream_model.specs.Tags.{Tag, sorted_tags, tags_within}
use Rattle.stream_laws.specs.Tags as laws
use Rattle.stream_laws.proofs.InTime.{within-on, within-before, within-behind, insert_tags-sorted}
use Rattle.stream_laws.proofs.Sorting.{sorted-permutation}
use Rattle.tags.specs.TagList.{insert_tags}

-- tags inserted into sorted ones are sorted with them
pub inserted_sorted : (ts us : List Tag) → insert_tags ts (sorted_tags us) ≡ sorted_tags (ts ++ us)
inserted_sorted [] us = refl
inserted_sorted (t ∷ ts) us =
    inserted_sorted ts (t ∷ us)
    ∙ sorted-permutation (t ∷ (ts ++ us)) (ts ++ t ∷ us) (IsPermutation-sym (ts ++ t ∷ us) (t ∷ (ts ++ us)) (IsPermutation-middle ts t us))

-- whichever way they are inserted
pub inserted_alike : (ts us : List Tag) → insert_tags ts (sorted_tags us) ≡ laws.insert_tags ts (sorted_tags us)
inserted_alike ts us = inserted_sorted ts us ∙ sym (insert_tags-sorted ts us)

pub inserted_behind : (us ts : List Tag) → insert_tags ts (sorted_tags us) ≡ sorted_tags (us ++ ts)
inserted_behind us ts = inserted_sorted ts us ∙ sorted-permutation (us ++ ts) (ts ++ us) (IsPermutation-append_comm us ts)

-- a part of a part
pub within-part : (low high from to : ℕ) (ts : List Tag) → low ≤ from → to ≤ high → tags_within from to (tags_within low high ts) ≡ tags_within from to ts
within-part low high from to [] l h = refl
within-part low high from to (t ∷ ts) l h =
    let rest = within-part low high from to ts l h in
    elim (cases_lt t.offset low) [
      | inl before ↦ (let early : t.offset < from = omega arith in ap (tags_within from to) (within-before low high t ts before) ∙ rest ∙ sym (within-before from to t ts early))
      | inr after ↦ elim (cases_lt t.offset high) [
        | inl on ↦ ap (tags_within from to) (within-on low high t ts after on) ∙ ap (λ us. cond (nat_le from t.offset && nat_lt t.offset to) (t ∷ us) us) rest
        | inr behind ↦ (let late : to ≤ t.offset = omega arith in ap (tags_within from to) (within-behind low high t ts behind) ∙ rest ∙ sym (within-behind from to t ts late))
      ]
    ]
