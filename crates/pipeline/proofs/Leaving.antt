-- What is left out of streams, and what is written of them.
use Rattle.std.proofs.Common.{◌≡◌, ℕ, ℤ, ◌+◌, ◌-◌, ◌<◌, ◌≤◌, min, max, List, [], ◌∷◌, ◌++◌, take, drop, length, map, filter, refl, ap, sym, ◌∙◌, arith, inl, inr, length-take, length-drop, nat_le, take_all}
use Rattle.std.specs.Prelude.{slice_range}
use Rattle.std.specs.List.{flat_map}
use Rattle.std.proofs.lemmas.Bool.{cases_lt, le-leb, lt-leb}
use Rattle.std.proofs.lemmas.List.{drop-take, drop-drop, drop_all, map-append}
use Rattle.std.proofs.lemmas.List.Elements.{filter-append}
use Rattle.std.proofs.lemmas.Grind.{flat_map-append}
use Rattle.stream_model.specs.Tags.{Mark, Tag, tags_within}
use Rattle.tags.specs.TagList.{tags_from}
use Rattle.script_text.specs.Replies.{tag_line}
use Rattle.pipeline.specs.declared.part.StreamPart.{StreamPart}
use Rattle.pipeline.specs.Parts.{ahead_by, items_of_part, lines_of_part, mark_behind, marks_behind}
use Rattle.pipeline.proofs.Parting.{part_past, part_same, parts_join, within_none}

-- of some items at least so many
drop-less : {A : Type 0} (k n : ℕ) (xs : List A) → drop k (take n xs) ≡ take (n - k) (drop k xs)
drop-less k n xs =
    elim (cases_lt n k) [
      | inl past ↦
          let none : n - k ≡ 0 = omega (arith, past) in
          drop_all k (take n xs) (let len = length-take n xs in omega (arith, len, past)) ∙ ap (λ i. take i (drop k xs)) (sym none)
      | inr le ↦
          let whole : k + (n - k) ≡ n = omega (arith, le) in
          ap (λ i. drop k (take i xs)) (sym whole) ∙ drop-take k (n - k) xs
    ]

-- the first items that are left out of all that there are
pub left_out : {A : Type 0} (xs : List A) (left k : ℕ) → k ≡ min left (length xs) → slice_range xs k (length xs) ≡ drop left xs
left_out xs left k is =
    elim (cases_lt (length xs) left) [
      | inl past ↦
          let all : k ≡ length xs = omega (arith, is, past) in
          part_past xs k (length xs) (omega (arith, all)) ∙ sym (drop_all left xs (omega (arith, past)))
      | inr le ↦
          let some : k ≡ left = omega (arith, is, le) in
          ap (λ i. slice_range xs i (length xs)) some ∙ take_all (length xs - left) (drop left xs) (let len = length-drop left xs in omega (arith, len))
    ]

module _ (part : StreamPart) where
  pub items_none : (xs : List ℤ) (n : ℕ) → items_of_part part xs n n ≡ []
  items_none xs n = part_past xs (max n part.drop) n (omega arith)

  -- of streams that agree up to the last of them
  pub items_same : (xs ys : List ℤ) (from to : ℕ) → from ≤ to → take to ys ≡ take to xs → items_of_part part ys from to ≡ items_of_part part xs from to
  items_same xs ys from to le same =
      elim (cases_lt to part.drop) [
        | inl past ↦ part_past ys (max from part.drop) to (omega (arith, past)) ∙ sym (part_past xs (max from part.drop) to (omega (arith, past)))
        | inr up ↦ part_same xs ys (max from part.drop) to (omega (arith, le, up)) same
      ]

  pub items_join : (xs : List ℤ) (from mid to : ℕ) → from ≤ mid → mid ≤ to → items_of_part part xs from to ≡ items_of_part part xs from mid ++ items_of_part part xs mid to
  items_join xs from mid to le le2 =
      elim (cases_lt mid part.drop) [
        | inl past ↦
            let at : max mid part.drop ≡ max from part.drop = omega (arith, past, le) in
            ap (λ i. slice_range xs i to) (sym at) ∙ ap (λ ys. ys ++ items_of_part part xs mid to) (sym (part_past xs (max from part.drop) mid (omega (arith, past))))
        | inr up ↦
            let at : max mid part.drop ≡ mid = omega (arith, up) in
            parts_join xs (max from part.drop) mid to (omega (arith, le, up)) le2 ∙ ap (λ i. slice_range xs (max from part.drop) mid ++ slice_range xs i to) (sym at)
      ]

  -- what is left of items that were taken from a stream
  pub items_left : (xs : List ℤ) (from to : ℕ) → drop (part.drop - from) (slice_range xs from to) ≡ items_of_part part xs from to
  items_left xs from to =
      let k : ℕ = part.drop - from in
      let at : from + k ≡ max from part.drop = omega arith in
      let few : (to - from) - k ≡ to - max from part.drop = omega arith in
      drop-less k (to - from) (drop from xs) ∙ ap (λ i. take i (drop k (drop from xs))) few ∙ ap (take (to - max from part.drop)) (drop-drop k from xs ∙ ap (λ i. drop i xs) at)

  pub lines_none : (n : ℕ) (ts : List Tag) → lines_of_part part (tags_within n n ts) ≡ []
  lines_none n ts = ap (lines_of_part part) (within_none n ts)

  pub lines_join : (ts us : List Tag) → lines_of_part part (ts ++ us) ≡ lines_of_part part ts ++ lines_of_part part us
  lines_join ts us =
      ap (λ vs. flat_map tag_line (map (ahead_by part.origin) vs)) (filter-append (λ t. nat_le part.drop t.offset) ts us)
      ∙ ap (flat_map tag_line) (map-append (ahead_by part.origin) (tags_from part.drop ts) (tags_from part.drop us))
      ∙ flat_map-append tag_line (map (ahead_by part.origin) (tags_from part.drop ts)) (map (ahead_by part.origin) (tags_from part.drop us))

pub marks_join : (n : ℕ) (marks more : List Mark) → marks_behind n (marks ++ more) ≡ marks_behind n marks ++ marks_behind n more
marks_join n marks more = ap (map (mark_behind n)) (filter-append (λ mark. nat_le n mark.offset) marks more) ∙ map-append (mark_behind n) (filter (λ mark. nat_le n mark.offset) marks) (filter (λ mark. nat_le n mark.offset) more)

-- one mark, which is before the part that is read, or is not
pub mark_before : (n : ℕ) (mark : Mark) → mark.offset < n → marks_behind n (mark ∷ []) ≡ []
mark_before n mark lt = rw (lt-leb n mark.offset lt) refl

pub mark_own : (n : ℕ) (mark : Mark) → n ≤ mark.offset → marks_behind n (mark ∷ []) ≡ mark_behind n mark ∷ []
mark_own n mark le = rw (le-leb n mark.offset le) refl
