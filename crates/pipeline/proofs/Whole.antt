-- Of a whole stream each of these says what there is.
use Rattle.std.proofs.Common.{◌≡◌, ℕ, ℤ, ◌+◌, ◌-◌, max, List, [], ◌∷◌, map, refl, ap, ◌∙◌, arith, zero-le}
use Rattle.std.specs.Prelude.{slice_range}
use Rattle.std.specs.List.{flat_map}
use Rattle.std.proofs.lemmas.Bool.{le-leb}
use Rattle.stream_model.specs.Tags.{Mark, Tag}
use Rattle.tags.specs.TagList.{tags_from}
use Rattle.script_text.specs.Replies.{tag_line}
use Rattle.pipeline.specs.Parts.{ahead_by, items_of_part, lines_of_part, marks_behind, whole_stream}

pub whole_items : (xs : List ℤ) (from to : ℕ) → items_of_part whole_stream xs from to ≡ slice_range xs from to
whole_items xs from to = let same : max from 0 ≡ from = omega arith in ap (λ i. slice_range xs i to) same

pub whole_marks : (marks : List Mark) → marks_behind 0 marks ≡ marks
whole_marks [] = refl
whole_marks (m ∷ marks) =
    let same : m.offset - 0 ≡ m.offset = omega arith in
    rw (le-leb 0 m.offset zero-le) (ap (λ (n : ℕ). (record m { offset = n }) ∷ marks_behind 0 marks) same ∙ ap (λ ms. m ∷ ms) (whole_marks marks))

whole_tags : (ts : List Tag) → map (ahead_by 0) (tags_from 0 ts) ≡ ts
whole_tags [] = refl
whole_tags (t ∷ ts) =
    let same : 0 + t.offset ≡ t.offset = omega arith in
    rw (le-leb 0 t.offset zero-le) (ap (λ (n : ℕ). (record t { offset = n }) ∷ map (ahead_by 0) (tags_from 0 ts)) same ∙ ap (λ us. t ∷ us) (whole_tags ts))

pub whole_lines : (ts : List Tag) → lines_of_part whole_stream ts ≡ flat_map tag_line ts
whole_lines ts = ap (flat_map tag_line) (whole_tags ts)
