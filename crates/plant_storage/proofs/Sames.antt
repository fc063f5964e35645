-- Lists of tags that are found equal one by one.
use Rattle.std.proofs.Common.{◌≡◌, Bool, List, map, refl, ap}
use Rattle.std.specs.Bool.{Decides}
use Rattle.std.specs.Cmp.Lexicographic.{pointwise, bytes_decides}
use Rattle.std.proofs.lemmas.Bool.Decides.{Decides-eqb, Decides-int_eq, Decides-and, Decides-like}
use Rattle.stream_model.specs.Tags as model
use Rattle.items.specs.declared.marks.Tag.{Tag}
use Rattle.items.specs.Tags.{tag_of, tag_eq}
use Rattle.plant_storage.proofs.Views.{same_views}

-- equal tags are one
one_tag : (a b : Tag) → Decides (tag_eq a b) (a ≡ b)
one_tag a b =
    Decides-like _ (λ same i. record { offset = same.0 i; key = same.1.0 i; value = same.1.1.0 i; source = same.1.1.1 i })
    (λ same. (ap (λ (t : Tag). t.offset) same, (ap (λ (t : Tag). t.key) same, (ap (λ (t : Tag). t.value) same, ap (λ (t : Tag). t.source) same))))
    (Decides-and _ _ (Decides-eqb a.offset b.offset) (Decides-and _ _ (bytes_decides a.key b.key) (Decides-and _ _ (Decides-int_eq a.value b.value) (Decides-eqb a.source b.source))))

-- a tag of the model as the code has it
abbrev stored : model.Tag → Tag
stored t = record { offset = t.offset; key = t.key; value = t.value; source = t.source }

pub same_tags : (xs ys : List Tag) (r : Bool) → r ≡ pointwise tag_eq xs ys → Decides r (map tag_of xs ≡ map tag_of ys)
same_tags = same_views tag_of stored (λ _. refl) one_tag
