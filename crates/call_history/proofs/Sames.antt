-- Lists of marks that are found equal one by one.
use Rattle.std.proofs.Common.{◌≡◌, Bool, List, ap}
use Rattle.std.specs.Prelude.{◌==◌, ◌&&◌, bytes_eq, IsTrue}
use Rattle.std.specs.Ordering.{int_eq}
use Rattle.std.specs.Bool.{Decides}
use Rattle.std.specs.Cmp.Lexicographic.{pointwise, bytes_decides}
use Rattle.std.proofs.lemmas.Bool.Decides.{Decides-eqb, Decides-int_eq, Decides-and, Decides-like}
use Rattle.std.proofs.lemmas.Slice.Eq.{slice_eq-Decides}
use Rattle.items.specs.declared.marks.Mark.{Mark}

abbrev mark_eq : Mark → Mark → Bool
mark_eq a b = a.offset == b.offset && (bytes_eq a.key b.key && int_eq a.value b.value)

one_mark : (a b : Mark) → Decides (mark_eq a b) (a ≡ b)
one_mark a b =
    Decides-like _ (λ same i. record { offset = same.0 i; key = same.1.0 i; value = same.1.1 i })
    (λ same. (ap (λ (m : Mark). m.offset) same, (ap (λ (m : Mark). m.key) same, ap (λ (m : Mark). m.value) same)))
    (Decides-and _ _ (Decides-eqb a.offset b.offset) (Decides-and _ _ (bytes_decides a.key b.key) (Decides-int_eq a.value b.value)))

pub same_marks : (xs ys : List Mark) (r : Bool) → r ≡ pointwise mark_eq xs ys → IsTrue r → xs ≡ ys
same_marks xs ys r test = (slice_eq-Decides one_mark xs ys r test).0
