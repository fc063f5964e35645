-- What a test of equality says of slices of numbers.
use Rattle.std.proofs.Common.{◌≡◌, ℕ, ℤ, Bool, true, false, ◌&&◌, ◌↔◌, ◌∙◌, ap, sym, refl, List, [], ◌∷◌, map, IsTrue, nat_eq, pos, unsigned_abs, eq-eqb}
use Rattle.std.specs.Ordering.{int_eq}
use Rattle.std.proofs.lemmas.Bool.Decides.{Decides-eqb}
use Rattle.std.proofs.lemmas.List.{map-id}
use Rattle.std.specs.Cmp.{signed_Decides}
use Rattle.std.specs.Cmp.Lexicographic.{pointwise}
use Rattle.std.specs.Cmp.Rules.{signed_items}

same_from_both : (p q : Bool) → (p ≡ true → q ≡ true) → (q ≡ true → p ≡ true) → p ≡ q
same_from_both true true f g = refl
same_from_both true false f g = sym (f refl)
same_from_both false true f g = g refl
same_from_both false false f g = refl

byte_eq_number : (x y : ℕ) → nat_eq x y ≡ int_eq (pos x) (pos y)
byte_eq_number x y =
    same_from_both _ _
    (λ e. (signed_Decides (pos x) (pos y)).1 (ap pos ((Decides-eqb x y).0 e)))
    (λ e. eq-eqb x y (ap unsigned_abs ((signed_Decides (pos x) (pos y)).0 e)))

-- bytes are equal where the numbers that they stand for are
pub bytes_eq_numbers : (xs ys : List ℕ) → pointwise nat_eq xs ys ≡ pointwise int_eq (map pos xs) (map pos ys)
bytes_eq_numbers [] [] = refl
bytes_eq_numbers [] (y ∷ ys) = refl
bytes_eq_numbers (x ∷ xs) [] = refl
bytes_eq_numbers (x ∷ xs) (y ∷ ys) = λ i. byte_eq_number x y i && bytes_eq_numbers xs ys i

pub same_bytes : (xs ys : List ℕ) (r : Bool) → r ≡ pointwise nat_eq xs ys → IsTrue r ↔ (map pos xs ≡ map pos ys)
same_bytes xs ys r test =
    let tested = test ∙ bytes_eq_numbers xs ys in
    let decides = signed_items (map pos xs) (map pos ys) in
    (λ t. decides.0 (sym tested ∙ t), λ e. tested ∙ decides.1 e)

pub same_numbers : (xs ys : List ℤ) (r : Bool) → r ≡ pointwise int_eq xs ys → IsTrue r ↔ (map (λ n. n) xs ≡ map (λ n. n) ys)
same_numbers xs ys r test =
    let decides = signed_items xs ys in
    (λ t. map-id xs ∙ decides.0 (sym test ∙ t) ∙ sym (map-id ys), λ e. test ∙ decides.1 (sym (map-id xs) ∙ e ∙ map-id ys))
