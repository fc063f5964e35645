-- Lists through a view that loses nothing.
use Rattle.std.proofs.Common.{◌≡◌, Bool, List, [], ◌∷◌, map, refl, ap, sym, ◌∙◌}
use Rattle.std.specs.Bool.{Decides}
use Rattle.std.specs.Cmp.Lexicographic.{pointwise}
use Rattle.std.proofs.lemmas.Slice.Eq.{slice_eq-Decides}

module _ {A M : Type 0} (view : A → M) (back : M → A) (again : (a : A) → back (view a) ≡ a) where
  all_again : (xs : List A) → map back (map view xs) ≡ xs
  all_again [] = refl
  all_again (x ∷ xs) = ap (λ y. y ∷ map back (map view xs)) (again x) ∙ ap (λ ys. x ∷ ys) (all_again xs)

  -- what tells lists that are equal one by one tells equal views
  pub same_views : {E : A → A → Bool} → ((a b : A) → Decides (E a b) (a ≡ b)) → (xs ys : List A) (r : Bool) → r ≡ pointwise E xs ys → Decides r (map view xs ≡ map view ys)
  same_views decides xs ys r test =
      let same = slice_eq-Decides decides xs ys r test in
      (λ t. ap (map view) (same.0 t), λ e. same.1 (sym (all_again xs) ∙ ap (map back) e ∙ all_again ys))
