-- Rows of a table, one for each of a list.
use Rattle.std.proofs.Common.{◌≡◌, ℕ, ◌+◌, ◌<◌, List, [], ◌∷◌, ◌++◌, length, map, take, get_or, ap, sym, ◌∙◌}
use Rattle.std.proofs.Math.Seq.{take-length}
use Rattle.std.proofs.lemmas.List.{take_more, map-append}

module _ {A B : Type 0} (row : A → B) (xs : List A) where
  -- one row more
  pub one_more : (i : ℕ) (d : A) (rows more : List B) (r : B) → i < length xs → rows ≡ map row (take i xs) → more ≡ rows ++ r ∷ [] → r ≡ row (get_or xs i d) →
      more ≡ map row (take (i + 1) xs)
  one_more i d rows more r lt before is at =
      is ∙ ap (λ rs. rs ++ r ∷ []) before ∙ ap (λ x. map row (take i xs) ++ x ∷ []) at
      ∙ sym (ap (map row) (take_more xs i d lt) ∙ map-append row (take i xs) (get_or xs i d ∷ []))

  -- all of them
  pub all_rows : (i : ℕ) (rows : List B) → i ≡ length xs → rows ≡ map row (take i xs) → rows ≡ map row xs
  all_rows i rows last is = is ∙ ap (λ n. map row (take n xs)) last ∙ ap (map row) (take-length xs)
