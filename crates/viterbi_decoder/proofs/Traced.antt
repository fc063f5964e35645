-- A path, from its last row back.
use Rattle.std.proofs.Common.{◌≡◌, ℕ, suc, ◌+◌, ◌-◌, ◌/◌, ◌%◌, ◌<◌, ℤ, List, ◌∷◌, Some, drop, get_or, ap, sym, subst, ◌∙◌, arith}
use Rattle.std.proofs.lemmas.List.{get_or-drop, drop-drop}
use Rattle.kind_model.specs.Trellis.{Trellis, states_of, symbol_at}
use Rattle.viterbi_decoder.specs.Found.{found, IsLastRow, AreLastRows}

traced-row : (back : ℕ) (p : List ℕ) (row : ℕ) (rest : List ℕ) → drop back p ≡ row ∷ rest → get_or p back 0 ≡ row
traced-row back p row rest e = ap (λ n. get_or p n 0) (omega arith) ∙ sym (get_or-drop back p 0 0) ∙ ap
    (λ l. get_or l 0 0) e

traced-rest : (back : ℕ) (p : List ℕ) (row : ℕ) (rest : List ℕ) → drop back p ≡ row ∷ rest → drop (back + 1) p ≡ rest
traced-rest back p row rest e = sym (drop-drop 1 back p) ∙ ap (drop 1) e

module _ (m : Trellis) (x : List ℤ) (row_at : ℕ → ℕ → ℕ) (p : List ℕ) (back state row : ℕ) (lasts : AreLastRows m x m.steps row_at) (less : back < m.steps) (within : state < states_of m) (row_is : row_at (m.steps - 1 - back) state ≡ row) (path : found m x (m.steps - back) state ≡ Some (drop back p)) where
  gone : (rest : List ℕ) × (drop back p ≡ row ∷ rest) × (found m x (m.steps - 1 - back) (row / m.symbols) ≡ Some rest)
  gone =
      let step = m.steps - 1 - back in
      let later : m.steps - back ≡ suc step = omega (arith, less) in
      let here : step < m.steps = omega (arith, less) in
      let last = subst (λ r. IsLastRow m x step (found m x (suc step) state) r) row_is
      (lasts.each step state here within) in
      last.is (drop back p) (subst (λ n. found m x n state ≡ Some (drop back p)) later path)

  -- the path to the state that the row leads from
  pub traced-path : found m x (m.steps - (back + 1)) (row / m.symbols) ≡ Some (drop (back + 1) p)
  traced-path =
      let sooner : m.steps - 1 - back ≡ m.steps - (back + 1) = omega arith in
      subst (λ n. found m x n (row / m.symbols) ≡ Some (drop (back + 1) p)) sooner
      (gone.2 ∙ ap Some (sym (traced-rest back p row gone.0 gone.1)))

  -- the symbol of the row
  pub traced-symbol : row % m.symbols ≡ symbol_at m (Some p) (m.steps - 1 - back)
  traced-symbol =
      let place : back ≡ m.steps - 1 - (m.steps - 1 - back) = omega (arith, less) in
      ap (λ r. r % m.symbols) (sym (traced-row back p row gone.0 gone.1)) ∙ ap (λ n. get_or p n 0 % m.symbols) place
