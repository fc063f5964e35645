-- What a block was lent lies in its place.
use Rattle.std.proofs.Common.{◌≡◌, ℕ, List, get_or, sym, subst}
use Rattle.stream_model.specs.Network.{Network, State}
use Rattle.items.specs.declared.stream_items.Items.{Items}
use Rattle.claimed_work.specs.declared.lent.Lent.{Lent}
use Rattle.plant_laws.specs.Stored.{Stored}
use Rattle.plant_storage.specs.Lending.{IsLent}
use Rattle.plant.specs.Plant.{IsItsWork}

-- what lies there, as it is read
module _ (all : List Lent) (b : ℕ) (l : Lent) (at : l ≡ get_or all b l) where
  pub lent_here : (net : Network) (stored : Stored) (first count : ℕ) →
      ((d : Lent) → let lent = get_or all b d in IsLent net stored b first count lent.windows.items lent.held.items lent.outputs.items) → IsLent net stored b first count l.windows.items l.held.items l.outputs.items
  lent_here net stored first count lent =
      subst (λ (k : Lent). IsLent net stored b first count k.windows.items k.held.items k.outputs.items) (sym at) (lent l)

  pub work_here : (net : Network) (st : State) (word : ℕ) → ((d : Lent) → let lent = get_or all b d in IsItsWork net st b lent.windows.items lent.outputs.items word) →
      (windows outputs : List Items) → windows ≡ l.windows.items → outputs ≡ l.outputs.items → IsItsWork net st b windows outputs word
  work_here net st word work windows outputs windows_are outputs_are =
      subst (λ ws. IsItsWork net st b ws outputs word) (sym windows_are)
      (subst (λ os. IsItsWork net st b l.windows.items os word) (sym outputs_are)
      (subst (λ (k : Lent). IsItsWork net st b k.windows.items k.outputs.items word) (sym at) (work l)))
