-- Plants that are held, whichever they are.
use Rattle.std.proofs.Common.{◌≡◌, ℕ, List, Bool, true, false, Ok, refl, sym, subst, ap}
use Rattle.std.specs.Prelude.{IsOk, Result}
use Rattle.kinds.specs.declared.kind.Kind.{Kind}
use Rattle.plant_laws.specs.Stored.{Firsts}
use Rattle.graph_file.specs.Refusals.{Refusal}
use Rattle.streaming.specs.Streaming.{StreamingState}
use Rattle.magbelu_c.specs.declared.any_plant.AnyPlant.{AnyPlant}
use Rattle.magbelu_c.specs.declared.any_plant.AnyPlant.TheVariants.{Whole, Streaming}
use Rattle.magbelu_c.specs.AnyPlants.{IsOpened, opening_in, plant_of, with_plant}

-- nothing was done
pub same_plant : (p : AnyPlant) → p ≡ with_plant p (plant_of p)
same_plant (Whole p) = refl
same_plant (Streaming s) = refl

-- a call of a plant that streams left what is kept
pub kept_same : (s t : StreamingState Kind) → t.kept ≡ s.kept → Streaming t ≡ with_plant (Streaming s) t.plant
kept_same s t e = ap (λ (k : Firsts). Streaming (record { plant = t.plant; kept = k })) e

opened_ok : {A : Type 0} (r : Result A Refusal) (a : A) → r ≡ Ok a → IsOk r
opened_ok r a e = subst (λ (x : Result _ Refusal). IsOk x) (sym e) refl

-- what is opened of a file is no refusal
pub opened_is_ok : (streams : Bool) (file : List ℕ) (p : AnyPlant) → IsOpened streams file p → IsOk (opening_in streams file)
opened_is_ok false file (Whole p) h = opened_ok _ _ h
opened_is_ok true file (Streaming s) h = opened_ok _ _ h.0
opened_is_ok false file (Streaming s) h = absurd h
opened_is_ok true file (Whole p) h = absurd h
