-- The one output of a block that is written.
use Rattle.std.proofs.Common.{◌≡◌, ℕ, zero, suc, ◌+◌, ◌<◌, ◌≤◌, ℤ, List, [], ◌∷◌, length, map, get_or, set, refl, arith, ap, sym, ◌∙◌}
use Rattle.stream_model.specs.Settings as model
use Rattle.stream_model.specs.Meaning.{Meaning, given_items, given_outputs}
use Rattle.items.specs.declared.stream_items.Items.{Items}
use Rattle.items.specs.Items.{type_of, numbers_of, spare_of}
use Rattle.settings.specs.declared.value.Held.{Held}
use Rattle.block_trait.specs.Work.{IsWorkOf, HasWorked}

one_output : {X : Type 0} (out : List X) (x : X) → length out ≡ 1 → set out 0 x ≡ x ∷ []
one_output [] x e = absurd (omega arith)
one_output (y ∷ []) x e = refl
one_output (y ∷ z ∷ ys) x e = absurd (omega arith)

-- it keeps what it had
one_kept : {X Y : Type 0} (f : X → Y) (out : List X) (o x : X) → length out ≡ 1 → f x ≡ f (get_or out 0 o) → map f (set out 0 x) ≡ map f out
one_kept f [] o x e same = absurd (omega arith)
one_kept f (y ∷ []) o x e same = ap (λ v. v ∷ []) same
one_kept f (y ∷ z ∷ ys) o x e same = absurd (omega arith)

-- what holds between what it had and has holds at each place
one_place :
    {X : Type 0} (P : X → X → Type 0) (out : List X) (o x : X) → length out ≡ 1 → P (get_or out 0 o) x →
    (p : ℕ) (d : X) → p < length out → P (get_or out p d) (get_or (set out 0 x) p d)
one_place P [] o x e holds p d h = absurd (omega arith)
one_place P (y ∷ []) o x e holds zero d h = holds
one_place P (y ∷ []) o x e holds (suc p) d h = absurd (omega arith)
one_place P (y ∷ z ∷ ys) o x e holds p d h = absurd (omega arith)

-- what is written on the one output is what the block has worked
pub one_worked :
    (m : Meaning) (first n state : ℕ) (windows : List Items) (held : List Held) (old : List Items) (place new : Items) → length old ≡ 1 →
    type_of new ≡ type_of (get_or old 0 place) → spare_of (get_or old 0 place) ≤ spare_of new + length (numbers_of new) →
    ((ts : List model.Held) (xs : List (List ℤ)) → IsWorkOf m ts xs first n state windows held → numbers_of new ≡ given_items m ts xs first n 0) →
    HasWorked m first n state windows held old (set old 0 new)
one_worked m first n state windows held old place new one same room gives =
    record {
      items = λ ts xs fed.
          ap (map numbers_of) (one_output old new one) ∙ ap (λ ys. ys ∷ []) (gives ts xs fed) ∙ ap (given_outputs m ts xs first n) (sym one);
      types = one_kept type_of old place new one same;
      room = one_place (λ a b. spare_of a ≤ spare_of b + length (numbers_of b)) old place new one room;
    }
