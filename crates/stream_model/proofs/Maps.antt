-- Functions of each element of a list.
use Rattle.std.proofs.Common.{◌≡◌, List, [], ◌∷◌, map, refl}
use Rattle.std.specs.List.{All}
use Rattle.std.proofs.lemmas.List.Elements.{All-head, All-tail}

-- functions that agree on the elements of a list give one list
pub map-agree : {A B : Type 0} (P : A → Type 0) (f g : A → B) (xs : List A) → All P xs → ((x : A) → P x → f x ≡ g x) → map f xs ≡ map g xs
map-agree P f g [] all each = refl
map-agree P f g (x ∷ xs) all each =
    let head = each x (All-head P x xs all) in
    let tail = map-agree P f g xs (All-tail P x xs all) each in
    cc
