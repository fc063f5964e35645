-- The items of several inputs, told by their places.
use Rattle.std.proofs.Common.{◌≡◌, ℕ, ◌≤◌, ℤ, List, [], length, map, take, refl, ap, sym, ◌∙◌}
use Rattle.std.proofs.lemmas.List.{take-map}
use Rattle.std.proofs.lemmas.List.FromFn.{take-map-range_with_len, fill_by_all}
use Rattle.stream_model.specs.Lists.{below}
use Rattle.stream_model.specs.Meaning.{input}

-- the first of them, as many as there are, are all of them
pub told :
    {X : Type 0} (numbers : X → List ℤ) (xs : List X) (ws : List (List ℤ)) (n most : ℕ) → map numbers xs ≡ map (input ws) (below most) → length ws ≡ n → n ≤ most →
    map numbers (take n xs) ≡ ws
told numbers xs ws n most is long few =
    sym (take-map numbers n xs) ∙ ap (take n) is ∙ take-map-range_with_len (input ws) 0 most n few ∙ sym (fill_by_all (input ws) ws n [] long (λ k h. refl))
