-- Lists that grow by an entry for each element of another, and by one for each number.
use Rattle.std.proofs.Common.{◌≡◌, ℕ, ◌+◌, ◌<◌, List, [], ◌∷◌, ◌++◌, length, map, take, get_or, ap, sym, arith, ◌∙◌}
use Rattle.std.proofs.lemmas.List.{take_more, map-append}
use Rattle.std.proofs.lemmas.List.FromFn.{map-range_with_len_more}
use Rattle.stream_model.specs.Lists.{below}

pub map_more : {X Y : Type 0} (f : X → Y) (xs : List X) (k : ℕ) (d : X) → k < length xs → map f (take (k + 1) xs) ≡ map f (take k xs) ++ f (get_or xs k d) ∷ []
map_more f xs k d lt = ap (map f) (take_more xs k d lt) ∙ map-append f (take k xs) (get_or xs k d ∷ [])

-- what stands for the numbers below n, and for one more
pub more_numbers : {W Y : Type 0} (g : W → Y) (f : ℕ → Y) (ws : List W) (w : W) (n : ℕ) → map g ws ≡ map f (below n) → g w ≡ f n → map g (ws ++ w ∷ []) ≡ map f (below (n + 1))
more_numbers g f ws w n before is =
    map-append g ws (w ∷ []) ∙ ap (λ ys. ys ++ g w ∷ []) before ∙ ap (λ y. map f (below n) ++ y ∷ []) is ∙ sym (map-range_with_len_more f 0 n n (omega arith))
