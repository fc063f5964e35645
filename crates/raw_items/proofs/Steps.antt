-- One more number behind those of a list.
use Rattle.std.proofs.Common.{◌≡◌, ℕ, ◌+◌, ◌<◌, ◌∙◌, ap, sym, ℤ, List, [], ◌∷◌, ◌++◌, length, map, take, get_or}
use Rattle.std.specs.List.{flat_map}
pub use Rattle.numbers.proofs.Mapped.{map_slice_range}
use Rattle.std.proofs.lemmas.List.{map-append, take_more, flat_map_more}

-- the bytes of one more number
pub flat_map-push : {X : Type 0} (number : X → ℤ) (bytes : ℤ → List ℕ) (old new more : List ℕ) (xs : List X) (i : ℕ) (x : X) → i < length xs
    → old ≡ flat_map bytes (map number (take i xs)) → x ≡ get_or xs i x → more ≡ bytes (number x) → new ≡ old ++ more
    → new ≡ flat_map bytes (map number (take (i + 1) xs))
flat_map-push number bytes old new more xs i x l before here is pushed =
    let done : List ℤ = map number (take i xs) in
    let last : map number (take (i + 1) xs) ≡ done ++ number x ∷ [] =
    ap (map number) (take_more xs i x l) ∙ map-append number (take i xs) (get_or xs i x ∷ []) ∙ ap (λ y. done ++ number y ∷ []) (sym here) in
    pushed
    ∙ (λ k. before k ++ is k)
    ∙ flat_map_more bytes [] done (number x)
    ∙ ap (flat_map bytes) (sym last)
