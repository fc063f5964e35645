-- Items while they are muted, and while they are not.
use Rattle.std.proofs.Common.{◌≡◌, ℕ, ◌<◌, ◌∙◌, ℤ, pos, int_lt, true, false, cond, List, length, map, replicate, ap, sym, arith}
use Rattle.std.proofs.lemmas.List.{ext_get_or, length-map, length-replicate, get_or-replicate}
use Rattle.numbers.proofs.Mapped.{map_replicate}
use Rattle.kind_model.specs.Math.{muted}
use Rattle.shape_laws.specs.Shaped.{item-listed, length-listed}
use Rattle.stream_model.specs.Lists.{item, listed}

muted_on : (on z : ℤ) → int_lt (pos 0) on ≡ true → muted on z ≡ pos 0
muted_on on z set = ap (λ b. cond b (pos 0) z) set

muted_off : (on z : ℤ) → int_lt (pos 0) on ≡ false → muted on z ≡ z
muted_off on z unset = ap (λ b. cond b (pos 0) z) unset

-- zeros are what is made of as many items while they are muted
pub all_muted : {X : Type 0} (number : X → ℤ) (on : ℤ) (nought : X) (zs : List ℤ) (count : ℕ) → int_lt (pos 0) on ≡ true → number nought ≡ pos 0
    → map number (replicate count nought) ≡ listed count (λ k. muted on (item zs k))
all_muted number on nought zs count set is =
    map_replicate number count nought
    ∙ ext_get_or (pos 0) _ _ (length-replicate count (number nought) ∙ sym (length-listed count (λ k. muted on (item zs k)))) (λ k h.
    let near : k < count = omega (arith, h, length-replicate count (number nought)) in
    get_or-replicate count k (number nought) (pos 0) near ∙ is ∙ sym (muted_on on (item zs k) set) ∙ sym (item-listed count (λ j. muted on (item zs j)) k near))

-- and the items themselves while they are not
pub none_muted : {X : Type 0} (number : X → ℤ) (on : ℤ) (xs : List X) → int_lt (pos 0) on ≡ false → map number xs ≡ listed (length xs) (λ k. muted on (item (map number xs) k))
none_muted number on xs unset =
    ext_get_or (pos 0) _ _ (length-map xs number ∙ sym (length-listed (length xs) (λ k. muted on (item (map number xs) k)))) (λ k h.
    let near : k < length xs = omega (arith, h, length-map xs number) in
    sym (muted_off on (item (map number xs) k) unset) ∙ sym (item-listed (length xs) (λ j. muted on (item (map number xs) j)) k near))
