-- Items that are written one by one.
use Rattle.std.proofs.Common.{◌≡◌, ℕ, ◌+◌, ◌<◌, ℤ, pos, List, length, map, set, get_or, arith, sym, ◌∙◌, ap, inl, inr}
use Rattle.std.proofs.lemmas.List.{get_or-map, length-map, ext_get_or, get_or-set_other, map-set}
use Rattle.std.proofs.lemmas.Grind.{get_or-set_at}
use Rattle.std.proofs.lemmas.Bool.{cases_lt}
use Rattle.stream_model.specs.Lists.{item, listed}
use Rattle.shape_laws.specs.Shaped.{item-listed, length-listed}

-- item k is written behind the first k
pub write_next :
    {X : Type 0} (number : X → ℤ) (out : List X) (k : ℕ) (v : X) (f : ℕ → ℤ) → ((j : ℕ) → j < k → item (map number out) j ≡ f j) → k < length out → number v ≡ f k →
    (j : ℕ) → j < k + 1 → item (map number (set out k v)) j ≡ f j
write_next number out k v f before within is j h =
    let long : k < length (map number out) = omega (arith, within, length-map out number) in
    ap (λ zs. item zs j) (map-set number out k v)
    ∙ elim (cases_lt j k) [
      | inl less ↦ get_or-set_other (map number out) k j (number v) (pos 0) (λ e. omega arith) ∙ before j less
      | inr same ↦ get_or-set_at (map number out) k j (number v) (pos 0) (omega arith) long ∙ is ∙ ap f (omega arith)
    ]

-- all items are written
pub written_all : {X : Type 0} (number : X → ℤ) (out : List X) (count : ℕ) (f : ℕ → ℤ) → length out ≡ count → ((j : ℕ) → j < count → item (map number out) j ≡ f j) → map number out ≡ listed count f
written_all number out count f e same =
    ext_get_or (pos 0) _ _ (length-map out number ∙ e ∙ sym (length-listed count f))
    (λ j h. let near : j < count = omega (arith, h, e, length-map out number) in same j near ∙ sym (item-listed count f j near))

-- the number of an item that is read
pub read_item : {X : Type 0} (number : X → ℤ) (xs : List X) (k : ℕ) (x : X) → x ≡ get_or xs k x → k < length xs → number x ≡ item (map number xs) k
read_item number xs k x is within = ap number is ∙ sym (get_or-map number xs k x (pos 0) within)
