-- What a block that packs or unpacks bits takes.
use Rattle.std.proofs.Common.{◌≡◌, ℕ, ◌*◌, ℤ, List, [], ◌∷◌, length, arith, ap, subst, sym, ◌∙◌}
use Rattle.stream_model.specs.Settings.{Held}
use Rattle.stream_model.specs.Meaning.{Meaning, IsFed}
use Rattle.block_trait.specs.Shape.{IsPaced}
use Rattle.block_trait.proofs.Fills.{paced, length-paced}
use Rattle.bit_blocks.specs.Packed.{IsPacking}

pub all_taken :
    {m : Meaning} {d i : ℕ} {makes : List ℤ → List ℤ} → IsPacking m d i makes → {ts : List Held} {xs : List (List ℤ)} {first n state : ℕ} {w : List ℤ} {hs : List Held} →
    IsFed m ts xs first n state (w ∷ []) hs → d * (i * n) ≡ i * length w
all_taken {m} {d} {i} is {ts} {xs} {first} {n} {state} {w} {hs} fed =
    let pace : IsPaced m d i = subst (λ m. IsPaced m d i) (sym is.shaped) (paced _ _ d i 1 _ _ 0 _ m.out is.takes_some) in
    let one : m.history ≡ 1 = ap (λ (m : Meaning). m.history) is.shaped in
    let long : length w ≡ d * n = length-paced m d i pace ts xs first n state w hs fed ∙ omega (arith, one) in
    let turned : d * (i * n) ≡ i * (d * n) = grind arith in
    turned ∙ ap (λ l. i * l) (sym long)
