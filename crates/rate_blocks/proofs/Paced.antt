-- What the blocks at a rate write.
use Rattle.std.proofs.Common.{◌≡◌, ℕ, ◌+◌, ◌*◌, ◌/◌, ◌<◌, ◌≤◌, ℤ, List, [], ◌∷◌, refl, arith, ap, sym, ◌∙◌}
use Rattle.std.proofs.lemmas.Nat.{div_below}
use Rattle.std.proofs.Math.Nat.{mul-add-div}
use Rattle.stream_model.specs.declared.vocabulary.ItemType.{ItemType}
use Rattle.stream_model.specs.Lists.{item, listed}
use Rattle.stream_model.specs.Settings.{Held}
use Rattle.stream_model.specs.Meaning.{IsFed, input, given_items}
use Rattle.kind_model.specs.Rates.{repeat}
use Rattle.block_trait.specs.Shape.{IsPaced}
use Rattle.block_trait.proofs.Fills.{paced, item-paced, given-paced}

-- item n * first + k is given for item first + k / n
pub add-mul-div : (n first k : ℕ) → 1 ≤ n → (n * first + k) / n ≡ 1 * first + k / n
add-mul-div n first k some = mul-add-div some first k ∙ omega arith

pub repeat-given :
    (t : ItemType) (n : ℕ) (ts : List Held) (xs : List (List ℤ)) (first count state : ℕ) (w : List ℤ) (hs : List Held) → 1 ≤ n → IsFed (repeat t n) ts xs first count state (w ∷ []) hs →
    listed (n * count) (λ k. item w (k / n)) ≡ given_items (repeat t n) ts xs first count 0
repeat-given t n ts xs first count state w hs some fed =
    given-paced (repeat t n) 1 n pace ts xs first count state w hs fed 0 (n * count) (λ k. item w (k / n)) (omega arith)
    (λ k h.
    let there : k / n < 1 * count = div_below k n (1 * count) (omega arith) (omega arith) in
    item-paced (repeat t n) 1 n pace ts xs first count state w hs fed refl (k / n) there
    ∙ ap (item (input xs 0)) (sym (add-mul-div n first k some)))
  where
    pace : IsPaced (repeat t n) 1 n
    pace = paced _ _ 1 n 1 _ _ 0 _ (repeat t n).out (omega arith)
