-- What the source of a tape writes.
use Rattle.std.proofs.Common.{◌≡◌, ℕ, ◌+◌, ◌-◌, ◌*◌, ℤ, List, [], ◌∷◌, length, arith, ◌∙◌}
use Rattle.stream_model.specs.declared.vocabulary.ItemType.{ItemType}
use Rattle.stream_model.specs.Settings.{Held}
use Rattle.stream_model.specs.Meaning.{IsFed, input, given_items}
use Rattle.kind_model.specs.Ends.{vector_source}
use Rattle.block_trait.proofs.Fills.{length-fill, item-fill, before-none, whole-given}

pub tape-given :
    (t : ItemType) (ts : List Held) (xs : List (List ℤ)) (first count state : ℕ) (w : List ℤ) (hs : List Held) → IsFed (vector_source t) ts xs first count state (w ∷ []) hs →
    w ≡ given_items (vector_source t) ts xs first count 0
tape-given t ts xs first count state w hs fed =
    let long : length w ≡ 1 * (first + count) - 1 * first = length-fill (vector_source t) ts xs first count state w hs fed (omega arith) ∙ omega arith in
    whole-given (vector_source t) ts xs first count 0 w long
    (λ k h. item-fill (vector_source t) ts xs first count state w hs fed k (omega (arith, h, long)) ∙ before-none (input xs 0) (1 * first + k))
