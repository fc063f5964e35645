-- The differences of bytes, as they are written.
use Rattle.std.proofs.Common.{◌≡◌, ℕ, zero, suc, ◌+◌, ◌*◌, ◌<◌, ℤ, pos, List, [], ◌∷◌, length, drop, refl, arith, ap, ◌∙◌}
use Rattle.std.specs.Prelude.{◌-ℤ◌}
use Rattle.std.proofs.lemmas.List.{get_or-drop, length-drop}
use Rattle.stream_model.specs.Lists.{item, item_before}
use Rattle.stream_model.specs.Numbers.{residue}
use Rattle.kind_model.specs.Kernels.{previous, diff_decode}
use Rattle.stream_model.specs.Settings.{Held}
use Rattle.stream_model.specs.Meaning.{IsFed, input, given_items}
use Rattle.kind_model.specs.Bits.{diff_decoder}
use Rattle.block_trait.specs.Shape.{IsPaced}
use Rattle.block_trait.proofs.Fills.{paced, length-paced, past-paced, before-none, given-paced}

-- the item before one of those behind the first
before_it : (w : List ℤ) (j : ℕ) → previous (item w 0) (drop 1 w) j ≡ item w j
before_it w zero = refl
before_it w (suc j) = get_or-drop 1 w j (pos 0) ∙ ap (item w) (omega arith)

pub decode-given :
    (m : ℕ) (ts : List Held) (xs : List (List ℤ)) (first n state : ℕ) (w : List ℤ) (hs : List Held) → IsFed (diff_decoder m) ts xs first n state (w ∷ []) hs →
    diff_decode m (item w 0) (drop 1 w) ≡ given_items (diff_decoder m) ts xs first n 0
decode-given m ts xs first n state w hs fed =
    given-paced (diff_decoder m) 1 1 pace ts xs first n state w hs fed 0 (length (drop 1 w)) _ (omega (arith, length-drop 1 w, long))
    (λ j h.
    let near : j < 1 * n = omega (arith, h, length-drop 1 w, long) in
    let now : item (drop 1 w) j ≡ item (input xs 0) (1 * first + j) =
    get_or-drop 1 w j (pos 0) ∙ ap (item w) (omega arith) ∙ past-paced (diff_decoder m) 1 1 pace ts xs first n state w hs fed j 0 (omega arith) near
    ∙ before-none (input xs 0) (1 * first + j) in
    let before : previous (item w 0) (drop 1 w) j ≡ item_before (input xs 0) (1 * first + j) 1 =
    before_it w j ∙ ap (item w) (omega arith) ∙ past-paced (diff_decoder m) 1 1 pace ts xs first n state w hs fed j 1 (omega arith) near in
    λ i. pos (residue (now i -ℤ before i) m))
  where
    pace : IsPaced (diff_decoder m) 1 1
    pace = paced _ _ 1 1 2 _ _ 0 _ (diff_decoder m).out (omega arith)

    long : length w ≡ 1 + n
    long = length-paced (diff_decoder m) 1 1 pace ts xs first n state w hs fed ∙ omega arith
