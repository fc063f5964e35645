-- What a block that looks for an access code is given, and what it gives.
use Rattle.std.proofs.Common.{◌≡◌, ℕ, ◌+◌, ◌-◌, ◌*◌, ◌<◌, ◌≤◌, ◌&&◌, ℤ, pos, List, [], ◌∷◌, length, arith, ap, sym, ◌∙◌}
use Rattle.std.specs.Prelude.{nat_le, if◌then◌else◌}
use Rattle.kind_model.specs.declared.vocabulary.BitOrder.TheVariants.{MsbFirst}
use Rattle.stream_model.specs.Numbers.{residue}
use Rattle.stream_model.specs.Lists.{item, listed}
use Rattle.stream_model.specs.Settings.{Held}
use Rattle.stream_model.specs.Meaning.{IsFed, input, given_items}
use Rattle.kind_model.specs.Bits.{low_bit}
use Rattle.kind_model.specs.BitStreams.{number_by, bit_before, word_before, distance, correlate_access_code}
use Rattle.block_trait.specs.Shape.{IsPaced}
use Rattle.block_trait.proofs.Fills.{paced, length-paced, past-paced, given-paced}
use Rattle.lane_filters.proofs.Streams.{numbered}
use Rattle.bit_blocks.specs.Marked.{word_at, marked}

module _ (code count threshold : ℕ) (ts : List Held) (xs : List (List ℤ)) (first n state : ℕ) (w : List ℤ) (hs : List Held)
    (fed : IsFed (correlate_access_code code count threshold) ts xs first n state (w ∷ []) hs) where
  pace : IsPaced (correlate_access_code code count threshold) 1 1
  pace = paced _ _ 1 1 (65 + count) _ _ 0 _ (correlate_access_code code count threshold).out (omega arith)

  -- the window begins with the past that a word and the delay reach
  pub correlate-length : length w ≡ 64 + count + n
  correlate-length = length-paced (correlate_access_code code count threshold) 1 1 pace ts xs first n state w hs fed ∙ omega arith

  -- a bit of the window is one of the past
  past_bit : (k place back : ℕ) → k < n → back ≤ 64 + count → place + back ≡ 64 + count + k → low_bit w place ≡ bit_before (input xs 0) (1 * first + k) back
  past_bit k place back near close e =
      let here : place ≡ 65 + count - 1 + k - back = omega (arith, e) in
      ap (λ z. residue z 2)
      (ap (item w) here ∙ past-paced (correlate_access_code code count threshold) 1 1 pace ts xs first n state w hs fed k back (omega (arith, close)) (omega (arith, near)))

  past_word : (k : ℕ) → k < n → word_at count w k ≡ word_before count (input xs 0) (1 * first + k)
  past_word k near =
      ap (number_by MsbFirst)
      (numbered (low_bit w) (λ j. bit_before (input xs 0) (1 * first + k) (64 + count - j)) k 0 count
      (λ j h.
      let from : 0 + j ≡ j = omega arith in
      past_bit k (k + j) (64 + count - j) near (omega arith) (omega (arith, h)) ∙ ap (λ z. bit_before (input xs 0) (1 * first + k) (64 + count - z)) (sym from)))

  pub marked-given : listed n (marked code count threshold first w) ≡ given_items (correlate_access_code code count threshold) ts xs first n 0
  marked-given =
      given-paced (correlate_access_code code count threshold) 1 1 pace ts xs first n state w hs fed 0 n (marked code count threshold first w) (omega arith)
      (λ k h.
      let place : first + k ≡ 1 * first + k = omega arith in
      let bit : low_bit w (k + count) ≡ bit_before (input xs 0) (1 * first + k) 64 = past_bit k (k + count) 64 h (omega arith) (omega arith) in
      λ i. pos (bit i + 2 * (if nat_le count (place i) && nat_le (distance (past_word k h i) code) threshold then 1 else 0)))
