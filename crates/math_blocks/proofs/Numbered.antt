-- What a block of one number writes.
use Rattle.std.proofs.Common.{◌≡◌, ℕ, ◌+◌, ◌*◌, ℤ, List, [], ◌∷◌, length, get_or, refl, arith, ap, subst, sym, ◌∙◌}
use Rattle.stream_model.specs.declared.vocabulary.ItemType.{ItemType}
use Rattle.stream_model.specs.declared.vocabulary.Wanted.TheVariants as wanted
use Rattle.stream_model.specs.Lists.{item, listed}
use Rattle.stream_model.specs.Settings.{Value, Held, Number, Taps, between}
use Rattle.stream_model.specs.Meaning.{IsWanted, AreWanted, IsFed, input, given_items}
use Rattle.stream_model.specs.Shapes.{number_set, number_at}
use Rattle.block_trait.proofs.Fills.{paced, length-paced, each-given}
use Rattle.block_trait.specs.InForce.{AreOver}
use Rattle.math_blocks.specs.Stretch.{IsBetween, SetBetween, each_of, number_among}
use Rattle.block_trait.proofs.InForce.{All-between, AreOver-between}
use Rattle.math_blocks.proofs.Settings.{number_among-between}

-- a value that such a setting may have sets a number from low to high
is_between : (low high : ℤ) (v : Value) → IsWanted (wanted.Number low high) v → IsBetween low high (number_set v)
is_between low high (Number z) h = record { above = h.0; below = h.1 }
is_between low high (Taps h) none = absurd none

module _ (t : ItemType) (low high v : ℤ) (gives : ℤ → ℤ → ℤ) (ts : List Held) (xs : List (List ℤ)) (first n state : ℕ) (w : List ℤ) (hs : List Held)
    (fed : IsFed (each_of t low high v gives) ts xs first n state (w ∷ []) hs) where
  count : length w ≡ n
  count = length-paced (each_of t low high v gives) 1 1 (paced _ _ 1 1 1 _ _ 0 _ (each_of t low high v gives).out (omega arith)) ts xs first n state w hs fed ∙ omega arith

  held_now : hs ≡ between (Number v) ts first (first + n)
  held_now =
      let from : 1 * first ≡ first = omega arith in
      let to : 1 * (first + n) ≡ first + n = omega arith in
      fed.held_are ∙ (λ i. between (Number v) ts (from i) (to i))

  -- the settings are over the items of the window
  pub are_over : AreOver first (first + length w) hs
  are_over =
      subst (λ (k : ℕ). AreOver first (first + k) hs) (sym count)
      (subst (AreOver first (first + n)) (sym held_now) (AreOver-between (Number v) ts first (first + n) (omega arith)))

  -- and set numbers from low to high
  pub set_between : IsBetween low high v → AreWanted (each_of t low high v gives) ts → SetBetween low high hs
  set_between mine wanted =
      subst (SetBetween low high) (sym held_now)
      (All-between (Number v) ts (λ w. IsBetween low high (number_set w)) mine (λ k d l. is_between low high (get_or ts k d).value (wanted k d l)) first (first + n))

  -- what is made of each item by the number in force at it is what the firings give
  pub numbered-given : listed (length w) (λ k. gives (number_among hs (first + k)) (item w k)) ≡ given_items (each_of t low high v gives) ts xs first n 0
  numbered-given =
      each-given (each_of t low high v gives) (paced _ _ 1 1 1 _ _ 0 _ (each_of t low high v gives).out (omega arith)) refl ts xs first n state w hs (λ a z. gives (number_among hs a) z)
      (λ a low high.
      let a_number : number_among hs a ≡ number_at v ts a = ap (λ (gs : List Held). number_among gs a) held_now ∙ number_among-between (Number v) ts first (first + n) a low high in
      sym (ap (λ z. gives z (item (input xs 0) a)) a_number))
      fed (length w) count
