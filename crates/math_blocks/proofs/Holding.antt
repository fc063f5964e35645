-- Items that are held from a place on.
use Rattle.std.proofs.Common.{◌≡◌, ℕ, zero, suc, ◌+◌, ◌*◌, ◌<◌, ◌≤◌, ℤ, pos, List, [], ◌∷◌, ◌++◌, length, map, get_or, true, false, refl, arith, ap, sym, ◌∙◌}
use Rattle.std.specs.Prelude.{cond, if◌then◌else◌}
use Rattle.std.specs.Ordering.{int_eq}
use Rattle.std.proofs.lemmas.List.{get_or-map}
use Rattle.stream_model.specs.declared.vocabulary.ItemType.{ItemType}
use Rattle.stream_model.specs.declared.vocabulary.ItemType.TheVariants.{Byte, Short, Int}
use Rattle.stream_model.specs.Numbers.{AreItems, numbers_in, wrap}
use Rattle.stream_model.specs.Lists.{numbers_from, item, listed}
use Rattle.stream_model.specs.Settings.{Held}
use Rattle.stream_model.specs.Meaning.{Meaning, IsFed, input, given_items}
use Rattle.kind_model.specs.Kernels.{bits_in}
use Rattle.kind_model.specs.Math.{last_taken, sample_and_hold}
use Rattle.shape_laws.specs.Shaped.{IsItem-item}
use Rattle.block_trait.proofs.Fills.{listed-given}
use Rattle.block_trait.proofs.Inputs.{length-port, item-port}
use Rattle.math_blocks.specs.Bitwise.{bits-less, wrap-bits, bits-wrap}
use Rattle.math_blocks.specs.Wrapping.{wrap_own}
use Rattle.math_blocks.specs.Holding.{held_from}

-- one item more of a list that is given item by item
mapped-push : (f : ℕ → ℤ) (a count : ℕ) → map f (numbers_from a (suc count)) ≡ map f (numbers_from a count) ++ f (a + count) ∷ []
mapped-push f a zero = ap (λ n. f n ∷ []) (omega arith)
mapped-push f a (suc count) = ap (λ zs. f a ∷ zs) (mapped-push f (a + 1) count ∙ ap (λ n. map f (numbers_from (a + 1) count) ++ f n ∷ []) (omega arith))

pub listed-push : (f : ℕ → ℤ) (count : ℕ) → listed (suc count) f ≡ listed count f ++ f count ∷ []
listed-push f count = mapped-push f 0 count ∙ ap (λ n. listed count f ++ f n ∷ []) (omega arith)

-- the bits of a number are those of the number wrapped
bits-wrapped : (t : ItemType) (z : ℤ) → bits_in t (wrap t z) ≡ bits_in t z
bits-wrapped t z = ap (bits_in t) (sym (wrap-bits t z)) ∙ bits-wrap t (bits_in t z) (bits-less t z)

-- it is one to wrap what is held at first or what is held at last, where the items are of the type
held-wrapped : (t : ItemType) (z : ℤ) (w v : List ℤ) (n : ℕ) → AreItems t w → held_from (wrap t z) w v n ≡ wrap t (held_from z w v n)
held-wrapped t z w v zero are = refl
held-wrapped t z w v (suc n) are =
    elim (int_eq (item v n) (pos 0)) as (λ b. cond b (held_from (wrap t z) w v n) (item w n) ≡ wrap t (cond b (held_from z w v n) (item w n))) [
      | true ↦ held-wrapped t z w v n are
      | false ↦ sym (wrap_own t (item w n) (IsItem-item t w n are))
    ]

-- what is held behind some items goes on to be held
held-later :
    (x c w v : List ℤ) (a n : ℕ) → ((k : ℕ) → k < n → item w k ≡ item x (a + k)) → ((k : ℕ) → k < n → item v k ≡ item c (a + k)) →
    held_from (last_taken x c a) w v n ≡ last_taken x c (a + n)
held-later x c w v a zero same asked = ap (last_taken x c) (omega arith)
held-later x c w v a (suc n) same asked =
    let before = held-later x c w v a n (λ k h. same k (omega arith)) (λ k h. asked k (omega arith)) in
    let now = same n (omega arith) in
    let is = asked n (omega arith) in
    let later : suc (a + n) ≡ a + suc n = omega arith in
    (λ i. if int_eq (is i) (pos 0) then before i else now i) ∙ ap (last_taken x c) later

-- no type has more bits than ints
few_bits : (t : ItemType) (b : ℕ) → b < numbers_in t → b < 4294967296
few_bits Byte b h = omega (arith, h)
few_bits Short b h = omega (arith, h)
few_bits Int b h = omega (arith, h)

module _ (t : ItemType) (ts : List Held) (xs : List (List ℤ)) (first n state : ℕ) (ws : List (List ℤ)) (hs : List Held)
    (fed : IsFed (sample_and_hold t) ts xs first n state ws hs) (two : length ws ≡ 2) where
  abbrev holder : Meaning
  holder = sample_and_hold t

  -- the windows have an item for each firing
  pub length-held : (q : ℕ) → q < 2 → length (input ws q) ≡ n
  length-held q h = length-port holder ts xs first n state ws hs fed q 1 refl (omega (arith, h, two)) (λ k. refl) ∙ omega arith

  item-held : (q k : ℕ) → q < 2 → k < n → item (input ws q) k ≡ item (input xs q) (first + k)
  item-held q k h l = item-port holder ts xs first n state ws hs fed q 1 k refl (omega (arith, h, two)) (λ j. refl) (omega (arith, l)) ∙ ap (item (input xs q)) (omega arith)

  -- what is held from the state on
  held-taken : (k : ℕ) → k ≤ n → AreItems t (input ws 0) → held_from (wrap t (pos state)) (input ws 0) (input ws 1) k ≡ wrap t (last_taken (input xs 0) (input xs 1) (first + k))
  held-taken k h are =
      ap (λ s. held_from (wrap t (pos s)) (input ws 0) (input ws 1) k) fed.state_is
      ∙ ap (λ z. held_from z (input ws 0) (input ws 1) k) (wrap-bits t (last_taken (input xs 0) (input xs 1) first))
      ∙ held-wrapped t (last_taken (input xs 0) (input xs 1) first) (input ws 0) (input ws 1) k are
      ∙ ap (wrap t) (held-later (input xs 0) (input xs 1) (input ws 0) (input ws 1) first k (λ j l. item-held 0 j (omega arith) (omega arith)) (λ j l. item-held 1 j (omega arith) (omega arith)))

  pub held-given : AreItems t (input ws 0) → listed n (λ k. held_from (wrap t (pos state)) (input ws 0) (input ws 1) (suc k)) ≡ given_items holder ts xs first n 0
  held-given are =
      listed-given holder ts xs first n 0 n (λ k. held_from (wrap t (pos state)) (input ws 0) (input ws 1) (suc k)) (omega arith)
      (λ k h.
      let place : first + suc k ≡ suc (1 * first + k) = omega arith in
      held-taken (suc k) (omega arith) are ∙ ap (λ a. wrap t (last_taken (input xs 0) (input xs 1) a)) place)

  pub held-word : AreItems t (input ws 0) → bits_in t (held_from (wrap t (pos state)) (input ws 0) (input ws 1) n) ≡ holder.word ts xs (first + n)
  held-word are = ap (bits_in t) (held-taken n (omega arith) are) ∙ bits-wrapped t (last_taken (input xs 0) (input xs 1) (first + n))

  -- the state has no more bits than an int
  pub held-small : state < 4294967296
  held-small = omega (arith, few_bits t _ (bits-less t (last_taken (input xs 0) (input xs 1) first)), fed.state_is)

-- a window is an input of the windows
pub input-window : {X : Type 0} (f : X → List ℤ) (ws : List X) (q : ℕ) (w : X) → q < length ws → w ≡ get_or ws q w → input (map f ws) q ≡ f w
input-window f ws q w h is = get_or-map f ws q w [] h ∙ ap f (sym is)
