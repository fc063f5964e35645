-- Tables of a trellis, and its blocks as they are written.
use Rattle.std.proofs.Common.{◌≡◌, inl, inr, ℕ, zero, suc, ◌+◌, ◌-◌, ◌*◌, ◌/◌, ◌%◌, ◌<◌, ◌≤◌, ℤ, pos, List, [], ◌∷◌, All, length, map, take, drop, get_or, refl, arith, ap, subst, sym, ◌∙◌}
use Rattle.std.specs.Prelude.{◌≤ℤ◌, ◌<ℤ◌, slice_index_or}
use Rattle.std.proofs.lemmas.Bool.{cases_lt}
use Rattle.std.proofs.lemmas.Int.{ints}
use Rattle.std.proofs.lemmas.List.{get_or-map, get_or-take, get_or-drop, length-map, take-map, drop-map}
use Rattle.std.proofs.lemmas.Nat.{div-mul-add, mod-mul-add, div_below}
use Rattle.std.proofs.lemmas.Slice.{take-put_mid_below, between-put_mid}
use Rattle.std.proofs.Math.Nat.{mul-add-div, mul-add-mod_self_left}
use borrow.Rule.Slice.PartMut.{put_mid}
use Rattle.stream_model.specs.declared.vocabulary.ItemType.{ItemType}
use Rattle.stream_model.specs.Lists.{item, listed}
use Rattle.stream_model.specs.Settings.{Held}
use Rattle.stream_model.specs.Meaning.{IsFed, input, given_items}
use Rattle.kind_model.specs.Trellis as model
use Rattle.kind_model.specs.Trellis.{IsTrellis, decoded, viterbi}
use Rattle.kind_laws.specs.Rates.{item_of_firing}
use Rattle.kind_laws.specs.Trellis.{decoded-same}
use Rattle.block_trait.specs.Shape.{IsPaced}
use Rattle.block_trait.proofs.Fills.{paced, length-paced, item-paced, given-paced}
use Rattle.viterbi_decoder.specs.Found.{trellis}
use Rattle.code_blocks.specs.declared.viterbi.Trellis.{Trellis}
use Rattle.code_blocks.specs.Trellises.{AreTrellisTables}

-- numbers that are kept are below the bound that they had
pub below-all : (bound : ℕ) (zs : List ℤ) (ns : List ℕ) → map pos ns ≡ zs → All (λ z. (pos 0 ≤ℤ z) × (z <ℤ pos bound)) zs → All (λ n. n < bound) ns
below-all bound zs ns e all k d h =
    let same = ap (λ l. get_or l k (pos d)) (sym e) ∙ get_or-map pos ns k d (pos d) h in
    let near : k < length zs = omega (arith, h, sym (ap length e), length-map ns pos) in
    less (get_or ns k d) bound (subst (λ z. z <ℤ pos bound) same ((all k (pos d) near).1))
  where
    less : (a n : ℕ) → pos a <ℤ pos n → a < n
    less a n h = omega (arith, ints, h)

-- tables that are kept make a trellis
pub trellis-of_tables :
    (t : Trellis) (next output : List ℕ) → map pos next ≡ t.next.now → map pos output ≡ t.output.now → AreTrellisTables t →
    IsTrellis (trellis t.symbols next output t.outputs t.steps t.start t.end)
trellis-of_tables t next output e g are =
    let states = are.states_are.0 in
    let long : length t.next.now ≡ length next = sym (ap length e) ∙ length-map next pos in
    let count : length t.next.now / t.symbols ≡ length next / t.symbols = ap (λ l. l / t.symbols) long in
    let whole : length next / t.symbols * t.symbols ≡ length next = subst (λ l. l / t.symbols * t.symbols ≡ l) long states.whole in
    record {
      some = are.symbols_are.0;
      bytes = are.symbols_are.1;
      few = subst (λ l. l ≤ 4096) long states.few;
      whole = whole;
      some_states = some (length next / t.symbols) t.symbols (length next) whole (subst (λ l. 1 ≤ l) long states.some);
      few_states = subst (λ n. n ≤ 1024) count are.states_are.1;
      states = subst (λ n. All (λ s. s < n) next) count (below-all (length t.next.now / t.symbols) t.next.now next e states.states);
      rows = sym (length-map output pos) ∙ ap length g ∙ are.output_is.0 ∙ long;
      given = below-all t.outputs t.output.now output g are.output_is.1;
      some_outputs = are.outputs_are.0;
      some_steps = are.steps_are.some;
      few_items = are.steps_are.few_items;
      few_choices = subst (λ n. t.steps * n ≤ 16384) count are.steps_are.few_choices;
      begins = λ s h. subst (λ n. s < n) count (are.begins s h);
      ends = λ s h. subst (λ n. s < n) count (are.ends s h);
    }
  where
    some : (q n l : ℕ) → q * n ≡ l → 1 ≤ l → 1 ≤ q
    some zero n l e h = omega (arith, e, h)
    some (suc q) n l e h = omega arith

module _ {X : Type 0} (number : X → ℤ) where
  item-part : (w : List X) (at v i : ℕ) → i < v → item (map number (take v (drop at w))) i ≡ item (map number w) (at + i)
  item-part w at v i within =
      ap (λ zs. item zs i) (sym (take-map number v (drop at w)) ∙ ap (take v) (sym (drop-map number at w)))
      ∙ get_or-take v (drop at (map number w)) i (pos 0) within ∙ get_or-drop at (map number w) i (pos 0)

  -- outputs before a part that is written stay
  put-before : (a k : ℕ) (xs ys : List X) (n : ℕ) → n < a → a ≤ length xs → item (map number (put_mid a k xs ys)) n ≡ item (map number xs) n
  put-before a k xs ys n before within =
      sym (item-take (put_mid a k xs ys)) ∙ ap (λ zs. item (map number zs) n) (take-put_mid_below a k xs ys a (omega arith) within) ∙ item-take xs
    where
      item-take : (zs : List X) → item (map number (take a zs)) n ≡ item (map number zs) n
      item-take zs = ap (λ vs. item vs n) (sym (take-map number a zs)) ∙ get_or-take a (map number zs) n (pos 0) before

  -- and those in it are what was written there
  put-within : (a k e : ℕ) (xs ys : List X) (r : ℕ) → r < e - a → a ≤ length xs → length ys ≡ e - a → item (map number (put_mid a k xs ys)) (a + r) ≡ item (map number ys) r
  put-within a k e xs ys r below within long =
      sym (item-part (put_mid a k xs ys) a (e - a) r below) ∙ ap (λ zs. item (map number zs) r) (between-put_mid a k xs ys e within long)

-- a block among all blocks, where a call gives its size
pub block-within : (b count size l : ℕ) {n : ℕ} → b < count → size ≡ n → l ≡ n * count → b * size + size ≤ l
block-within b count size l {n} less same e = grind arith

-- the symbols of one block more
pub block-more :
    {X : Type 0} (number : X → ℤ) (m : model.Trellis) (is : IsTrellis m) (b count : ℕ) (items : List X) (out block : List ℕ) (from size at long : ℕ) →
    from ≡ b * (m.steps * m.outputs) → size ≡ m.steps * m.outputs → at ≡ b * m.steps → b < count → length out ≡ m.steps * count → length block ≡ m.steps →
    ((j : ℕ) → j < m.steps → slice_index_or block j 0 ≡ decoded m (map number (take size (drop from items))) 0 j) →
    ((j : ℕ) → j < b * m.steps → item (map pos out) j ≡ pos (decoded m (map number items) (j / m.steps * (m.steps * m.outputs)) (j % m.steps))) →
    (j : ℕ) → j < (b + 1) * m.steps → item (map pos (put_mid at long out block)) j ≡ pos (decoded m (map number items) (j / m.steps * (m.steps * m.outputs)) (j % m.steps))
block-more number m is b count items out block from size at long from_is size_is at_is less out_is block_is new old j h =
    elim (cases_lt j at) [
      | inl sooner ↦ put-before pos at long out block j sooner fits ∙ old j (omega (arith, sooner, at_is))
      | inr now ↦
          let r = j - at in
          let small : r < m.steps = omega (arith, now, h, at_is) in
          let here : j ≡ at + r = omega (arith, now) in
          let place : j ≡ b * m.steps + r = omega (arith, now, at_is) in
          ap (item (map pos (put_mid at long out block))) here
          ∙ put-within pos at long (at + m.steps) out block r (omega (arith, small)) fits (omega (arith, block_is))
          ∙ get_or-map pos block r 0 (pos 0) (omega (arith, small, block_is))
          ∙ ap pos (new r small ∙ decoded-same m is (map number (take size (drop from items))) (map number items) 0 (b * (m.steps * m.outputs)) same r)
          ∙ sym (ap (λ i. pos (decoded m (map number items) (i / m.steps * (m.steps * m.outputs)) (i % m.steps))) place
          ∙ (λ i. pos (decoded m (map number items) (div-mul-add b m.steps r small i * (m.steps * m.outputs)) (mod-mul-add b m.steps r small i))))
    ]
  where
    fits : at ≤ length out
    fits = let near = block-within b count m.steps (length out) less refl out_is in omega (arith, near, at_is)

    same : (i : ℕ) → i < m.steps * m.outputs → item (map number (take size (drop from items))) (0 + i) ≡ item (map number items) (b * (m.steps * m.outputs) + i)
    same i l =
        let none : 0 + i ≡ i = omega arith in
        ap (item (map number (take size (drop from items)))) none ∙ item-part number items from size i (omega (arith, l, size_is)) ∙ ap (λ n. item (map number items) (n + i)) from_is

pub all-blocks : (b count n : ℕ) → count ≤ b → n * count ≤ b * n
all-blocks b count n past = grind arith

module _ (t : ItemType) (m : model.Trellis) (is : IsTrellis m) (ts : List Held) (xs : List (List ℤ)) (first count state : ℕ) (w : List ℤ) (hs : List Held)
    (fed : IsFed (viterbi t m) ts xs first count state (w ∷ []) hs) where
  pace : IsPaced (viterbi t m) (m.steps * m.outputs) m.steps
  pace = paced _ _ (m.steps * m.outputs) m.steps 1 _ _ 0 _ (viterbi t m).out (some m.steps m.outputs is.some_steps is.some_outputs)
    where
      some : (n o : ℕ) → 1 ≤ n → 1 ≤ o → 1 ≤ n * o
      some n o h k = grind arith

  pub length-blocks : length w ≡ m.steps * m.outputs * count
  length-blocks = length-paced (viterbi t m) (m.steps * m.outputs) m.steps pace ts xs first count state w hs fed ∙ omega arith

  pub blocks-given :
      listed (m.steps * count) (λ k. pos (decoded m w (k / m.steps * (m.steps * m.outputs)) (k % m.steps))) ≡ given_items (viterbi t m) ts xs first count 0
  blocks-given =
      let taken = m.steps * m.outputs in
      let some : 1 ≤ m.steps = is.some_steps in
      given-paced (viterbi t m) taken m.steps pace ts xs first count state w hs fed 0 (m.steps * count) (λ k. pos (decoded m w (k / m.steps * taken) (k % m.steps))) refl
      (λ k h.
      let firing : (m.steps * first + k) / m.steps ≡ first + k / m.steps = mul-add-div some first k in
      ap pos
      (decoded-same m is w (input xs 0) (k / m.steps * taken) ((first + k / m.steps) * taken)
      (λ j l.
      item-paced (viterbi t m) taken m.steps pace ts xs first count state w hs fed refl (k / m.steps * taken + j)
      (item_of_firing taken count (k / m.steps) j l (div_below k m.steps count some (omega (arith, h))))
      ∙ ap (item (input xs 0)) (omega arith))
      (k % m.steps))
      ∙ sym (λ i. pos (decoded m (input xs 0) (firing i * taken) (mul-add-mod_self_left m.steps first k i))))
