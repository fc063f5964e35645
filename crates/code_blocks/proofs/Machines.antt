-- Machines that go from state to state.
use Rattle.std.proofs.Common.{◌≡◌, ℕ, zero, suc, ◌+◌, ◌*◌, ◌/◌, ◌<◌, ◌≤◌, ℤ, pos, List, [], ◌∷◌, ◌++◌, length, map, get_or, refl, arith, ap, subst, sym, ◌∙◌}
use Rattle.std.specs.Prelude.{◌<ℤ◌, slice_index_or, unsigned_abs}
use Rattle.std.proofs.lemmas.Int.{ints}
use Rattle.std.proofs.lemmas.List.{get_or-map, get_or_default, length-map}
use Rattle.stream_model.specs.Lists.{numbers_from, item, listed}
use Rattle.stream_model.specs.Settings.{Held}
use Rattle.stream_model.specs.Meaning.{Meaning, IsFed, input, given_items}
use Rattle.kind_model.specs.Codes.{row_of, state_after, state_machine, IsMachine}
use Rattle.kind_laws.specs.Codes.{row_within}
use Rattle.block_trait.specs.Shape.{IsPaced}
use Rattle.block_trait.proofs.Fills.{paced, length-paced, item-paced, given-paced}
use Rattle.code_blocks.specs.Machines.{AreTables, given_from}

-- one item more of a list that is given item by item
mapped-push : (f : ℕ → ℤ) (a count : ℕ) → map f (numbers_from a (suc count)) ≡ map f (numbers_from a count) ++ f (a + count) ∷ []
mapped-push f a zero = ap (λ n. f n ∷ []) (omega arith)
mapped-push f a (suc count) = ap (λ zs. f a ∷ zs) (mapped-push f (a + 1) count ∙ ap (λ n. map f (numbers_from (a + 1) count) ++ f n ∷ []) (omega arith))

pub listed-push : (f : ℕ → ℤ) (count : ℕ) → listed (suc count) f ≡ listed count f ++ f count ∷ []
listed-push f count = mapped-push f 0 count ∙ ap (λ n. listed count f ++ f n ∷ []) (omega arith)

-- what is read at a place that is known otherwise
pub read-at : {X : Type 0} (xs : List X) (at place : ℕ) (d v : X) → at ≡ place → place < length xs → v ≡ get_or xs at v → v ≡ get_or xs place d
read-at xs at place d v same h is = is ∙ ap (λ k. get_or xs k v) same ∙ get_or_default xs place v d h

-- tables that are kept make a machine
unsigned_pos : (ns : List ℕ) → map unsigned_abs (map pos ns) ≡ ns
unsigned_pos [] = refl
unsigned_pos (n ∷ ns) = ap (λ ms. n ∷ ms) (unsigned_pos ns)

pub narrow-unsigned : (zs : List ℤ) (ns : List ℕ) → map pos ns ≡ zs → ns ≡ map unsigned_abs zs
narrow-unsigned zs ns e = sym (unsigned_pos ns) ∙ ap (map unsigned_abs) e

state-below : (a n : ℕ) → pos a <ℤ pos n → a < n
state-below a n h = omega (arith, ints, h)

machine-of : (symbols : ℕ) (next output : List ℕ) (start : ℕ) → AreTables symbols (map pos next) (map pos output) start → IsMachine symbols next (map pos output) start
machine-of symbols next output start are =
    let long : length (map pos next) ≡ length next = length-map next pos in
    record {
      some = are.symbols_are.0;
      few = subst (λ l. l ≤ 4096) long are.states_are.few;
      whole = subst (λ l. l / symbols * symbols ≡ l) long are.states_are.whole;
      states = λ k d h.
          state-below (get_or next k d) (length next / symbols)
          (subst (λ l. pos (get_or next k d) <ℤ pos (l / symbols)) long
          (subst (λ z. z <ℤ pos (length (map pos next) / symbols)) (get_or-map pos next k d (pos d) h) (are.states_are.states k (pos d) (omega (arith, h, long))).1));
      outputs = are.outputs_are.0 ∙ long;
      bytes = are.outputs_are.1;
      begins = subst (λ l. start < l / symbols) long are.begins;
    }

pub machine-of_tables :
    (symbols : ℕ) (zs ys : List ℤ) (start : ℕ) (next output : List ℕ) → map pos next ≡ zs → map pos output ≡ ys → AreTables symbols zs ys start → IsMachine symbols next (map pos output) start
machine-of_tables symbols zs ys start next output e g are =
    machine-of symbols next output start (subst (λ z. AreTables symbols z (map pos output) start) (sym e) (subst (λ y. AreTables symbols zs y start) (sym g) are))

-- a machine stays among its states
pub state-within :
    (symbols : ℕ) (next : List ℕ) (output : List ℤ) (start : ℕ) → IsMachine symbols next output start →
    (s : ℕ) (x : List ℤ) (n : ℕ) → s < length next / symbols → state_after symbols next s x n < length next / symbols
state-within symbols next output start is s x zero h = h
state-within symbols next output start is s x (suc n) h =
    is.states (row_of symbols (state_after symbols next s x n) (item x n)) 0
    (row_within symbols (state_after symbols next s x n) (item x n) (length next) is.some (state-within symbols next output start is s x n h))

-- and goes on from the state that it has reached
state-later :
    (symbols : ℕ) (next : List ℕ) (start : ℕ) (w x : List ℤ) (a n : ℕ) → ((k : ℕ) → k < n → item w k ≡ item x (a + k)) →
    state_after symbols next (state_after symbols next start x a) w n ≡ state_after symbols next start x (a + n)
state-later symbols next start w x a zero same = ap (state_after symbols next start x) (omega arith)
state-later symbols next start w x a (suc n) same =
    let before = state-later symbols next start w x a n (λ k h. same k (omega arith)) in
    let now = same n (omega arith) in
    let later : suc (a + n) ≡ a + suc n = omega arith in
    (λ i. slice_index_or next (row_of symbols (before i) (now i)) 0) ∙ ap (state_after symbols next start x) later

module _ (symbols : ℕ) (next : List ℕ) (output : List ℤ) (start : ℕ) (ts : List Held) (xs : List (List ℤ)) (first count state : ℕ) (w : List ℤ) (hs : List Held)
    (fed : IsFed (state_machine symbols next output start) ts xs first count state (w ∷ []) hs) where
  abbrev machine : Meaning
  machine = state_machine symbols next output start

  machine_pace : IsPaced machine 1 1
  machine_pace = paced _ _ 1 1 1 _ _ start machine.word machine.out (omega arith)

  pub length-taken : length w ≡ count
  length-taken = length-paced machine 1 1 machine_pace ts xs first count state w hs fed ∙ omega arith

  item-taken : (k : ℕ) → k < count → item w k ≡ item (input xs 0) (first + k)
  item-taken k h = item-paced machine 1 1 machine_pace ts xs first count state w hs fed refl k (omega (arith, h)) ∙ ap (item (input xs 0)) (omega arith)

  state-taken : (k : ℕ) → k ≤ count → state_after symbols next state w k ≡ state_after symbols next start (input xs 0) (first + k)
  state-taken k h = ap (λ s. state_after symbols next s w k) fed.state_is ∙ state-later symbols next start w (input xs 0) first k (λ j l. item-taken j (omega arith))

  pub machine-given : given_from symbols next output state w (length w) ≡ given_items machine ts xs first count 0
  machine-given =
      given-paced machine 1 1 machine_pace ts xs first count state w hs fed 0 (length w) (λ n. item output (row_of symbols (state_after symbols next state w n) (item w n))) (omega (arith, length-taken))
      (λ k h.
      let there : k < count = omega (arith, h, length-taken) in
      let reached = state-taken k (omega (arith, there)) in
      let now = item-taken k there in
      let place : first + k ≡ 1 * first + k = omega arith in
      (λ i. item output (row_of symbols (reached i) (now i)))
      ∙ ap (λ a. item output (row_of symbols (state_after symbols next start (input xs 0) a) (item (input xs 0) a))) place)

  pub machine-word : state_after symbols next state w (length w) ≡ machine.word ts xs (first + count)
  machine-word = state-taken (length w) (omega (arith, length-taken)) ∙ ap (λ l. state_after symbols next start (input xs 0) (first + l)) length-taken
