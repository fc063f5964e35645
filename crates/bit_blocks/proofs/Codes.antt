-- Lemmas on codes that go on from byte to byte.
use Rattle.std.proofs.Common.{◌≡◌, ℕ, suc, ◌+◌, ◌-◌, ◌<◌, ◌≤◌, ℤ, pos, List, [], ◌∷◌, ◌++◌, length, map, take, get_or, refl, arith, ap, ap₂, subst, sym, ◌∙◌}
use Rattle.std.proofs.lemmas.List.{take_more, map-append}
use Rattle.stream_model.specs.Lists.{item, numbers_from}
use Rattle.stream_model.specs.Settings.{Held}
use Rattle.stream_model.specs.Meaning.{Meaning, IsFed, input, given_items}
use Rattle.items.specs.declared.stream_items.Items.{Items}
use Rattle.block_trait.specs.declared.single.Batch.{Batch}
use Rattle.block_trait.specs.Fill.{CanFill}
use Rattle.block_trait.specs.Shape.{IsPaced}
use Rattle.block_trait.proofs.Fills.{paced, there-fill, length-paced, item-paced}
use Rattle.bit_blocks.specs.Codes.{coded, word_after, IsCode, CanCode}

-- the numbers of the first bytes and one more
pub one_read : (bytes : List ℕ) (i : ℕ) → i < length bytes → map pos (take (i + 1) bytes) ≡ map pos (take i bytes) ++ pos (get_or bytes i 0) ∷ []
one_read bytes i within = ap (map pos) (take_more bytes i 0 within) ∙ map-append pos (take i bytes) (get_or bytes i 0 ∷ [])

module _ (gives next : ℕ → ℤ → ℕ) where
  -- one code behind the other
  pub coded-append : (word : ℕ) (ys zs : List ℤ) → coded gives next word (ys ++ zs) ≡ coded gives next word ys ++ coded gives next (word_after next word ys) zs
  coded-append word [] zs = refl
  coded-append word (y ∷ ys) zs = ap (λ us. pos (gives word y) ∷ us) (coded-append (next word y) ys zs)

  -- one byte more
  pub word_after-push : (word : ℕ) (zs : List ℤ) (z : ℤ) → word_after next word (zs ++ z ∷ []) ≡ next (word_after next word zs) z
  word_after-push word [] z = refl
  word_after-push word (y ∷ zs) z = word_after-push (next word y) zs z

  pub coded-push : (word : ℕ) (zs : List ℤ) (z : ℤ) → coded gives next word (zs ++ z ∷ []) ≡ coded gives next word zs ++ pos (gives (word_after next word zs) z) ∷ []
  coded-push word [] z = refl
  coded-push word (y ∷ zs) z = ap (λ ys. pos (gives word y) ∷ ys) (coded-push (next word y) zs z)

  -- where each step is that of a stream, so is the code
  pub coded-stream :
      (kept : ℕ → ℕ) (out x : ℕ → ℤ) (w : List ℤ) (a : ℕ) → ((k : ℕ) → k < length w → item w k ≡ x (a + k)) →
      ((k : ℕ) → k < length w → out (a + k) ≡ pos (gives (kept (a + k)) (x (a + k)))) → ((k : ℕ) → k < length w → kept (a + k + 1) ≡ next (kept (a + k)) (x (a + k))) →
      (coded gives next (kept a) w ≡ map out (numbers_from a (length w))) × (word_after next (kept a) w ≡ kept (a + length w))
  coded-stream kept out x [] a items outs words = (refl, ap kept (omega arith))
  coded-stream kept out x (z ∷ w) a items outs words =
      let here : a + 0 ≡ a = omega arith in
      let z_is : z ≡ x a = items 0 (omega arith) ∙ ap x here in
      let out_is : out a ≡ pos (gives (kept a) (x a)) = rw here at (outs 0 (omega arith)) in
      let next_is : kept (a + 1) ≡ next (kept a) (x a) = ap kept (omega arith) ∙ words 0 (omega arith) ∙ (λ i. next (kept (here i)) (x (here i))) in
      let step : next (kept a) z ≡ kept (a + 1) = ap (next (kept a)) z_is ∙ sym next_is in
      let rest = coded-stream kept out x w (a + 1)
      (λ k h. items (suc k) (omega arith) ∙ ap x (omega arith))
      (λ k h. let e : a + suc k ≡ a + 1 + k = omega arith in rw e at (outs (suc k) (omega arith)))
      (λ k h. let e : a + suc k ≡ a + 1 + k = omega arith in rw e at (words (suc k) (omega arith))) in (
        ap₂ ◌∷◌ (ap (λ y. pos (gives (kept a) y)) z_is ∙ sym out_is) (ap (λ v. coded gives next v w) step ∙ rest.0),
        ap (λ v. word_after next v w) step ∙ rest.1 ∙ ap kept (omega arith),
      )

module _ {m : Meaning} {start : ℕ} {is_word : ℕ → Type 0} {gives next : ℕ → ℤ → ℕ} (is : IsCode m start is_word gives next) where
  one : m.history ≡ 1
  one = ap (λ (m : Meaning). m.history) is.of_bytes

  pace : IsPaced m 1 1
  pace = subst (λ m. IsPaced m 1 1) (sym is.of_bytes) (paced _ _ 1 1 1 _ _ start m.word m.out (omega arith))

  long : {ts : List Held} {xs : List (List ℤ)} {first n state : ℕ} {w : List ℤ} {hs : List Held} → IsFed m ts xs first n state (w ∷ []) hs → length w ≡ n
  long {ts} {xs} {first} {n} {state} {w} {hs} fed = length-paced m 1 1 pace ts xs first n state w hs fed ∙ omega (arith, one)

  -- what is lent to such a block is room for its code
  pub code-can : {b : Batch} {out : Items} → CanFill m b out → CanCode b.window.now out
  code-can {b} can =
      record {
        from = can.item ∙ ap (λ (m : Meaning). m.inputs.item) is.of_bytes;
        to = can.ready.item ∙ ap (λ (m : Meaning). m.outputs.item) is.of_bytes;
        empty = can.ready.empty;
        room = omega (arith, long can.fed, can.ready.room, pace.given b.first, pace.given (b.first + b.count));
      }

module _ {m : Meaning} {start : ℕ} {is_word : ℕ → Type 0} {gives next : ℕ → ℤ → ℕ} (is : IsCode m start is_word gives next)
    {ts : List Held} {xs : List (List ℤ)} {first n state : ℕ} {w : List ℤ} {hs : List Held} (fed : IsFed m ts xs first n state (w ∷ []) hs) where
  within : first + n ≤ length (input xs 0)
  within = omega (arith, there-fill m ts xs first n state w hs fed, (pace is).taken 0 (first + n))

  stream : (coded gives next (m.word ts xs first) w ≡ map (m.out ts xs 0) (numbers_from first (length w))) × (word_after next (m.word ts xs first) w ≡ m.word ts xs (first + length w))
  stream =
      coded-stream gives next (m.word ts xs) (m.out ts xs 0) (item (input xs 0)) w first
      (λ k h. item-paced m 1 1 (pace is) ts xs first n state w hs fed (one is) k (omega (arith, h, long is fed)) ∙ ap (item (input xs 0)) (omega arith))
      (λ k h. is.given ts xs (first + k) (omega (arith, h, long is fed, within)))
      (λ k h. is.stepped ts xs (first + k) (omega (arith, h, long is fed, within)))

  -- the code is what the firings give
  pub code-given : coded gives next state w ≡ given_items m ts xs first n 0
  code-given =
      let from : first ≡ m.given first = omega (arith, (pace is).given first) in
      let more : length w ≡ m.given (first + n) - m.given first = omega (arith, long is fed, (pace is).given first, (pace is).given (first + n)) in
      ap (λ v. coded gives next v w) fed.state_is ∙ stream.0 ∙ (λ i. map (m.out ts xs 0) (numbers_from (from i) (more i)))

  pub code-word : word_after next state w ≡ m.word ts xs (first + n)
  code-word = ap (λ v. word_after next v w) fed.state_is ∙ stream.1 ∙ ap (λ l. m.word ts xs (first + l)) (long is fed)

  pub code-state : is_word state
  code-state = subst is_word (sym fed.state_is) (is.words ts xs first)
