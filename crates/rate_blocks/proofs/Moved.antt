-- What the blocks that move a stream write.
use Rattle.std.proofs.Common.{◌≡◌, ℕ, ◌+◌, ◌-◌, ◌*◌, ◌<◌, ◌≤◌, ℤ, pos, List, [], ◌∷◌, ◌++◌, length, length-append, replicate, slice_range, drop, arith, ap, sym, ◌∙◌, inl, inr}
use Rattle.std.proofs.lemmas.Bool.{cases_lt}
use Rattle.std.proofs.lemmas.Bool.Decides.{nat_tests}
use Rattle.std.proofs.lemmas.List.{get_or-take, get_or-drop, length-take-le, length-drop, get_or_append_left, get_or-append_right, get_or-replicate, length-replicate}
use Rattle.stream_model.specs.declared.vocabulary.ItemType.{ItemType}
use Rattle.stream_model.specs.Lists.{item, item_before}
use Rattle.stream_model.specs.Settings.{Held}
use Rattle.stream_model.specs.Meaning.{IsFed, input, given_items}
use Rattle.kind_model.specs.Rates.{head, skiphead, delay}
use Rattle.block_trait.proofs.Fills.{length-fill, item-fill, before-none, whole-given}

module _ (t : ItemType) (n : ℕ) (ts : List Held) (xs : List (List ℤ)) (first count state : ℕ) (w : List ℤ) (hs : List Held) where
  pub head-given : IsFed (head t n) ts xs first count state (w ∷ []) hs → w ≡ given_items (head t n) ts xs first count 0
  head-given fed =
      let long : length w ≡ 1 * (first + count) - 1 * first = length-fill (head t n) ts xs first count state w hs fed (omega arith) ∙ omega arith in
      whole-given (head t n) ts xs first count 0 w long
      (λ k h. item-fill (head t n) ts xs first count state w hs fed k (omega (arith, h, long)) ∙ before-none (input xs 0) (1 * first + k))

  -- what is left of the window
  sizes : (s l : ℕ) {m : ℕ} → m ≡ l - s → l ≡ first + count - first → ((n - first ≤ l → s ≡ n - first) × (l ≤ n - first → s ≡ l)) → m ≡ first + count - n - (first - n)
  sizes s l size long is =
      elim (cases_lt (n - first) l) [
        | inl less ↦ let e : s ≡ n - first = is.0 (omega arith) in omega (arith, size, long)
        | inr more ↦ let e : s ≡ l = is.1 more in omega (arith, size, long)
      ]

  -- and where it stands
  places_left : (s l k : ℕ) → k < l - s → ((n - first ≤ l → s ≡ n - first) × (l ≤ n - first → s ≡ l)) → first + (s + k) ≡ first - n + k + n
  places_left s l k near is =
      elim (cases_lt (n - first) l) [
        | inl less ↦ let e : s ≡ n - first = is.0 (omega arith) in omega arith
        | inr more ↦ let e : s ≡ l = is.1 more in omega arith
      ]

  pub skip-given : (s : ℕ) → IsFed (skiphead t n) ts xs first count state (w ∷ []) hs → ((n - first ≤ length w → s ≡ n - first) × (length w ≤ n - first → s ≡ length w)) → s ≤ length w → slice_range w s (length w) ≡ given_items (skiphead t n) ts xs first count 0
  skip-given s fed is few =
      let long : length w ≡ first + count - first = length-fill (skiphead t n) ts xs first count state w hs fed (omega arith) ∙ omega arith in
      let size : length (slice_range w s (length w)) ≡ length w - s = length-take-le (length w - s) (drop s w) (omega (arith, length-drop s w)) in
      whole-given (skiphead t n) ts xs first count 0 (slice_range w s (length w)) (sizes s (length w) size long is)
      (λ k h.
      let near : k < length w - s = omega (arith, h, size) in
      get_or-take (length w - s) (drop s w) k (pos 0) near ∙ get_or-drop s w k (pos 0)
      ∙ item-fill (skiphead t n) ts xs first count state w hs fed (s + k) (omega (arith, near, long))
      ∙ before-none (input xs 0) (first + (s + k))
      ∙ ap (item (input xs 0)) (places_left s (length w) k near is))

  pub delay-length : IsFed (delay t n) ts xs first count state (w ∷ []) hs → length w ≤ count
  delay-length fed = omega (arith, length-fill (delay t n) ts xs first count state w hs fed (omega arith))

  pub delay-given : (z : ℕ) → IsFed (delay t n) ts xs first count state (w ∷ []) hs → z + length w ≡ count → replicate z (pos 0) ++ w ≡ given_items (delay t n) ts xs first count 0
  delay-given z fed e =
      let long : length w ≡ first + count - n - (first - n) = length-fill (delay t n) ts xs first count state w hs fed (omega arith) ∙ omega arith in
      whole-given (delay t n) ts xs first count 0 (replicate z (pos 0) ++ w) (omega (arith, length-append (replicate z (pos 0)) w, length-replicate z (pos 0), e))
      (λ k h.
      let within : k < count = omega (arith, h, length-append (replicate z (pos 0)) w, length-replicate z (pos 0), e) in
      elim (cases_lt k z) [
        | inl zero_there ↦
            get_or_append_left (replicate z (pos 0)) w (pos 0) k (rw length-replicate zero_there)
            ∙ get_or-replicate z k (pos 0) (pos 0) zero_there
            ∙ sym (none (first + k) (omega (arith, long, e)))
        | inr item_there ↦
            get_or-append_right (replicate z (pos 0)) w z k (pos 0) (length-replicate z (pos 0)) item_there
            ∙ item-fill (delay t n) ts xs first count state w hs fed (k - z) (omega (arith, long, e))
            ∙ before-none (input xs 0) (first - n + (k - z))
            ∙ ap (item (input xs 0)) (omega (arith, long, e))
            ∙ sym (some (first + k) (omega (arith, long, e)))
      ])
    where
      none : (a : ℕ) → a < n → item_before (input xs 0) a n ≡ pos 0
      none a less = grind (arith, nat_tests)

      some : (a : ℕ) → n ≤ a → item_before (input xs 0) a n ≡ item (input xs 0) (a - n)
      some a more = grind (arith, nat_tests)
