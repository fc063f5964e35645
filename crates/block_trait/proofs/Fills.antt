-- What the window of a block with one input has, and what is to be written, item by item.
use Rattle.std.proofs.Common.{◌≡◌, ℕ, zero, suc, ◌+◌, ◌-◌, ◌*◌, ◌<◌, ◌≤◌, ℤ, pos, List, [], ◌∷◌, Option, length, map, refl, arith, ap, ap₂, sym, ◌∙◌}
use Rattle.std.proofs.lemmas.Bool.Decides.{nat_tests}
use Rattle.stream_model.specs.Lists.{item, item_before, window, numbers_from, listed}
use Rattle.stream_model.specs.Settings.{Held, Value}
use Rattle.stream_model.specs.Meaning.{Meaning, IsFed, input, windows_of, given_items}
use Rattle.stream_model.specs.declared.vocabulary.Signature.{Signature}
use Rattle.stream_model.specs.declared.vocabulary.Wanted.{Wanted}
use Rattle.std.proofs.lemmas.List.{ext_get_or}
use Rattle.shape_laws.specs.Shaped.{shaped, item-listed, length-listed}
use Rattle.shape_laws.specs.Windows.{item-window, length-window, past-window}
use Rattle.block_trait.specs.Shape.{IsPaced}

-- items that are given one by one, and those that firings give
numbered : (f g : ℕ → ℤ) (a b count : ℕ) → ((k : ℕ) → k < count → f (a + k) ≡ g (b + k)) → map f (numbers_from a count) ≡ map g (numbers_from b count)
numbered f g a b zero same = refl
numbered f g a b (suc count) same =
    let here : f a ≡ g b = ap f (omega arith) ∙ same 0 (omega arith) ∙ ap g (omega arith) in
    ap₂ ◌∷◌ here (numbered f g (a + 1) (b + 1) count (λ k h. ap f (omega arith) ∙ same (suc k) (omega arith) ∙ ap g (omega arith)))

pub listed-given :
    (m : Meaning) (ts : List Held) (xs : List (List ℤ)) (first n p count : ℕ) (f : ℕ → ℤ) → count ≡ m.given (first + n) - m.given first →
    ((k : ℕ) → k < count → f k ≡ m.out ts xs p (m.given first + k)) → listed count f ≡ given_items m ts xs first n p
listed-given m ts xs first n p count f e same =
    numbered f (m.out ts xs p) 0 (m.given first) count (λ k h. ap f (omega arith) ∙ same k h)
    ∙ ap (λ c. map (m.out ts xs p) (numbers_from (m.given first) c)) e

-- the only window
only_window : (m : Meaning) (xs : List (List ℤ)) (w : List ℤ) (first n : ℕ) → (w ∷ []) ≡ windows_of m xs first n →
    (0 < length xs) × (w ≡ window (input xs 0) (m.history - 1) (m.taken 0 first) (m.taken 0 (first + n)))
only_window m [] w first n are = (cc)
only_window m (x ∷ xs) w first n are = (omega arith, cc)

module _ (m : Meaning) (ts : List Held) (xs : List (List ℤ)) (first n state : ℕ) (w : List ℤ) (hs : List Held) (fed : IsFed m ts xs first n state (w ∷ []) hs) where
  is_window : w ≡ window (input xs 0) (m.history - 1) (m.taken 0 first) (m.taken 0 (first + n))
  is_window = (only_window m xs w first n fed.windows_are).1

  pub there-fill : m.taken 0 (first + n) ≤ length (input xs 0)
  there-fill = fed.there 0 (only_window m xs w first n fed.windows_are).0

  -- at any pace
  pub length-fill : m.taken 0 first ≤ m.taken 0 (first + n) → length w ≡ m.history - 1 + m.taken 0 (first + n) - m.taken 0 first
  length-fill rises = ap length is_window ∙ length-window (input xs 0) (m.history - 1) (m.taken 0 first) (m.taken 0 (first + n)) rises there-fill

  pub item-fill : (k : ℕ) → k < m.history - 1 + m.taken 0 (first + n) - m.taken 0 first → item w k ≡ item_before (input xs 0) (m.taken 0 first + k) (m.history - 1)
  item-fill k h = ap (λ (v : List ℤ). item v k) is_window ∙ item-window (input xs 0) (m.history - 1) (m.taken 0 first) (m.taken 0 (first + n)) k h

  pub past-fill : (k j : ℕ) → j ≤ m.history - 1 → m.taken 0 first + k < m.taken 0 (first + n) → item w (m.history - 1 + k - j) ≡ item_before (input xs 0) (m.taken 0 first + k) j
  past-fill k j close within = ap (λ (v : List ℤ). item v (m.history - 1 + k - j)) is_window ∙ past-window (input xs 0) (m.history - 1) (m.taken 0 first) (m.taken 0 (first + n)) k j close within

-- what stands no item before an item is the item
pub before-none : (x : List ℤ) (n : ℕ) → item_before x n 0 ≡ item x n
before-none x n = grind (arith, nat_tests)

-- of a block at a rate
module _ (m : Meaning) (d i : ℕ) (paced : IsPaced m d i) (ts : List Held) (xs : List (List ℤ)) (first n state : ℕ) (w : List ℤ) (hs : List Held) (fed : IsFed m ts xs first n state (w ∷ []) hs) where
  from : m.taken 0 first ≡ d * first
  from = paced.taken 0 first

  to : m.taken 0 (first + n) ≡ d * first + d * n
  to = paced.taken 0 (first + n) ∙ omega arith

  pub length-paced : length w ≡ m.history - 1 + d * n
  length-paced = length-fill m ts xs first n state w hs fed (omega (arith, from, to)) ∙ omega (arith, from, to)

  -- what stands j before item k of those that are taken
  pub past-paced : (k j : ℕ) → j ≤ m.history - 1 → k < d * n → item w (m.history - 1 + k - j) ≡ item_before (input xs 0) (d * first + k) j
  past-paced k j close within =
      past-fill m ts xs first n state w hs fed k j close (omega (arith, from, to))
      ∙ ap (λ a. item_before (input xs 0) (a + k) j) from

  -- item k of those that are taken
  pub item-paced : m.history ≡ 1 → (k : ℕ) → k < d * n → item w k ≡ item (input xs 0) (d * first + k)
  item-paced one k within = ap (item w) (omega (arith, one)) ∙ past-paced k 0 (omega arith) within ∙ before-none (input xs 0) (d * first + k)

  pub given-paced : (p count : ℕ) (f : ℕ → ℤ) → count ≡ i * n → ((k : ℕ) → k < count → f k ≡ m.out ts xs p (i * first + k)) → listed count f ≡ given_items m ts xs first n p
  given-paced p count f e same =
      listed-given m ts xs first n p count f (omega (arith, e, paced.given first, paced.given (first + n)))
      (λ k h. same k h ∙ ap (λ a. m.out ts xs p (a + k)) (sym (paced.given first)))

-- an item for an item, each made of the one at its place
pub each-given :
    (m : Meaning) (paced : IsPaced m 1 1) (one : m.history ≡ 1) (ts : List Held) (xs : List (List ℤ)) (first n state : ℕ) (w : List ℤ) (hs : List Held) (g : ℕ → ℤ → ℤ) →
    ((a : ℕ) → first ≤ a → a < first + n → m.out ts xs 0 a ≡ g a (item (input xs 0) a)) →
    IsFed m ts xs first n state (w ∷ []) hs → (count : ℕ) → count ≡ n → listed count (λ k. g (first + k) (item w k)) ≡ given_items m ts xs first n 0
each-given m paced one ts xs first n state w hs g gives fed count e =
    given-paced m 1 1 paced ts xs first n state w hs fed 0 count (λ k. g (first + k) (item w k)) (omega (arith, e))
    (λ k h.
    let place : 1 * first + k ≡ first + k = omega arith in
    ap (g (first + k)) (item-paced m 1 1 paced ts xs first n state w hs fed one k (omega arith) ∙ ap (item (input xs 0)) place)
    ∙ sym (gives (first + k) (omega arith) (omega arith))
    ∙ ap (m.out ts xs 0) (sym place))

-- the kinds at a rate have their pace
pub paced :
    (ins outs : Signature) (d i back : ℕ) (set : Option Wanted) (mine : Option Value) (begin : ℕ) (kept : List Held → List (List ℤ) → ℕ → ℕ)
    (gives : List Held → List (List ℤ) → ℕ → ℕ → ℤ) → 1 ≤ d → IsPaced (shaped ins outs d i back set mine begin kept gives) d i
paced ins outs d i back set mine begin kept gives some =
    record { some = some; rate = λ p. refl; shift = refl; taken = λ p k. refl; given = λ k. refl; place = λ p s. refl }

-- a list is what firings give where each of its items is
whole-listed : (ys : List ℤ) → ys ≡ listed (length ys) (item ys)
whole-listed ys = ext_get_or (pos 0) _ _ (sym (length-listed (length ys) (item ys))) (λ k h. sym (item-listed (length ys) (item ys) k h))

pub whole-given :
    (m : Meaning) (ts : List Held) (xs : List (List ℤ)) (first n p : ℕ) (ys : List ℤ) → length ys ≡ m.given (first + n) - m.given first →
    ((k : ℕ) → k < length ys → item ys k ≡ m.out ts xs p (m.given first + k)) → ys ≡ given_items m ts xs first n p
whole-given m ts xs first n p ys e same = whole-listed ys ∙ listed-given m ts xs first n p (length ys) (item ys) e same

-- of an item for an item, where each is made of the one at its place alone
pub plain-given :
    (m : Meaning) (paced : IsPaced m 1 1) (one : m.history ≡ 1) (ts : List Held) (xs : List (List ℤ)) (first n state : ℕ) (w : List ℤ) (hs : List Held) (g : ℤ → ℤ) →
    ((a : ℕ) → m.out ts xs 0 a ≡ g (item (input xs 0) a)) → IsFed m ts xs first n state (w ∷ []) hs → listed (length w) (λ k. g (item w k)) ≡ given_items m ts xs first n 0
plain-given m paced one ts xs first n state w hs g gives fed =
    each-given m paced one ts xs first n state w hs (λ a. g) (λ a low high. gives a) fed (length w)
    (length-paced m 1 1 paced ts xs first n state w hs fed ∙ omega (arith, one))
