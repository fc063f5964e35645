-- What the windows of a block with several inputs have, item by item. Each firing reads the current items alone.
use Rattle.std.proofs.Common.{◌≡◌, ℕ, zero, suc, ◌+◌, ◌-◌, ◌*◌, ◌<◌, ℤ, List, [], ◌∷◌, length, refl, arith, ap, ◌∙◌}
use Rattle.stream_model.specs.Lists.{item, item_before, window}
use Rattle.stream_model.specs.Settings.{Held}
use Rattle.stream_model.specs.Meaning.{Meaning, IsFed, input, windows_from}
use Rattle.shape_laws.specs.Windows.{item-window, length-window}
use Rattle.block_trait.proofs.Fills.{before-none}

-- there is a window for each input
length-windows : (m : Meaning) (p : ℕ) (xs : List (List ℤ)) (first n : ℕ) → length (windows_from m p xs first n) ≡ length xs
length-windows m p [] first n = refl
length-windows m p (x ∷ xs) first n = ap suc (length-windows m (suc p) xs first n)

-- and that of an input is cut from its stream
input-windows :
    (m : Meaning) (p q : ℕ) (xs : List (List ℤ)) (first n : ℕ) → q < length xs →
    input (windows_from m p xs first n) q ≡ window (input xs q) (m.history - 1) (m.taken (p + q) first) (m.taken (p + q) (first + n))
input-windows m p q [] first n h = absurd (omega arith)
input-windows m p zero (x ∷ xs) first n h = let e : p ≡ p + 0 = omega arith in λ i. window x (m.history - 1) (m.taken (e i) first) (m.taken (e i) (first + n))
input-windows m p (suc q) (x ∷ xs) first n h =
    let e : suc p + q ≡ p + suc q = omega arith in
    input-windows m (suc p) q xs first n (omega arith)
    ∙ (λ i. window (input xs q) (m.history - 1) (m.taken (e i) first) (m.taken (e i) (first + n)))

module _ (m : Meaning) (ts : List Held) (xs : List (List ℤ)) (first n state : ℕ) (ws : List (List ℤ)) (hs : List Held) (fed : IsFed m ts xs first n state ws hs) where
  pub length-inputs : length ws ≡ length xs
  length-inputs = ap length fed.windows_are ∙ length-windows m 0 xs first n

  window-port : (q : ℕ) → q < length xs → input ws q ≡ window (input xs q) (m.history - 1) (m.taken q first) (m.taken q (first + n))
  window-port q h = ap (λ (vs : List (List ℤ)). input vs q) fed.windows_are ∙ input-windows m 0 q xs first n h ∙ at_port
    where
      at_port : window (input xs q) (m.history - 1) (m.taken (0 + q) first) (m.taken (0 + q) (first + n)) ≡ window (input xs q) (m.history - 1) (m.taken q first) (m.taken q (first + n))
      at_port = let e : 0 + q ≡ q = omega arith in λ i. window (input xs q) (m.history - 1) (m.taken (e i) first) (m.taken (e i) (first + n))

  -- how many items a window has
  pub length-port : (q d : ℕ) → m.history ≡ 1 → q < length ws → ((k : ℕ) → m.taken q k ≡ d * k) → length (input ws q) ≡ d * n
  length-port q d one h takes =
      let there : q < length xs = omega (arith, length-inputs) in
      ap length (window-port q there)
      ∙ length-window (input xs q) (m.history - 1) (m.taken q first) (m.taken q (first + n)) (omega (arith, takes first, takes (first + n))) (fed.there q there)
      ∙ omega (arith, one, takes first, takes (first + n))

  -- item k of those that are taken
  pub item-port : (q d k : ℕ) → m.history ≡ 1 → q < length ws → ((k : ℕ) → m.taken q k ≡ d * k) → k < d * n → item (input ws q) k ≡ item (input xs q) (d * first + k)
  item-port q d k one h takes within =
      let none : m.history - 1 ≡ 0 = omega (arith, one) in
      ap (λ (v : List ℤ). item v k) (window-port q (omega (arith, length-inputs)))
      ∙ item-window (input xs q) (m.history - 1) (m.taken q first) (m.taken q (first + n)) k (omega (arith, one, takes first, takes (first + n)))
      ∙ before (input xs q) (m.taken q first + k) (m.history - 1) none
      ∙ ap (λ a. item (input xs q) (a + k)) (takes first)
    where
      before : (x : List ℤ) (a b : ℕ) → b ≡ 0 → item_before x a b ≡ item x a
      before x a b e = ap (item_before x a) e ∙ before-none x a
