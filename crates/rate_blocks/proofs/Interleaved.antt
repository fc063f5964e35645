-- What the blocks write whose inputs or outputs have one item in a round.
use Rattle.std.proofs.Common.{◌≡◌, ℕ, suc, ◌+◌, ◌*◌, ◌/◌, ◌%◌, ◌<◌, ◌≤◌, ℤ, List, [], ◌∷◌, length, map, get_or, refl, arith, ap, ap₂, sym, ◌∙◌}
use Rattle.std.specs.Prelude.{All}
use Rattle.std.proofs.lemmas.List.{get_or_default}
use Rattle.std.proofs.lemmas.Nat.{div_below}
use Rattle.stream_model.specs.declared.vocabulary.ItemType.{ItemType}
use Rattle.stream_model.specs.Lists.{item, listed}
use Rattle.stream_model.specs.Settings.{Held}
use Rattle.stream_model.specs.Meaning.{IsFed, input, given_items}
use Rattle.kind_model.specs.Rates.{interleave, deinterleave}
use Rattle.kind_laws.specs.Rates.{item_of_firing}
use Rattle.block_trait.proofs.Fills.{listed-given}
use Rattle.block_trait.proofs.Inputs.{length-port, item-port}
use Rattle.lane_kernels.specs.Streams.{interleaved}
use Rattle.rate_blocks.proofs.Paced.{add-mul-div}
use Rattle.rate_blocks.proofs.Rounds.{if-less}

-- firings before do not change the place in a round
pub mod-add : (n first k : ℕ) → 1 ≤ n → (n * first + k) % n ≡ k % n
mod-add n first k some =
    let quotient : n * ((n * first + k) / n) ≡ n * (first + k / n) = ap (λ q. n * q) (add-mul-div n first k some ∙ omega arith) in
    omega (arith, quotient, some)

module _ (t : ItemType) (n : ℕ) (some : 1 ≤ n) (ts : List Held) (xs : List (List ℤ)) (first count state : ℕ) (hs : List Held) where
  length-interleaved :
      (ws : List (List ℤ)) → IsFed (interleave t n) ts xs first count state ws hs → (p : ℕ) → p < length ws → length (input ws p) ≡ count
  length-interleaved ws fed p h = length-port (interleave t n) ts xs first count state ws hs fed p 1 refl h (λ k. refl) ∙ omega arith

  pub all-interleaved : (ws : List (List ℤ)) → IsFed (interleave t n) ts xs first count state ws hs → All (λ w. length w ≡ count) ws
  all-interleaved ws fed p d h = ap length (get_or_default ws p d [] h) ∙ length-interleaved ws fed p h

  pub interleave-given :
      (ws : List (List ℤ)) → IsFed (interleave t n) ts xs first count state ws hs → length ws ≡ n → interleaved count ws ≡ given_items (interleave t n) ts xs first count 0
  interleave-given ws fed all =
      ap (λ m. listed (m * count) (λ k. item (input ws (k % m)) (k / m))) all
      ∙ listed-given (interleave t n) ts xs first count 0 (n * count) _ (omega arith) (λ k h.
      let port : k % n < n = omega (arith, some) in
      let there : k / n < 1 * count = div_below k n (1 * count) (omega (arith, some)) (omega (arith, h)) in
      item-port (interleave t n) ts xs first count state ws hs fed (k % n) 1 (k / n) refl (omega (arith, port, all)) (λ j. refl) there
      ∙ sym (λ i. item (input xs (mod-add n first k some i)) (add-mul-div n first k some i)))

  pub length-deinterleaved : (ws : List (List ℤ)) → IsFed (deinterleave t n) ts xs first count state ws hs → 0 < length ws → length (input ws 0) ≡ n * count
  length-deinterleaved ws fed there = length-port (deinterleave t n) ts xs first count state ws hs fed 0 n refl there (λ k. refl)

  pub deinterleave-given :
      (ws : List (List ℤ)) (p : ℕ) → IsFed (deinterleave t n) ts xs first count state ws hs → 0 < length ws → p < n →
      listed count (λ k. item (input ws 0) (k * n + p)) ≡ given_items (deinterleave t n) ts xs first count p
  deinterleave-given ws p fed there port =
      listed-given (deinterleave t n) ts xs first count p count _ (omega arith) (λ k h.
      item-port (deinterleave t n) ts xs first count state ws hs fed 0 n (k * n + p) refl there (λ j. refl) (item_of_firing n count k p port h)
      ∙ ap (item (input xs 0)) (omega arith)
      ∙ sym (if-less p n _ _ port))

-- a list that is made of another, element by element
pub ext_map :
    {X Y : Type 0} (f : X → Y) (out : List X) (ys : List Y) (y : Y) → length out ≡ length ys → ((p : ℕ) (d : X) → p < length out → f (get_or out p d) ≡ get_or ys p y) → map f out ≡ ys
ext_map f [] [] y e same = refl
ext_map f [] (z ∷ ys) y e same = absurd (omega arith)
ext_map f (x ∷ out) [] y e same = absurd (omega arith)
ext_map f (x ∷ out) (z ∷ ys) y e same = ap₂ ◌∷◌ (same 0 x (omega arith)) (ext_map f out ys y (omega arith) (λ p d h. same (suc p) d (omega arith)))
