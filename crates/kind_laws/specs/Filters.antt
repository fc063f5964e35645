-- The filters with taps are lawful.
use Rattle.std.specs.Prelude.{ℕ, ◌+◌, ◌-◌, ◌*◌, ◌/◌, ◌%◌, ◌<◌, ◌≤◌, ◌≡◌, ℤ, ◌*ℤ◌, List, length, take, refl}
use Rattle.std.proofs.Common.{ap, ap₂, arith}
use Rattle.std.proofs.lemmas.Nat.{le-div, div_below}
use Rattle.stream_model.specs.declared.vocabulary.ItemType.{ItemType}
use Rattle.stream_model.specs.Numbers.{sat, rnd}
use Rattle.stream_model.specs.Lists.{item}
use Rattle.stream_model.specs.Meaning.{input, IsLawful}
use Rattle.stream_model.specs.Shapes.{taps_set}
use Rattle.kind_model.specs.Filters.{tapped, fir, branch_taps, interp_fir}
use Rattle.shape_laws.specs.Shaped.{IsItem-sat, past-same, sum_below-same, IsRate, shaped-lawful}

-- the same taps over items that agree
pub tapped-same :
    (t : ItemType) (g h : List ℤ) (first step count : ℕ) (x y : List ℤ) (k at shift : ℕ) → g ≡ h → take k x ≡ take k y
    → at < k →
    tapped t g first step count x at shift ≡ tapped t h first step count y at shift
tapped-same t g h first step count x y k at shift taps items there =
    ap (λ (z : ℤ). sat t (rnd z shift))
    (sum_below-same count _ _ (λ j l. ap₂ ◌*ℤ◌ (ap (λ (z : List ℤ). item z (first + j * step)) taps)
    (past-same x y k at j items there)))

-- firing n takes its first item within the first firings
pub first_item_less : (d k n : ℕ) → 1 ≤ d → n < k → n * d < d * k
first_item_less d k n some h = grind arith

pub fir-lawful : (t : ItemType) (taps : List ℤ) (decimation shift : ℕ) → 1 ≤ length taps → 1 ≤ decimation
    → decimation ≤ 1024 → IsLawful (fir t taps decimation shift)
fir-lawful t taps decimation shift some low high =
    shaped-lawful _ _ _ _ _ _ _ _ _ _ rate (omega arith) some refl (λ ts xs. refl)
    (λ ts xs p n h. IsItem-sat t _)
    (λ ts us xs ys k p n settings inputs h.
    let there : n * decimation < decimation * k = first_item_less decimation k n low (omega arith) in
    tapped-same t _ _ 0 1 (length taps) (input xs 0) (input ys 0) (decimation * k) (n * decimation) shift
    (ap taps_set (settings (n * decimation) there)) (inputs.items 0) there)
    (λ ts us xs ys k settings inputs. refl)
  where
    rate : IsRate decimation 1
    rate = record { takes_some = low; takes_few = high; gives_some = omega arith; gives_few = omega arith }

pub interp_fir-lawful : (t : ItemType) (taps : List ℤ) (interpolation shift : ℕ) → 1 ≤ length taps → 1 ≤ interpolation
    → interpolation ≤ 1024 → IsLawful (interp_fir t taps interpolation shift)
interp_fir-lawful t taps interpolation shift some low high =
    shaped-lawful _ _ _ _ _ _ _ _ _ _ rate (omega arith) (le-div 1 (length taps + interpolation - 1) interpolation
    (omega arith) (omega arith)) refl (λ ts xs. refl)
    (λ ts xs p n h. IsItem-sat t _)
    (λ ts us xs ys k p n settings inputs h.
    let there : n / interpolation < 1 * k = div_below n interpolation (1 * k) (omega arith) (omega arith) in
    tapped-same t _ _ (n % interpolation) interpolation (branch_taps taps interpolation) (input xs 0) (input ys 0)
    (1 * k) (n / interpolation) shift (ap taps_set (settings (n / interpolation) there)) (inputs.items 0) there)
    (λ ts us xs ys k settings inputs. refl)
  where
    rate : IsRate 1 interpolation
    rate = record { takes_some = omega arith; takes_few = omega arith; gives_some = low; gives_few = high }
