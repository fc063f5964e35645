-- Filters with taps settle.
use Rattle.std.specs.Prelude.{ℕ, ◌+◌, ◌-◌, ◌*◌, ◌/◌, ◌%◌, ◌≤◌, ◌≡◌, ℤ, List, length, ◌*ℤ◌}
use Rattle.std.proofs.Common.{◌∙◌, ap, ap₂, arith}
use Rattle.std.proofs.Math.Nat.{mul-le-mul_left}
use Rattle.stream_model.specs.declared.vocabulary.ItemType.{ItemType}
use Rattle.stream_model.specs.Lists.{item}
use Rattle.stream_model.specs.Meaning.{input}
use Rattle.stream_model.specs.Numbers.{sat, rnd}
use Rattle.stream_model.specs.Settings.{Taps, in_force}
use Rattle.stream_model.specs.Shapes.{taps_set}
use Rattle.kind_model.specs.Filters.{tapped, branch_taps, interp_fir, fir}
use Rattle.shape_laws.specs.Shaped.{sum_below-same}
use Rattle.slice_laws.specs.Slices.{Settles}
use Rattle.slice_laws.proofs.Shapes.{shaped-settles, IsRest, past-rest, div-later, mod-later, div-at}

-- the same taps over what is left
pub tapped-rest :
    (t : ItemType) (g h : List ℤ) (first step count : ℕ) (x y : List ℤ) (c r at shift : ℕ) → g ≡ h → IsRest x y c r → r + (count - 1) ≤ at →
    tapped t g first step count x (c + at) shift ≡ tapped t h first step count y at shift
tapped-rest t g h first step count x y c r at shift taps same there =
    ap (λ (z : ℤ). sat t (rnd z shift))
    (sum_below-same count _ _ (λ j l. ap₂ ◌*ℤ◌ (ap (λ (z : List ℤ). item z (first + j * step)) taps) (past-rest x y c r at j same (omega arith))))

pub fir-settles : (t : ItemType) (taps : List ℤ) (decimation shift : ℕ) (right : ℕ → ℕ) (f : ℕ) → ((p : ℕ) → right p + (length taps - 1) ≤ decimation * f) → Settles (fir t taps decimation shift) right f
fir-settles t taps decimation shift right f reached =
    shaped-settles _ _ decimation 1 _ _ _ _ _ _ right f (λ p. let r = reached p in omega arith)
    (λ ts us xs ys k p n settings inputs h.
    let h' : f ≤ n = omega arith in
    let le : decimation * f ≤ decimation * n = mul-le-mul_left decimation h' in
    let r = reached 0 in
    let e : (1 * k + n) * decimation ≡ decimation * k + n * decimation = omega arith in
    ap (λ at. tapped t (taps_set (in_force (Taps taps) ts at)) 0 1 (length taps) (input xs 0) at shift) e
    ∙ tapped-rest t _ _ 0 1 (length taps) (input xs 0) (input ys 0) (decimation * k) (right 0) (n * decimation) shift (ap taps_set (settings (n * decimation))) (inputs.items 0) (omega arith))

pub interp_fir-settles : (t : ItemType) (taps : List ℤ) (interpolation shift : ℕ) (right : ℕ → ℕ) (f : ℕ) → 1 ≤ interpolation → ((p : ℕ) → right p + (branch_taps taps interpolation - 1) ≤ f) →
    Settles (interp_fir t taps interpolation shift) right f
interp_fir-settles t taps interpolation shift right f some reached =
    shaped-settles _ _ 1 interpolation _ _ _ _ _ _ right f (λ p. let r = reached p in omega arith)
    (λ ts us xs ys k p n settings inputs h.
    let at : f ≤ n / interpolation = div-at interpolation f n some h in
    let r = reached 0 in
    let e : (interpolation * k + n) / interpolation ≡ 1 * k + n / interpolation = div-later interpolation k n some ∙ omega arith in
    ap₂ (λ a b. tapped t (taps_set (in_force (Taps taps) ts a)) b interpolation (branch_taps taps interpolation) (input xs 0) a shift) e (mod-later interpolation k n)
    ∙ tapped-rest t _ _ (n % interpolation) interpolation (branch_taps taps interpolation) (input xs 0) (input ys 0) (1 * k) (right 0) (n / interpolation) shift (ap taps_set (settings (n / interpolation))) (inputs.items 0) (omega arith))
