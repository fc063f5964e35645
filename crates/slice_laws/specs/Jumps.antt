-- Blocks that count from the start go on with another parameter.
use Rattle.std.specs.Prelude.{ℕ, ◌-◌, ◌≤◌}
use Rattle.stream_model.specs.declared.vocabulary.ItemType.{ItemType}
use Rattle.kind_model.specs.Rates.{head}
use Rattle.kind_model.specs.Bits.{register_of, shifted, additive_scrambler}
use Rattle.slice_laws.specs.Slices.{Resumes}

-- after c firings a head has c items fewer to pass
abbrev pub HeadsResume : Type 0
HeadsResume = (t : ItemType) (n c : ℕ) (right : ℕ → ℕ) (f : ℕ) → ((p : ℕ) → right p ≤ f)
    → Resumes (head t n) (head t (n - c)) c right f

-- after c firings an additive scrambler has the register that c steps make
abbrev pub AdditiveScramblersResume : Type 0
AdditiveScramblersResume =
    (bits mask init c : ℕ) (right : ℕ → ℕ) (f : ℕ) → 1 ≤ bits → ((p : ℕ) → right p ≤ f) →
    Resumes (additive_scrambler bits mask init) (additive_scrambler bits mask
    (register_of bits (shifted bits mask init c))) c right f
