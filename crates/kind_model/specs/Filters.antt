-- The filters with taps.
use Rattle.std.specs.Prelude.{ℕ, ◌+◌, ◌-◌, ◌*◌, ◌/◌, ◌%◌, ℤ, ◌*ℤ◌, List, length, Some}
use Rattle.stream_model.specs.declared.vocabulary.ItemType.{ItemType}
use Rattle.stream_model.specs.declared.vocabulary.Wanted.TheVariants as wanted
use Rattle.stream_model.specs.Numbers.{sat, rnd}
use Rattle.stream_model.specs.Settings.{Taps}
use Rattle.stream_model.specs.Lists.{item, item_before, sum_below}
use Rattle.stream_model.specs.Meaning.{Meaning, input}
use Rattle.stream_model.specs.Shapes.{ports, at_rate, taps_at}

-- the sum over j < count of h[first + j * step] * x[at - j], over 2 ^ shift, rounded and saturated, where a tap past
-- the end counts as 0 (textbook FIR; the rounding is own)
abbrev pub tapped : ItemType → List ℤ → ℕ → ℕ → ℕ → List ℤ → ℕ → ℕ → ℤ
tapped t h first step count x at shift = sat t (rnd (sum_below count
    (λ j. item h (first + j * step) *ℤ item_before x at j)) shift)

-- an FIR filter that gives one item for each `decimation` of its input (textbook FIR; GNU Radio manual: decimating FIR)
abbrev pub fir : ItemType → List ℤ → ℕ → ℕ → Meaning
fir t taps decimation shift =
    record (at_rate (ports 1 t) (ports 1 t) decimation 1) {
      history = length taps;
      setting = Some (wanted.Taps (length taps));
      own = Some (Taps taps);
      out = λ ts xs p n. tapped t (taps_at taps ts (n * decimation)) 0 1 (length taps) (input xs 0) (n * decimation)
          shift;
    }

-- how many taps each branch of an interpolating filter has at most: length / interpolation, rounded up
abbrev pub branch_taps : List ℤ → ℕ → ℕ
branch_taps taps interpolation = (length taps + interpolation - 1) / interpolation

-- an FIR filter that gives `interpolation` items for each of its input: output m * interpolation + p is branch p, the
-- taps p, p + interpolation, .., at item m (textbook polyphase interpolator)
abbrev pub interp_fir : ItemType → List ℤ → ℕ → ℕ → Meaning
interp_fir t taps interpolation shift =
    record (at_rate (ports 1 t) (ports 1 t) 1 interpolation) {
      history = branch_taps taps interpolation;
      setting = Some (wanted.Taps (length taps));
      own = Some (Taps taps);
      out = λ ts xs p n.
          let m = n / interpolation in
          tapped t (taps_at taps ts m) (n % interpolation) interpolation (branch_taps taps interpolation) (input xs 0) m
          shift;
    }
