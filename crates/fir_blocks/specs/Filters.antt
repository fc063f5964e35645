-- Equations as polyphase filters.
use Rattle.std.specs.Prelude.{◌≡◌, ℕ, ◌*◌, ◌/◌, ◌%◌, ℤ, List, length, Some}
use Rattle.stream_model.specs.declared.vocabulary.ItemType.{ItemType}
use Rattle.stream_model.specs.declared.vocabulary.Wanted.TheVariants as wanted
use Rattle.stream_model.specs.Settings.{Held, Taps}
use Rattle.stream_model.specs.Meaning.{Meaning, input}
use Rattle.stream_model.specs.Shapes.{ports, at_rate, taps_at}
use Rattle.kind_model.specs.Filters.{tapped}
use Rattle.fir_blocks.specs.declared.polyphase.Polyphase.{Polyphase}

-- a block with these taps, of which each item is what the filter gives under the taps in force
pub record IsFilter (m : Meaning) (t : ItemType) (taps : List ℤ) (f : Polyphase) : Type 0 where
  pub shaped : m ≡ record (at_rate (ports 1 t) (ports 1 t) f.taken f.given) {
    history = f.branch;
    setting = Some (wanted.Taps (length taps));
    own = Some (Taps taps);
    out = m.out;
  }
  pub each : (ts : List Held) (xs : List (List ℤ)) (a : ℕ) → m.out ts xs 0 a
      ≡ tapped t (taps_at taps ts (f.taken * (a / f.given))) (a % f.given) f.given f.branch (input xs 0)
      (f.taken * (a / f.given)) f.shift
