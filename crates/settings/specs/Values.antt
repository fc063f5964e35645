-- Values of settings as the model has them.
use Rattle.std.specs.Prelude.{ℕ, Bool, true, false}
use Rattle.stream_model.specs.Settings as model
use Rattle.settings.specs.declared.value.Value.{Value}
use Rattle.settings.specs.declared.value.Value.TheVariants.{Number, Taps}
use Rattle.settings.specs.declared.value.Held.{Held}
use Rattle.settings.specs.Timelines.{held_at}

abbrev pub value_of : Value → model.Value
value_of (Number z) = model.Number z
value_of (Taps h) = model.Taps h

-- one number, and no taps
abbrev pub is_number : Value → Bool
is_number (Number z) = true
is_number (Taps h) = false

abbrev pub held_of : Held → model.Held
held_of h = held_at h.at (value_of h.value)

-- the setting of an entry of a map
abbrev pub placed : ℕ × Value → model.Held
placed e = held_at e.0 (value_of e.1)
