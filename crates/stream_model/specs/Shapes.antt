-- What many kinds of block share: their ports, a rate, a setting of one number or of taps.
use Rattle.std.specs.Prelude.{ℕ, ◌*◌, ℤ, pos, List, [], Some, None}
use Rattle.stream_model.specs.declared.vocabulary.ItemType.{ItemType}
use Rattle.stream_model.specs.declared.vocabulary.Role.TheVariants as roles
use Rattle.stream_model.specs.declared.vocabulary.Signature.{Signature}
use Rattle.stream_model.specs.declared.vocabulary.Shift.TheVariants as shifts
use Rattle.stream_model.specs.declared.vocabulary.Wanted.{Wanted}
use Rattle.stream_model.specs.declared.vocabulary.Wanted.TheVariants as wanted
use Rattle.stream_model.specs.Numbers.{least_of, greatest_of}
use Rattle.stream_model.specs.Settings.{Value, Number, Taps, Held, in_force}
use Rattle.stream_model.specs.Tags.{place_at_rate}
use Rattle.stream_model.specs.Meaning.{Meaning}

-- exactly this many ports, all of them used (GNU Radio manual: io_signature)
abbrev pub ports : ℕ → ItemType → Signature
ports n t = record { least = n; most = n; item = t }

-- one port or more, without a limit of the kind's own (GNU Radio manual: io_signature; the limit of 16 is own)
abbrev pub any_ports : ItemType → Signature
any_ports t = record { least = 1; most = 16; item = t }

-- a block that takes d items of each input in a firing and gives i on each output, from the current items alone,
-- without a setting, a limit or a memory (GNU Radio manual: sync block, decimator, interpolator); each kind then gives
-- its equation
abbrev pub at_rate : Signature → Signature → ℕ → ℕ → Meaning
at_rate ins outs d i =
    record {
      role = roles.Work;
      inputs = ins;
      outputs = outs;
      rate = λ _. Some (d, i);
      shift = shifts.No;
      taken = λ _ k. d * k;
      given = λ k. i * k;
      place = λ _ s. place_at_rate d i s;
      limit = None;
      history = 1;
      setting = None;
      own = None;
      start = 0;
      word = λ _ _ _. 0;
      out = λ _ _ _ _. pos 0;
    }

-- one input and one output of these types, an item for an item
abbrev pub sync : ItemType → ItemType → Meaning
sync from to = at_rate (ports 1 from) (ports 1 to) 1 1

-- a setting of one number in the type's range
abbrev pub any_number : ItemType → Wanted
any_number t = wanted.Number (least_of t) (greatest_of t)

-- the number that a value sets; taps set none, which counts as 0
abbrev pub number_set : Value → ℤ
number_set (Number z) = z
number_set (Taps h) = pos 0

-- the taps that a value sets; a number sets none
abbrev pub taps_set : Value → List ℤ
taps_set (Number z) = []
taps_set (Taps h) = h

-- the number in force at an input item, where own is the block's own
abbrev pub number_at : ℤ → List Held → ℕ → ℤ
number_at own ts a = number_set (in_force (Number own) ts a)

-- the taps in force at an input item, where own are the block's own
abbrev pub taps_at : List ℤ → List Held → ℕ → List ℤ
taps_at own ts a = taps_set (in_force (Taps own) ts a)
