-- What a call of `work` is given, and what it makes.
use Rattle.std.specs.Prelude.{◌≡◌, ℕ, ◌+◌, ◌^◌, ◌<◌, ◌≤◌, ℤ, List, [], map, length, All, slice_index_or}
use Rattle.stream_model.specs.declared.vocabulary.Role.{Role}
use Rattle.stream_model.specs.declared.vocabulary.Role.TheVariants.{Source, Work, Keep, Discard}
use Rattle.stream_model.specs.declared.vocabulary.Signature.{Signature}
use Rattle.stream_model.specs.Settings as model
use Rattle.stream_model.specs.Meaning.{Meaning, AreWanted, IsFed, given_outputs}
use Rattle.items.specs.declared.stream_items.Items.{Items}
use Rattle.items.specs.Items.{type_of, numbers_of, spare_of}
use Rattle.settings.specs.declared.value.Held.{Held}
use Rattle.settings.specs.Values.{held_of}

-- windows and settings as the model has them are those of the streams xs under the settings ts
abbrev pub IsWorkOf : Meaning → List model.Held → List (List ℤ) → ℕ → ℕ → ℕ → List Items → List Held → Type 0
IsWorkOf m ts xs first n state windows held = IsFed m ts xs first n state (map numbers_of windows) (map held_of held)

-- an empty place for what these firings give on one output
pub record IsReady (m : Meaning) (first n : ℕ) (out : Items) : Type 0 where
  pub item : type_of out ≡ m.outputs.item
  pub empty : numbers_of out ≡ []
  pub room : m.given (first + n) ≤ m.given first + spare_of out

-- how many windows a block is given at least and at most: a source has its tape in place of an input
abbrev pub least_windows : Role → Signature → ℕ
least_windows Source inputs = 1
least_windows Work inputs = inputs.least
least_windows Keep inputs = inputs.least
least_windows Discard inputs = inputs.least

abbrev pub most_windows : Role → Signature → ℕ
most_windows Source inputs = 1
most_windows Work inputs = inputs.most
most_windows Keep inputs = inputs.most
most_windows Discard inputs = inputs.most

-- what `work` may be called with: what comes from some streams and settings, where each value that was set is one that
-- the block takes, over counts that fit a word
pub record CanWork (m : Meaning) (first n state : ℕ) (windows : List Items) (held : List Held) (out : List Items) : Type
    0 where
  pub settings : List model.Held
  pub streams : List (List ℤ)
  pub fed : IsWorkOf m settings streams first n state windows held
  pub wanted : AreWanted m settings
  pub types : All (λ w. type_of w ≡ m.inputs.item) windows
  pub inputs_least : least_windows m.role m.inputs ≤ length windows
  pub inputs_most : length windows ≤ most_windows m.role m.inputs
  pub outputs_least : m.outputs.least ≤ length out
  pub outputs_most : length out ≤ m.outputs.most
  pub ready : All (IsReady m first n) out
  pub firings : first + n < 2 ^ 63
  pub takes : (p : ℕ) → p < length windows → m.taken p (first + n) < 2 ^ 63
  pub gives : m.given (first + n) < 2 ^ 63

-- what `work` has written: on each output exactly what the firings give, and no place has less room than before, with
-- what it now holds
pub record HasWorked (m : Meaning) (first n state : ℕ) (windows : List Items) (held : List Held) (old new : List Items)
    : Type 0 where
  pub items : (ts : List model.Held) (xs : List (List ℤ)) → IsWorkOf m ts xs first n state windows held
      → map numbers_of new ≡ given_outputs m ts xs first n (length old)
  pub types : map type_of new ≡ map type_of old
  pub room : (p : ℕ) (d : Items) → p < length old → spare_of (slice_index_or old p d) ≤ spare_of
      (slice_index_or new p d) + length (numbers_of (slice_index_or new p d))
