-- What the work of a block with one input and one output is given, and what it makes.
use Rattle.std.specs.Prelude.{◌≡◌, ◌+◌, ◌<◌, ◌^◌, ℤ, List, [], ◌∷◌, map}
use Rattle.stream_model.specs.Settings as model
use Rattle.stream_model.specs.Meaning.{Meaning, AreWanted, IsFed, given_items}
use Rattle.items.specs.declared.stream_items.Items.{Items}
use Rattle.items.specs.Items.{type_of, numbers_of}
use Rattle.settings.specs.Values.{held_of}
use Rattle.block_trait.specs.declared.single.Batch.{Batch}
use Rattle.block_trait.specs.Work.{least_windows, most_windows, IsReady}

-- one input, or the tape of a source, and one output
pub record IsSingle (m : Meaning) : Type 0 where
  pub in_least : least_windows m.role m.inputs ≡ 1
  pub in_most : most_windows m.role m.inputs ≡ 1
  pub out_least : m.outputs.least ≡ 1
  pub out_most : m.outputs.most ≡ 1

-- the window and the settings are those of the streams xs under the settings ts
abbrev pub IsFillOf : Meaning → List model.Held → List (List ℤ) → Batch → Type 0
IsFillOf m ts xs b = IsFed m ts xs b.first b.count b.state (numbers_of b.window.now ∷ []) (map held_of b.held.now)

-- what comes from some streams and settings, where each value that was set is one that the block takes, over counts
-- that fit a word
pub record CanFill (m : Meaning) (b : Batch) (out : Items) : Type 0 where
  pub settings : List model.Held
  pub streams : List (List ℤ)
  pub fed : IsFillOf m settings streams b
  pub wanted : AreWanted m settings
  pub item : type_of b.window.now ≡ m.inputs.item
  pub ready : IsReady m b.first b.count out
  pub firings : b.first + b.count < 2 ^ 63
  pub takes : m.taken 0 (b.first + b.count) < 2 ^ 63
  pub gives : m.given (b.first + b.count) < 2 ^ 63

-- exactly what the firings give
abbrev pub HasFilled : Meaning → Batch → Items → Type 0
HasFilled m b out = (ts : List model.Held) (xs : List (List ℤ)) → IsFillOf m ts xs b → numbers_of out
    ≡ given_items m ts xs b.first b.count 0
