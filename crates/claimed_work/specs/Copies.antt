-- Empty places for the items of outputs.
use Rattle.std.specs.Prelude.{◌≡◌, ◌≤◌, [], List}
use Rattle.std.specs.List.{AllZip}
use Rattle.items.specs.declared.stream_items.Items.{Items}
use Rattle.items.specs.Items.{type_of, numbers_of, spare_of}

-- an empty place of the type of another, with no less room
pub record IsLike (copy output : Items) : Type 0 where
  pub item : type_of copy ≡ type_of output
  pub empty : numbers_of copy ≡ []
  pub room : spare_of output ≤ spare_of copy

abbrev pub AreLike : List Items → List Items → Type 0
AreLike copies outputs = AllZip IsLike copies outputs
