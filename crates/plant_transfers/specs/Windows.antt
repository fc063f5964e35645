-- The window of one input.
use Rattle.std.specs.Prelude.{◌≡◌, ℕ}
use Rattle.stream_model.specs.Network.{Network, node_at}
use Rattle.items.specs.declared.stream_items.Items.{Items}
use Rattle.items.specs.Items.{type_of, numbers_of}
use Rattle.plant_laws.specs.Stored.{Stored}
use Rattle.plant_laws.specs.Claims.{IsSeen, input_buffer, input_reader}
use Rattle.plant_storage.specs.Lending.{takes_between}

-- what the reader at input p sees with the items that firings from k up to the next ones take, in items of the block's
-- type
pub record IsWindow (net : Network) (stored : Stored) (b p k next : ℕ) (window : Items) : Type 0 where
  pub type : type_of window ≡ (node_at net b).meaning.inputs.item
  pub seen : IsSeen (input_buffer net stored b p).ring (input_reader net b p) (takes_between net b p k next)
      (numbers_of window)
