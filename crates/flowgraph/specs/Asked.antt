-- What is kept of blocks, so that they need not be asked again.
use Rattle.std.specs.Prelude.{ℕ, ◌≡◌, List, Some, length, slice_get}
use Rattle.stream_model.specs.Meaning.{Meaning}
use Rattle.stream_model.specs.Network.{Node}
use Rattle.block_trait.specs.declared.shape.Pace.{Pace}
use Rattle.block_trait.specs.Shape.{HasPace}
use Rattle.flowgraph.specs.declared.asked.Asked.{Asked}
use Rattle.flowgraph.specs.declared.parts.Entry.{Entry}
use Rattle.flowgraph.specs.Flowgraph.{node_of}

-- role, limit, types and multiple are those of a node, and each pace is that of its input
pub record IsAsked (n : Node) (a : Asked) : Type 0 where
  pub role : a.role ≡ n.meaning.role
  pub limit : a.limit ≡ n.meaning.limit
  pub taken : a.taken ≡ n.meaning.inputs.item
  pub given : a.given ≡ n.meaning.outputs.item
  pub multiple : a.multiple ≡ n.multiple
  pub paces : (p : ℕ) (pace : Pace) → slice_get a.paces.items p ≡ Some pace → HasPace n.meaning p pace

-- so it is for each block
pub record AreAsked {B : Type 0} (meaning : B → Meaning) (blocks : List (Entry B)) (all : List Asked) : Type 0 where
  pub count : length all ≡ length blocks
  pub are : (b : ℕ) (e : Entry B) (a : Asked) → slice_get blocks b ≡ Some e → slice_get all b ≡ Some a
      → IsAsked (node_of meaning e) a
