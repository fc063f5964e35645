-- From which firing on each block of a network gives what it would have given, or has the tags that it would have had.
use Rattle.std.specs.Prelude.{ℕ, ◌+◌, ◌*◌, ◌<◌, ◌≤◌, ◌≡◌, List, length, map, sum, Bool, true, false, All, slice_index, slice_index_or}
use Rattle.stream_model.specs.Firings.{taken_at}
use Rattle.stream_model.specs.Network.{Network, Connection, node_at}
use Rattle.flowgraph.specs.Flowgraph.{Flowgraph}
use Rattle.slice_laws.specs.Slices.{settled}
use Rattle.slices.specs.declared.look_back.LookBack.{LookBack}
use Rattle.slices.specs.declared.look_back.LookBack.TheVariants.{Items}
use Rattle.slices.specs.declared.TheConstants.{MOST_FIRINGS}
use Rattle.slices.specs.declared.reach.Reach.{Reach}
use Rattle.slices.specs.Reaches.{reach_at, needs}

-- how far back each block of a graph looks
abbrev pub looks_of : {B : Type 0} → (B → LookBack) → Flowgraph B → List LookBack
looks_of look g = map (λ e. look e.block) g.blocks

abbrev pub look_at : List LookBack → ℕ → LookBack
look_at ls b = slice_index_or ls b (Items 0)

-- the firings of a list as a function of the block
abbrev pub firing_at : List ℕ → ℕ → ℕ
firing_at first b = slice_index first b

-- firing x of the reader of a connection looks at nothing before the item from which on its writer is right
abbrev pub IsEnough : Network → List Reach → (ℕ → ℕ) → Connection → ℕ → Type 0
IsEnough net rs f c x = needs (reach_at rs c.to).back (settled net f c.from) ≤ taken_at
    ((node_at net c.to).meaning.rate c.in_port) * x

-- the firings f are far enough: behind those that cannot be right, and along each connection
pub record AreFar (net : Network) (rs : List Reach) (f : ℕ → ℕ) : Type 0 where
  pub past : (b : ℕ) → b < length net.nodes → (reach_at rs b).start ≤ f b
  pub enough : All (λ c. IsEnough net rs f c (f c.to)) net.connections

-- no firings that are far enough come early enough
abbrev pub AreLate : Network → List Reach → Type 0
AreLate net rs = (f : ℕ → ℕ) → AreFar net rs f → (b : ℕ) × (b < length net.nodes) × (MOST_FIRINGS < f b)

-- the least firings that are far enough
pub record AreLeast (net : Network) (rs : List Reach) (f : ℕ → ℕ) : Type 0 where
  pub far : AreFar net rs f
  pub first : (g : ℕ → ℕ) → AreFar net rs g → (b : ℕ) → b < length net.nodes → f b ≤ g b

-- such firings, none of them too late
pub record AreFirst (net : Network) (rs : List Reach) (first : List ℕ) : Type 0 where
  pub long : length first ≡ length net.nodes
  pub far : AreFar net rs (firing_at first)
  pub few : All (λ f. f ≤ MOST_FIRINGS) first
  pub least : (f : ℕ → ℕ) → AreFar net rs f → (b : ℕ) → b < length net.nodes → slice_index first b ≤ f b

-- firings of which code can compute
pub record CanRise (net : Network) (first : List ℕ) : Type 0 where
  pub long : length first ≡ length net.nodes
  pub few : All (λ f. f ≤ MOST_FIRINGS + 1) first

-- where none was raised, they are enough along each connection; where one was, their sum is greater
pub record HasRisen (net : Network) (rs : List Reach) (old new : List ℕ) (risen : Bool) : Type 0 where
  pub can : CanRise net new
  pub kept : (b : ℕ) → slice_index old b ≤ slice_index new b
  pub more : risen ≡ true → sum old < sum new
  pub still : risen ≡ false → new ≡ old
  pub enough : risen ≡ false → All (λ c. slice_index new c.to ≤ MOST_FIRINGS
      → IsEnough net rs (firing_at new) c (slice_index new c.to)) net.connections
  pub least : (f : ℕ → ℕ) → AreFar net rs f → ((b : ℕ) → b < length net.nodes → slice_index old b ≤ f b) → (b : ℕ)
      → b < length net.nodes → slice_index new b ≤ f b

-- firings that are on their way to those
pub record AreBegun (net : Network) (rs : List Reach) (first : List ℕ) : Type 0 where
  pub can : CanRise net first
  pub past : (b : ℕ) → b < length net.nodes → slice_index first b ≤ MOST_FIRINGS
      → (reach_at rs b).start ≤ slice_index first b
  pub least : (f : ℕ → ℕ) → AreFar net rs f → (b : ℕ) → b < length net.nodes → slice_index first b ≤ f b

-- and those of which none has to rise any more
pub record AreRisen (net : Network) (rs : List Reach) (first : List ℕ) : Type 0 where
  pub begun : AreBegun net rs first
  pub enough : All (λ c. slice_index first c.to ≤ MOST_FIRINGS → IsEnough net rs (firing_at first) c
      (slice_index first c.to)) net.connections
