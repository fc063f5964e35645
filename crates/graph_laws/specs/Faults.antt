-- What each refusal of a graph means.
use Rattle.std.specs.Prelude.{◌≡◌, ◌≢◌, ◌↔◌, ℕ, ◌<◌, List, length, None, Some, false, true}
use Rattle.stream_model.specs.declared.vocabulary.Policy.TheVariants as policy
use Rattle.stream_model.specs.Network.{Network, Connection, node_at}
use Rattle.graph_model.specs.Graphs.{Side, In, Out, signature_of, ports_to, is_used, IsWalk, Reaches, gain_along, most_gain, IsGraph, IsValidGraph, GraphFault, DuplicateName, UnknownBlock, PortRange, InputTaken, PortGap, TypeMismatch, Loop, TooFewPorts, TooLarge, BadName, BadMultiple, BadCapacity, OneToOne, Gain, graph_fault}

-- the lowest block of which P holds
pub record IsLowest (net : Network) (P : ℕ → Type 0) (block : ℕ) : Type 0 where
  pub in_net : block < length net.nodes
  pub here : P block
  pub first : (a : ℕ) → a < block → ¬ (P a)

-- P holds of no block
abbrev pub Nowhere : Network → (ℕ → Type 0) → Type 0
Nowhere net P = (b : ℕ) → b < length net.nodes → ¬ (P b)

-- a port is unused, and a higher one is used
pub record IsGap (net : Network) (block : ℕ) (side : Side) (port : ℕ) : Type 0 where
  pub unused : is_used net block side port ≡ false
  pub higher : ℕ
  pub above : port < higher
  pub used : is_used net block side higher ≡ true

abbrev pub HasGap : Network → ℕ → Type 0
HasGap net b = (s : Side) × (p : ℕ) × IsGap net b s p

-- the lowest gap of a block, inputs first
pub record IsFirstGap (net : Network) (block : ℕ) (side : Side) (port : ℕ) : Type 0 where
  pub gap : IsGap net block side port
  pub lowest : (p : ℕ) → p < port → ¬ (IsGap net block side p)
  pub inputs_first : side ≡ Out → (p : ℕ) → ¬ (IsGap net block In p)

-- fewer ports of a side are used than the block asks for
abbrev pub HasFew : Network → ℕ → Type 0
HasFew net b = (s : Side) × (ports_to net b s < (signature_of (node_at net b) s).least)

-- tags go from one port to one port only, and used inputs and outputs are not equally many
abbrev pub IsUnequal : Network → ℕ → Type 0
IsUnequal net b = ((node_at net b).policy ≡ policy.One) × (ports_to net b In ≢ ports_to net b Out)

-- the block reaches itself
abbrev pub IsLooped : Network → ℕ → Type 0
IsLooped net b = Reaches net b b

-- the gains along a path that ends at the block have a product above the limit
pub record IsSteep (net : Network) (block : ℕ) : Type 0 where
  pub start : ℕ
  pub path : List Connection
  pub in_net : start < length net.nodes
  pub joins : IsWalk net start block path
  pub above : most_gain < gain_along net start path

-- what a refusal of a graph means; each test has passed all blocks before the next. The other refusals are of adding
-- and connecting
abbrev pub Means : Network → GraphFault → Type 0
Means net (PortGap b s p) = IsLowest net (HasGap net) b × IsFirstGap net b s p
Means net (TooFewPorts b) = Nowhere net (HasGap net) × IsLowest net (HasFew net) b
Means net (OneToOne b) = Nowhere net (HasGap net) × Nowhere net (HasFew net) × IsLowest net (IsUnequal net) b
Means net (Loop b) = Nowhere net (HasGap net) × Nowhere net (HasFew net) × Nowhere net (IsUnequal net)
    × IsLowest net (IsLooped net) b
Means net (Gain b) = Nowhere net (HasGap net) × Nowhere net (HasFew net) × Nowhere net (IsUnequal net)
    × Nowhere net (IsLooped net) × IsLowest net (IsSteep net) b
Means net DuplicateName = ⊥
Means net UnknownBlock = ⊥
Means net (PortRange b s p) = ⊥
Means net (InputTaken b p) = ⊥
Means net (TypeMismatch b p) = ⊥
Means net TooLarge = ⊥
Means net BadName = ⊥
Means net BadMultiple = ⊥
Means net BadCapacity = ⊥

-- the tests refuse nothing exactly where the graph is valid, and answer a refusal exactly where it means what is wrong
abbrev pub TestsDecide : Type 0
TestsDecide =
    (names : List (List ℕ)) (net : Network) → IsGraph names net →
    ((graph_fault net ≡ None) ↔ IsValidGraph names net) × ((f : GraphFault) → (graph_fault net ≡ Some f) ↔ Means net f)
