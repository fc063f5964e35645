-- Valid graphs: networks whose blocks have names, within limits and with the ports that the blocks ask for. Where
-- nothing else is said the rules are own; ports and their types are those of the GNU Radio manual (io_signature).
use Rattle.std.specs.Prelude.{◌≡◌, ◌≢◌, ℕ, zero, suc, ◌+◌, ◌-◌, ◌*◌, ◌/◌, ◌^◌, ◌<◌, ◌≤◌, min, max, List, [], ◌∷◌, length, map, filter, filter_map, find, All, AllPairs, Contains, Option, Some, None, is_some, is_none, option_map, Bool, true, false, ◌&&◌, ◌||◌, not, nat_le, nat_lt, ◌==◌, if◌then◌else◌, slice_get, bytes_eq}
use Rattle.std.specs.Char.{is_ascii_alphanumeric}
use Rattle.std.specs.List.{list_all, list_any}
use Rattle.stream_model.specs.declared.vocabulary.Policy.{Policy}
use Rattle.stream_model.specs.declared.vocabulary.Policy.TheVariants as policy
use Rattle.stream_model.specs.declared.vocabulary.Role.{Role}
use Rattle.stream_model.specs.declared.vocabulary.Role.TheVariants.{Source, Work, Keep, Discard}
use Rattle.stream_model.specs.declared.vocabulary.Signature.{Signature}
use Rattle.stream_model.specs.Lists.{below}
use Rattle.stream_model.specs.Meaning.{Meaning}
use Rattle.stream_model.specs.Network.{Node, Connection, Network, HasLevels, node_at, enters}
use Rattle.stream_model.specs.Numbers.{types_agree}
use Rattle.graph_model.specs.Rates.{greatest_of}

-- the limits of a graph: blocks, connections, ports on a side of a block, bytes of a name, base firings in one, items
-- of a configured capacity, and the product of the gains of the blocks along a path
abbrev pub most_blocks : ℕ
most_blocks = 256

abbrev pub most_connections : ℕ
most_connections = 1024

abbrev pub most_ports : ℕ
most_ports = 16

abbrev pub most_name : ℕ
most_name = 32

abbrev pub most_multiple : ℕ
most_multiple = 64

abbrev pub most_capacity : ℕ
most_capacity = 65536

abbrev pub most_gain : ℕ
most_gain = 2 ^ 24

-- a name is of letters, digits, `_`, `.` and `-`, and not empty
abbrev pub is_name : List ℕ → Bool
is_name s = nat_le 1 (length s) && nat_le (length s) most_name && list_all
    (λ c. is_ascii_alphanumeric c || c == 95 || c == 46 || c == 45) s

-- how many base firings one firing may have: 1 for sources and sinks, and for blocks with a limit or without a rate
abbrev pub is_work : Role → Bool
is_work Source = false
is_work Work = true
is_work Keep = false
is_work Discard = false

abbrev pub multiples : Meaning → ℕ
multiples m = if is_work m.role && is_none m.limit && is_some (m.rate 0) then most_multiple else 1

abbrev pub is_from_one : ℕ → ℕ → Bool
is_from_one n most = nat_le 1 n && nat_le n most

-- the ports of a block on one side: which there may be, how many, and which connections use
pub data Side : Type 0 where
  In : Side
  Out : Side

abbrev pub signature_of : Node → Side → Signature
signature_of n In = n.meaning.inputs
signature_of n Out = n.meaning.outputs

abbrev pub has_port : Node → Side → ℕ → Bool
has_port n s p = nat_lt p (min most_ports (signature_of n s).most)

abbrev pub ports_of : Network → ℕ → Side → List ℕ
ports_of net b In = map (λ c. c.in_port) (filter (λ c. c.to == b) net.connections)
ports_of net b Out = map (λ c. c.out_port) (filter (λ c. c.from == b) net.connections)

-- one more than the greatest used port: the number of used ports, where there is no gap
abbrev pub ports_to : Network → ℕ → Side → ℕ
ports_to net b s = greatest_of (map suc (ports_of net b s))

abbrev pub is_used : Network → ℕ → Side → ℕ → Bool
is_used net b s p = list_any (λ q. q == p) (ports_of net b s)

-- both ends have one item type
abbrev pub same_type : Network → Connection → Bool
same_type net c = types_agree (signature_of (node_at net c.from) Out).item (signature_of (node_at net c.to) In).item

-- connections in a row from block a to block b
abbrev pub IsWalk : Network → ℕ → ℕ → List Connection → Type 0
IsWalk net a b [] = a ≡ b
IsWalk net a b (c ∷ cs) = Contains net.connections c × (c.from ≡ a) × IsWalk net c.to b cs

-- a block reaches another, or itself, by one connection or more
pub record Reaches (net : Network) (a b : ℕ) : Type 0 where
  pub walk : List Connection
  pub some : 1 ≤ length walk
  pub joins : IsWalk net a b walk

-- how many items come at most of each item that a firing takes, rounded up: one where there is no rate (own)
abbrev pub gain_at : Option (ℕ × ℕ) → ℕ
gain_at None = 1
gain_at (Some r) = (r.1 + r.0 - 1) / r.0

-- the gain of a block: that of the input of which it takes fewest, multiples left aside (own)
abbrev pub gain_of : Meaning → ℕ
gain_of m = greatest_of (map (λ p. gain_at (m.rate p)) (below (max 1 (min most_ports m.inputs.most))))

abbrev pub block_gain : Network → ℕ → ℕ
block_gain net b = gain_of (node_at net b).meaning

-- the product of the gains of the blocks on a walk from block a
abbrev pub gain_along : Network → ℕ → List Connection → ℕ
gain_along net a [] = block_gain net a
gain_along net a (c ∷ cs) = block_gain net a * gain_along net c.to cs

-- a level for each block, where connections form no loop: how many connections in a row end there at most.
-- As many turns as there are blocks reach each block
abbrev pub level_by : ℕ → Network → ℕ → ℕ
level_by zero net b = 0
level_by (suc turns) net b = greatest_of (map (λ c. suc (level_by turns net c.from))
    (filter (λ c. c.to == b) net.connections))

abbrev pub level_of : Network → ℕ → ℕ
level_of net b = level_by (length net.nodes) net b

-- what every graph keeps while blocks and connections are added
pub record IsGraph (names : List (List ℕ)) (net : Network) : Type 0 where
  pub few_blocks : length net.nodes ≤ most_blocks
  pub few_connections : length net.connections ≤ most_connections
  pub named : length names ≡ length net.nodes
  pub good_names : All (λ s. is_name s ≡ true) names
  pub distinct : AllPairs (λ s t. s ≢ t) names
  pub multiple : All (λ n. (1 ≤ n.multiple) × (n.multiple ≤ multiples n.meaning)) net.nodes
  pub capacity : All (λ n. (1 ≤ n.capacity) × (n.capacity ≤ most_capacity)) net.nodes
  pub ends : All (λ c. (c.from < length net.nodes) × (c.to < length net.nodes)) net.connections
  pub ports : All (λ c. (has_port (node_at net c.from) Out c.out_port ≡ true)
      × (has_port (node_at net c.to) In c.in_port ≡ true)) net.connections
  pub one_writer : AllPairs (λ c d. ¬ ((c.to ≡ d.to) × (c.in_port ≡ d.in_port))) net.connections
  pub types : All (λ c. same_type net c ≡ true) net.connections

-- a valid graph: also without gaps in the used ports, with as many as the blocks ask for, with tags from one port to
-- one port only where used inputs and outputs are equally many, without loops, and with no path that multiplies its
-- items too much
pub record IsValidGraph (names : List (List ℕ)) (net : Network) : Type 0 where
  pub graph : IsGraph names net
  pub no_gap : (b : ℕ) (s : Side) (p : ℕ) → p < ports_to net b s → is_used net b s p ≡ true
  pub enough : (b : ℕ) (s : Side) → b < length net.nodes → (signature_of (node_at net b) s).least ≤ ports_to net b s
  pub one_to_one : (b : ℕ) → (node_at net b).policy ≡ policy.One → ports_to net b In ≡ ports_to net b Out
  pub levels : HasLevels net (level_of net)
  pub gain : (a b : ℕ) (cs : List Connection) → a < length net.nodes → IsWalk net a b cs
      → gain_along net a cs ≤ most_gain

-- the refusals, with their numbers, and the block that each names
pub data GraphFault : Type 0 where
  DuplicateName : GraphFault  -- 1
  UnknownBlock : GraphFault  -- 2
  PortRange : (block : ℕ) → Side → (port : ℕ) → GraphFault  -- 3
  InputTaken : (block port : ℕ) → GraphFault  -- 4
  PortGap : (block : ℕ) → Side → (port : ℕ) → GraphFault  -- 5
  TypeMismatch : (block port : ℕ) → GraphFault  -- 6
  Loop : (block : ℕ) → GraphFault  -- 7
  TooFewPorts : (block : ℕ) → GraphFault  -- 8
  TooLarge : GraphFault  -- 9
  BadName : GraphFault  -- 10, as are the next two
  BadMultiple : GraphFault
  BadCapacity : GraphFault
  OneToOne : (block : ℕ) → GraphFault  -- 11
  Gain : (block : ℕ) → GraphFault  -- 12

-- the first refusal of a list of tests, each with what it refuses where it fails
abbrev pub unless : Bool → GraphFault → Option GraphFault
unless true f = None
unless false f = Some f

abbrev pub first_fault : List (Option GraphFault) → Option GraphFault
first_fault tests = slice_get (filter_map (λ t. t) tests) 0

-- what adding a block is refused, in the order of the tests
abbrev pub add_fault : List (List ℕ) → Network → List ℕ → Node → Option GraphFault
add_fault names net name n =
    first_fault (
    unless (is_name name) BadName
    ∷ unless (is_from_one n.multiple (multiples n.meaning)) BadMultiple
    ∷ unless (is_from_one n.capacity most_capacity) BadCapacity
    ∷ unless (not (list_any (bytes_eq name) names)) DuplicateName
    ∷ unless (nat_lt (length net.nodes) most_blocks) TooLarge
    ∷ [])

-- what connecting is refused
abbrev pub connect_fault : Network → Connection → Option GraphFault
connect_fault net c =
    first_fault (
    unless (nat_lt c.from (length net.nodes) && nat_lt c.to (length net.nodes)) UnknownBlock
    ∷ unless (has_port (node_at net c.from) Out c.out_port) (PortRange c.from Out c.out_port)
    ∷ unless (has_port (node_at net c.to) In c.in_port) (PortRange c.to In c.in_port)
    ∷ unless (not (list_any (enters c.to c.in_port) net.connections)) (InputTaken c.to c.in_port)
    ∷ unless (same_type net c) (TypeMismatch c.to c.in_port)
    ∷ unless (nat_lt (length net.connections) most_connections) TooLarge
    ∷ [])

-- the lowest unused port below a used one
abbrev pub gap_of : Network → ℕ → Side → Option ℕ
gap_of net b s = find (λ p. not (is_used net b s p)) (below (ports_to net b s))

abbrev pub gap_fault : Network → ℕ → Option GraphFault
gap_fault net b = first_fault (option_map (PortGap b In) (gap_of net b In) ∷ option_map (PortGap b Out)
    (gap_of net b Out) ∷ [])

abbrev pub has_few : Network → ℕ → Side → Bool
has_few net b s = nat_lt (ports_to net b s) (signature_of (node_at net b) s).least

abbrev pub is_one : Policy → Bool
is_one policy.None = false
is_one policy.All = false
is_one policy.One = true

-- a block reaches another by one to so many connections
abbrev pub reaches_by : ℕ → Network → ℕ → ℕ → Bool
reaches_by zero net a b = false
reaches_by (suc turns) net a b = list_any (λ c. c.to == b || reaches_by turns net c.to b)
    (filter (λ c. c.from == a) net.connections)

-- the greatest product of gains along a path that ends at block b, its own included
abbrev pub gain_by : ℕ → Network → ℕ → ℕ
gain_by zero net b = block_gain net b
gain_by (suc turns) net b = block_gain net b * greatest_of (1 ∷ map (λ c. gain_by turns net c.from)
    (filter (λ c. c.to == b) net.connections))

-- the lowest block that a test refuses
abbrev pub lowest : Network → (ℕ → Bool) → (ℕ → GraphFault) → Option GraphFault
lowest net refuses fault = option_map fault (find refuses (below (length net.nodes)))

-- what a graph is refused, each test over all blocks before the next: the first is empty where the graph is valid
abbrev pub graph_fault : Network → Option GraphFault
graph_fault net =
    first_fault (
    first_fault (map (gap_fault net) (below (length net.nodes)))
    ∷ lowest net (λ b. has_few net b In || has_few net b Out) TooFewPorts
    ∷ lowest net (λ b. is_one (node_at net b).policy && not (ports_to net b In == ports_to net b Out)) OneToOne
    ∷ lowest net (λ b. reaches_by (length net.nodes) net b b) Loop
    ∷ lowest net (λ b. nat_lt most_gain (gain_by (length net.nodes) net b)) Gain
    ∷ [])
