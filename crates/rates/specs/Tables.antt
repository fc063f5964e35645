-- What code keeps of a network to find its rates: numbers in place of blocks.
use Rattle.std.specs.Prelude.{◌≡◌, ℕ, ◌<◌, ◌≤◌, List, length, map, replicate, slice_index_or, Option, Some, None, IfSome, MatchOption, All, false, true, Vec, ◌^◌, slice_index}
use Rattle.std.specs.Global.{Global}
use Rattle.std.specs.Option.{option_map}
use Rattle.stream_model.specs.Firings.{gives}
use Rattle.stream_model.specs.Network.{Node, Connection, Network, HasLevels, no_connection, node_at, role_at, is_source}
use Rattle.graph_model.specs.Rates.{Ratio, Known, CanCount, count_limit, gives_on, takes_on, ratios_of, whole_of, firings_of, are_few}
use Rattle.rates.specs.declared.tables.Supply.{Supply}
use Rattle.rates.specs.declared.tables.Link.{Link}
use Rattle.rates.specs.declared.fraction.Fraction.{Fraction}

-- what the rates of a network rest on: a valid graph of lawful blocks has it
pub record HasRates (net : Network) : Type 0 where
  pub can : CanCount net
  pub level : ℕ → ℕ
  pub levels : HasLevels net level
  pub blocks : length net.nodes ≤ 256
  pub few : (b : ℕ) → (node_at net b).multiple ≤ 64
  pub entered : All (λ c. is_source (role_at net c.to) ≡ false) net.connections

-- of a block, what its counts depend on, and of a connection its ends with what they give and take
abbrev pub supply_of : Node → Supply
supply_of n = record { source = is_source n.meaning.role; gives = gives n; shift = n.meaning.shift }

abbrev pub link_of : Network → Connection → Link
link_of net c = record { from = c.from; to = c.to; gives = gives_on net c; takes = takes_on net c }

abbrev pub supplies_of : Network → List Supply
supplies_of net = map supply_of net.nodes

abbrev pub links_of : Network → List Link
links_of net = map (link_of net) net.connections

-- a fraction as the ratio that it is
abbrev pub ratio_of : Fraction → Ratio
ratio_of f = record { part = f.part; over = f.over; under = f.under }

abbrev pub known_of : List (Option Fraction) → Known
known_of fs = map (option_map ratio_of) fs

abbrev pub told_of : Option (ℕ × Fraction) → Option (ℕ × Ratio)
told_of t = option_map (λ f. (f.0, ratio_of f.1)) t

-- above 0 and within the limit, and of a part that there is
pub record IsSmall (blocks : ℕ) (f : Fraction) : Type 0 where
  pub part : f.part < blocks
  pub over_some : 1 ≤ f.over
  pub over_few : f.over ≤ count_limit
  pub under_some : 1 ≤ f.under
  pub under_few : f.under ≤ count_limit

abbrev pub AreSmall : ℕ → List (Option Fraction) → Type 0
AreSmall blocks known = (b : ℕ) (f : Fraction) → slice_index_or known b None ≡ Some f → IsSmall blocks f

-- connection number k
abbrev pub connection_at : Network → ℕ → Connection
connection_at net k = slice_index_or net.connections k no_connection

-- a new ratio, above 0, of a block that there is
abbrev pub IsTold : Network → ℕ × Fraction → Type 0
IsTold net t = (t.0 < length net.nodes) × (t.1.part < length net.nodes) × (1 ≤ t.1.over) × (1 ≤ t.1.under)

-- the table of a network's connections, and the ratios found so far
pub record CanTell (net : Network) (links : List Link) (known : List (Option Fraction)) : Type 0 where
  pub table : links ≡ links_of net
  pub rates : HasRates net
  pub long : length known ≡ length net.nodes
  pub small : AreSmall (length net.nodes) known

-- the table of a network's connections, and how many blocks there are
pub record IsTable (net : Network) (links : List Link) (blocks : ℕ) : Type 0 where
  pub table : links ≡ links_of net
  pub rates : HasRates net
  pub long : blocks ≡ length net.nodes

-- no ratio is known yet
pub record CanStart (net : Network) (links : List Link) (known : List (Option Fraction)) : Type 0 where
  pub table : links ≡ links_of net
  pub rates : HasRates net
  pub none : known ≡ replicate (length net.nodes) None

-- the ratios of a network, small ones, or nothing where one is too large
pub record AreRatios (net : Network) (found : Option (Vec Fraction Global)) : Type 0 where
  pub are : option_map (λ v. map ratio_of v.items) found ≡ ratios_of net
  pub small : IfSome found (λ v. All (IsSmall (length net.nodes)) v.items)

-- a small ratio for each block
pub record HaveRatios (net : Network) (ratios : List Fraction) : Type 0 where
  pub rates : HasRates net
  pub long : length ratios ≡ length net.nodes
  pub small : All (IsSmall (length net.nodes)) ratios

pub record AreAgreed (net : Network) (links : List Link) (ratios : List Fraction) : Type 0 where
  pub table : links ≡ links_of net
  pub have : HaveRatios net ratios

-- the least whole numbers of the parts, by their lowest blocks
pub record CanBeWhole (net : Network) (ratios : List Fraction) (wholes : List ℕ) : Type 0 where
  pub have : HaveRatios net ratios
  pub ones : wholes ≡ replicate (length ratios) 1

pub record AreWholes (net : Network) (ratios : List Fraction) (wholes : List ℕ) : Type 0 where
  pub long : length wholes ≡ length net.nodes
  pub each : (p : ℕ) → p < length net.nodes → slice_index wholes p ≡ whole_of (map ratio_of ratios) p
  pub few : (p : ℕ) → p < length net.nodes → slice_index wholes p ≤ 2 ^ 33

pub record CanFire (net : Network) (supplies : List Supply) (ratios : List Fraction) (wholes firings : List ℕ) : Type 0
  where
    pub table : supplies ≡ supplies_of net
    pub have : HaveRatios net ratios
    pub parts : AreWholes net ratios wholes
    pub room : length firings ≡ length net.nodes

-- the least whole numbers in these ratios, none of which is too large
pub record AreFirings (net : Network) (ratios : List Fraction) (firings : List ℕ) : Type 0 where
  pub are : firings ≡ firings_of (map ratio_of ratios)
  pub few : are_few net firings ≡ true

-- small numbers, whose products code can hold
pub record AreMeasured (u v : Fraction) (l : Link) : Type 0 where
  pub over : (u.over ≤ count_limit) × (v.over ≤ count_limit)
  pub under : (u.under ≤ count_limit) × (v.under ≤ count_limit)
  pub items : (l.gives ≤ count_limit) × (l.takes ≤ count_limit)

pub record CanTotal (net : Network) (supplies : List Supply) (ratios : List Fraction) : Type 0 where
  pub table : supplies ≡ supplies_of net
  pub have : HaveRatios net ratios

pub record CanFill (net : Network) (supplies : List Supply) (ratios : List Fraction) (wholes firings : List ℕ) : Type 0
  where
    pub table : supplies ≡ supplies_of net
    pub have : HaveRatios net ratios
    pub ones : wholes ≡ replicate (length ratios) 1
    pub room : length firings ≡ length net.nodes

-- the firings, or nothing where they are too many
abbrev pub AreFound : Network → List Fraction → Option (Vec ℕ Global) → Type 0
AreFound net ratios found = MatchOption found (are_few net (firings_of (map ratio_of ratios)) ≡ false)
    (λ v. AreFirings net ratios v.items)
