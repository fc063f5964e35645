-- What a contract sees of the rates of a graph.
use Rattle.std.specs.Prelude.{◌≡◌, ℕ, ◌+◌, ◌*◌, ◌<◌, ◌≤◌, max, List, length, map, Some, All, ⊤, if◌then◌else◌, Vec, slice_index}
use Rattle.stream_model.specs.Firings.{gives}
use Rattle.stream_model.specs.Network.{Network, node_at}
use Rattle.graph_model.specs.Graphs.{most_ports}
use Rattle.graph_model.specs.Rates.{Balance, Balanced, Uneven, TooLarge, IsBalanced, ratios_of, count_limit, fits_limit, past_skips, balance_of, capacity_of}
use Rattle.rates.specs.declared.answers.Rates.{Rates}
use Rattle.rates.specs.declared.sizes.BufferCapacities.{BufferCapacities}
use Rattle.std.specs.Global.{Global}
use Rattle.rates.specs.declared.answers.Rates.TheVariants as rates
use Rattle.rates.specs.declared.fraction.Fraction.{Fraction}
use Rattle.rates.specs.declared.tables.Link.{Link}
use Rattle.rates.specs.declared.tables.Supply.{Supply}
use Rattle.rates.specs.Tables.{HasRates, HaveRatios, supplies_of, links_of, ratio_of}
use Rattle.rates.specs.Counts.{AreNeeded}

-- the answer that they are
abbrev pub answer_of : Rates → Balance
answer_of (rates.Balanced r) = Balanced r.firings.items
answer_of rates.Uneven = Uneven
answer_of rates.TooLarge = TooLarge

-- beside a balance stands what each connection needs
abbrev pub HasNeeds : Network → Rates → Type 0
HasNeeds net (rates.Balanced r) = AreNeeded net r.firings.items r.needed.items
HasNeeds net rates.Uneven = ⊤
HasNeeds net rates.TooLarge = ⊤

-- they are the rates of this network
pub record AreRates (net : Network) (r : Rates) : Type 0 where
  pub answer : answer_of r ≡ balance_of net
  pub needs : HasNeeds net r

-- a network under another name
pub record IsNamed (net of : Network) : Type 0 where
  pub same : net ≡ of
  pub rates : HasRates of

-- the tables of a network
pub record AreTables (net : Network) (supplies : List Supply) (links : List Link) : Type 0 where
  pub rates : HasRates net
  pub blocks : supplies ≡ supplies_of net
  pub table : links ≡ links_of net

-- with its ratios
pub record HaveSolved (net : Network) (supplies : List Supply) (links : List Link) (ratios : List Fraction) : Type 0
  where
    pub tables : AreTables net supplies links
    pub have : HaveRatios net ratios
    pub solved : ratios_of net ≡ Some (map ratio_of ratios)

-- and with firings in these ratios, which make a balance
pub record HaveFirings (net : Network) (supplies : List Supply) (links : List Link) (firings : List ℕ) : Type 0 where
  pub tables : AreTables net supplies links
  pub balanced : IsBalanced net firings
  pub few : All (λ n. n ≤ count_limit) firings
  pub left : balance_of net ≡ (if fits_limit net firings (past_skips net firings) then Balanced firings else TooLarge)

-- what a connection needs by them, 0 without a balance
abbrev pub needed_at : Rates → ℕ → ℕ
needed_at (rates.Balanced r) k = slice_index r.needed.items k
needed_at rates.Uneven k = 0
needed_at rates.TooLarge k = 0

-- the rates of a network, with the table of its connections
pub record CanHold (net : Network) (r : Rates) (links : List Link) : Type 0 where
  pub rates : HasRates net
  pub table : links ≡ links_of net
  pub answer : AreRates net r

-- what is asked of the buffer of each output, by port: with what its block asks it makes the capacities
pub record AreAsked (net : Network) (bal : Balance) (asked : List ℕ) : Type 0 where
  pub count : length asked ≡ most_ports * length net.nodes
  pub few : All (λ x. x ≤ count_limit) asked
  pub are :
      (b p : ℕ) → b < length net.nodes → p < most_ports →
      max (max (node_at net b).capacity (gives (node_at net b))) (slice_index asked (most_ports * b + p))
      ≡ capacity_of net bal b p

-- capacities as the lists that they are
abbrev pub sizes_of : BufferCapacities → List (List ℕ)
sizes_of sizes = map (λ (row : Vec ℕ Global). row.items) sizes.rows.items
