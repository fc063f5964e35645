-- Counts of firings, a step at a time, over tables.
use Rattle.std.specs.Prelude.{Bool, [], Option, Vec, MatchOption, slice_index_or, ◌≡◌, ℕ, ◌+◌, ◌-◌, ◌*◌, ◌<◌, ◌≤◌, max, List, length, All, slice_index, true, false}
use Rattle.std.specs.Global.{Global}
use Rattle.stream_model.specs.declared.vocabulary.Shift.{Shift}
use Rattle.stream_model.specs.declared.vocabulary.Shift.TheVariants.{No, Skip, Delay}
use Rattle.stream_model.specs.Network.{Network, node_at, role_at, is_source, given_by}
use Rattle.stream_model.specs.Firings.{allowed_by}
use Rattle.graph_model.specs.Rates.{count_limit, IsBalanced, count_before, count_after, ahead, past_skips, needed_by, fits_limit}
use Rattle.rates.specs.declared.tables.Supply.{Supply}
use Rattle.rates.specs.declared.tables.Link.{Link}
use Rattle.rates.specs.declared.counts.Lead.{Lead}
use Rattle.rates.specs.Tables.{HasRates, supplies_of, links_of, connection_at}

-- the items that so many firings give, and that they take, where each has so many
abbrev pub given_of : Shift → ℕ → ℕ → ℕ
given_of No each k = each * k
given_of (Skip n) each k = k - n
given_of (Delay n) each k = k

abbrev pub taken_of : Shift → ℕ → ℕ → ℕ
taken_of No each k = each * k
taken_of (Skip n) each k = k
taken_of (Delay n) each k = k - n

-- the zeros that come before a stream
abbrev pub delay_of : Shift → ℕ
delay_of No = 0
delay_of (Skip n) = 0
delay_of (Delay n) = n

-- numbers of which no product or sum is too large for code
pub record AreHeld (writer reader : Shift) (l : Link) (before after : ℕ) : Type 0 where
  pub gives : l.gives ≤ count_limit
  pub takes_some : 1 ≤ l.takes
  pub takes_few : l.takes ≤ count_limit
  pub delay : delay_of reader ≤ count_limit
  pub before_few : before ≤ 2 * 4294967296
  pub after_few : after ≤ 2 * 4294967296

-- how far the writer of a connection is ahead, and what it allows the reader
pub record IsLead (writer reader : Shift) (l : Link) (before after : ℕ) (f : Lead) : Type 0 where
  pub ahead : f.ahead ≡ given_of writer l.gives after - taken_of reader l.takes before
  pub allowed : f.allowed ≡ allowed_by reader l.takes (given_of writer l.gives after)

-- a number is among the first ones of a list
abbrev pub IsAmong : List ℕ → ℕ → ℕ → Type 0
IsAmong xs count x = (i : ℕ) × (i < count) × (slice_index xs i ≡ x)

-- all connections, in an order in which those to a block come before those from it
pub record IsOrder (net : Network) (order : List ℕ) : Type 0 where
  pub in_net : All (λ k. k < length net.connections) order
  pub all : (k : ℕ) → k < length net.connections → IsAmong order (length order) k
  pub writers :
      (i k : ℕ) → i < length order → k < length net.connections → (connection_at net k).to
      ≡ (connection_at net (slice_index order i)).from → IsAmong order i k

-- a network's tables, with its connections in order
pub record AreOrdered (net : Network) (supplies : List Supply) (links : List Link) (order : List ℕ) : Type 0 where
  pub rates : HasRates net
  pub blocks : supplies ≡ supplies_of net
  pub table : links ≡ links_of net
  pub ordered : IsOrder net order

-- the counts before a step that follows others, none of which took a writer further ahead than the limit
pub record CanAdvance (net : Network) (q : List ℕ) (step : ℕ) (before after needed : List ℕ) : Type 0 where
  pub few : All (λ n. n ≤ count_limit) q
  pub step_few : step ≤ count_limit + 1
  pub counts : (b : ℕ) → b < length net.nodes → slice_index before b ≡ count_before net q b step
  pub near : (k : ℕ) → k < length net.connections →
      given_by (node_at net (connection_at net k).from) (count_before net q (connection_at net k).from
      step) ≤ count_limit * step
  pub before_long : length before ≡ length net.nodes
  pub after_long : length after ≡ length net.nodes
  pub needed_long : length needed ≡ length net.connections

-- the step's counts, and what each connection needs up to it
pub record HasAdvanced (net : Network) (q : List ℕ) (step : ℕ) (after old new : List ℕ) : Type 0 where
  pub counts : (b : ℕ) → b < length net.nodes → slice_index after b ≡ count_after net q b step
  pub needed : (k : ℕ) → k < length net.connections → slice_index new k
      ≡ max (slice_index old k) (ahead net q (connection_at net k) step)
  pub near : (k : ℕ) → k < length net.connections → ahead net q (connection_at net k) step ≤ count_limit
  pub long : length after ≡ length net.nodes
  pub needed_long : length new ≡ length net.connections

-- a connection on which the step takes the writer too far ahead
pub record IsFar (net : Network) (q : List ℕ) (step : ℕ) : Type 0 where
  pub number : ℕ
  pub in_net : number < length net.connections
  pub far : count_limit < ahead net q (connection_at net number) step

-- the counts that a step begins with: those of the sources, and more than any for the others
abbrev pub unlimited : ℕ
unlimited = 18446744073709551615

pub record AreStarted (net : Network) (q : List ℕ) (step : ℕ) (after : List ℕ) : Type 0 where
  pub long : length after ≡ length net.nodes
  pub sources : (b : ℕ) → b < length net.nodes → is_source (role_at net b) ≡ true → slice_index after b
      ≡ step * slice_index q b
  pub others : (b : ℕ) → b < length net.nodes → is_source (role_at net b) ≡ false → slice_index after b ≡ unlimited

pub record CanStep (net : Network) (supplies : List Supply) (q : List ℕ) (step : ℕ) (after : List ℕ) : Type 0 where
  pub blocks : supplies ≡ supplies_of net
  pub firings_long : length q ≡ length net.nodes
  pub few : All (λ n. n ≤ count_limit) q
  pub step_few : step ≤ count_limit + 1
  pub long : length after ≡ length net.nodes

-- all that a pass over the connections starts from
pub record CanPass (net : Network) (supplies : List Supply) (links : List Link) (order q : List ℕ) (step : ℕ)
    (before after needed : List ℕ) : Type 0 where
  pub tables : AreOrdered net supplies links order
  pub counts : CanAdvance net q step before after needed
  pub started : AreStarted net q step after

-- the counts of a block without a step yet, and what connections need without one: all 0
pub record CanRun (net : Network) (supplies : List Supply) (links : List Link) (order q before after needed : List ℕ) :
    Type 0 where
  pub tables : AreOrdered net supplies links order
  pub balanced : IsBalanced net q
  pub few : All (λ n. n ≤ count_limit) q
  pub before_long : length before ≡ length net.nodes
  pub before_none : (b : ℕ) → slice_index before b ≡ 0
  pub after_long : length after ≡ length net.nodes
  pub needed_long : length needed ≡ length net.connections
  pub needed_none : (k : ℕ) → slice_index needed k ≡ 0

-- counts after some iterations, with the blocks that they are of
pub record AreCounted (net : Network) (supplies : List Supply) (counts : List ℕ) : Type 0 where
  pub blocks : supplies ≡ supplies_of net
  pub long : length counts ≡ length net.nodes

-- what each connection needs, none of which is above the limit
pub record AreNeeded (net : Network) (q needed : List ℕ) : Type 0 where
  pub fits : fits_limit net q (past_skips net q) ≡ true
  pub long : length needed ≡ length net.connections
  pub few : (k : ℕ) → k < length net.connections → slice_index needed k ≤ count_limit
  pub each : (k : ℕ) → k < length net.connections → slice_index needed k
      ≡ needed_by net q (past_skips net q) (connection_at net k)

-- connections that are in order already, and those of them that are marked
pub record IsPlaced (net : Network) (placed : List Bool) (order : List ℕ) : Type 0 where
  pub marks : length placed ≡ length net.connections
  pub among : (k : ℕ) → k < length net.connections → slice_index_or placed k false ≡ true
      → IsAmong order (length order) k
  pub in_net : All (λ k. k < length net.connections) order
  pub writers :
      (i k : ℕ) → i < length order → k < length net.connections → (connection_at net k).to
      ≡ (connection_at net (slice_index order i)).from → IsAmong order i k

-- the blocks to which all connections are placed
pub record AreReady (net : Network) (placed ready : List Bool) : Type 0 where
  pub long : length ready ≡ length net.nodes
  pub full : (b k : ℕ) → slice_index_or ready b false ≡ true → k < length net.connections → (connection_at net k).to ≡ b
      → slice_index_or placed k false ≡ true
  pub all : (b : ℕ) → b < length net.nodes → ((k : ℕ) → k < length net.connections → (connection_at net k).to ≡ b
      → slice_index_or placed k false ≡ true) → slice_index_or ready b false ≡ true

pub record CanMark (net : Network) (links : List Link) (placed ready : List Bool) : Type 0 where
  pub rates : HasRates net
  pub table : links ≡ links_of net
  pub marks : length placed ≡ length net.connections
  pub long : length ready ≡ length net.nodes

pub record CanPlace (net : Network) (links : List Link) (ready placed : List Bool) (order : List ℕ) : Type 0 where
  pub rates : HasRates net
  pub table : links ≡ links_of net
  pub known : AreReady net placed ready
  pub placing : IsPlaced net placed order

-- marks stay, and every connection from a block that is ready gets one
pub record HasPlaced (net : Network) (ready old new : List Bool) (order : List ℕ) : Type 0 where
  pub placing : IsPlaced net new order
  pub kept : (k : ℕ) → slice_index_or old k false ≡ true → slice_index_or new k false ≡ true
  pub more : (k : ℕ) → k < length net.connections → slice_index_or ready (connection_at net k).from false ≡ true
      → slice_index_or new k false ≡ true

-- nothing is placed yet
pub record CanOrder (net : Network) (links : List Link) (placed ready : List Bool) (order : List ℕ) : Type 0 where
  pub rates : HasRates net
  pub table : links ≡ links_of net
  pub marks : length placed ≡ length net.connections
  pub none : (k : ℕ) → slice_index_or placed k false ≡ false
  pub long : length ready ≡ length net.nodes
  pub empty : order ≡ []

pub record CanNeed (net : Network) (supplies : List Supply) (links : List Link) (q : List ℕ) : Type 0 where
  pub rates : HasRates net
  pub blocks : supplies ≡ supplies_of net
  pub table : links ≡ links_of net
  pub balanced : IsBalanced net q
  pub few : All (λ n. n ≤ count_limit) q

abbrev pub AreMet : Network → List ℕ → Option (Vec ℕ Global) → Type 0
AreMet net q found = MatchOption found (fits_limit net q (past_skips net q) ≡ false) (λ v. AreNeeded net q v.items)
