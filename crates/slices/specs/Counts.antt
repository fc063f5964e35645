-- Counts of firings that rise to those that the rates say.
use Rattle.std.specs.Prelude.{ℕ, ◌<◌, ◌≤◌, ◌≡◌, List, length, sum, Bool, true, false, slice_index}
use Rattle.stream_model.specs.Network.{Network, Connection, node_at, writers_of, writer_of, given_by}
use Rattle.stream_laws.specs.CanRun.{CanRun}
use Rattle.graph_model.specs.Rates.{IsBalanced, count_after, is_past_skips}
use Rattle.graph_laws.specs.Balances.{KeepsCounts, KeepsSizes}
use Rattle.rates.specs.Tables.{HasRates}
use Rattle.slices.specs.declared.past.Past.{Past}

-- a network whose runs can be cut: it has rates within the limits, and q firings are an iteration
pub record CanCut (net : Network) (q : List ℕ) : Type 0 where
  pub runs : CanRun net
  pub rates : HasRates net
  pub balanced : IsBalanced net q
  pub counts : KeepsCounts net q
  pub sizes : KeepsSizes net q

-- numbers of which code can compute what a connection allows
pub record IsCarried (net : Network) (c : Connection) (firings : ℕ) : Type 0 where
  pub from : c.from < length net.nodes
  pub to : c.to < length net.nodes
  pub rates : HasRates net
  pub few : firings ≤ 8589934592
  pub given : given_by (node_at net c.from) firings ≤ 8589934592

-- no count is above that of the rates
pub record AreBelow (net : Network) (q : List ℕ) (j : ℕ) (counts : List ℕ) : Type 0 where
  pub can : CanCut net q
  pub few : j ≤ 65536
  pub long : length counts ≡ length net.nodes
  pub below : (b : ℕ) → b < length net.nodes → slice_index counts b ≤ count_after net q b j

-- the writers of a block have their counts
abbrev pub AreFollowed : Network → List ℕ → ℕ → List ℕ → ℕ → Type 0
AreFollowed net q j counts b =
    (p : ℕ) → p < length (writers_of net b) → slice_index counts (writer_of net b p).from
    ≡ count_after net q (writer_of net b p).from j

-- the count of a block by those of its writers: it is not above that of the rates, and is that one if theirs are
pub record IsNext (net : Network) (q : List ℕ) (j : ℕ) (counts : List ℕ) (b count : ℕ) : Type 0 where
  pub below : count ≤ count_after net q b j
  pub reaches : AreFollowed net q j counts b → count_after net q b j ≤ count

-- where none was raised, each is that of the rates if those of its writers are; where one was, their sum is greater
pub record HasCounted (net : Network) (q : List ℕ) (j : ℕ) (old new : List ℕ) (risen : Bool) : Type 0 where
  pub below : AreBelow net q j new
  pub more : risen ≡ true → sum old < sum new
  pub reaches : risen ≡ false → (b : ℕ) → b < length net.nodes → AreFollowed net q j new b
      → count_after net q b j ≤ slice_index new b

-- the counts of the rates
pub record AreCounted (net : Network) (q : List ℕ) (j : ℕ) (counts : List ℕ) : Type 0 where
  pub long : length counts ≡ length net.nodes
  pub each : (b : ℕ) → b < length net.nodes → slice_index counts b ≡ count_after net q b j

-- the first iterations after which all skips are past, with their counts
pub record IsFirstPast (net : Network) (q : List ℕ) (found : Past) : Type 0 where
  pub few : found.iterations ≤ 65536
  pub past : is_past_skips net q found.iterations ≡ true
  pub least : (j : ℕ) → is_past_skips net q j ≡ true → found.iterations ≤ j
  pub counted : AreCounted net q found.iterations found.counts.items
