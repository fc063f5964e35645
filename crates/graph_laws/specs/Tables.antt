-- What is defined by turns, as tables that are filled block by block: each entry comes from those of the block's
-- writers, so that all of them together cost one step for each connection.
use Rattle.std.specs.Prelude.{◌≡◌, ℕ, ◌*◌, ◌<◌, List, ◌∷◌, length, map, filter, ◌==◌, true, false, slice_index}
use Rattle.stream_model.specs.Network.{Connection, Network, HasLevels, node_at, role_at, is_source, given_by}
use Rattle.stream_model.specs.Firings.{allowed}
use Rattle.graph_model.specs.Rates.{least_of, greatest_of, count_after}
use Rattle.graph_model.specs.Graphs.{block_gain, gain_by}

-- the connections to a block
abbrev pub to_block : Network → ℕ → List Connection
to_block net b = filter (λ c. c.to == b) net.connections

-- firings after j iterations: of a source j * q, of another block as many as its writers' firings allow
pub record AreCountsAt (net : Network) (q : List ℕ) (j : ℕ) (count : ℕ → ℕ) : Type 0 where
  pub source : (b : ℕ) → b < length net.nodes → is_source (role_at net b) ≡ true → count b ≡ j * slice_index q b
  pub worker :
      (b : ℕ) → b < length net.nodes → is_source (role_at net b) ≡ false →
      count b ≡ least_of (map (λ c. allowed (node_at net b) c.in_port (given_by (node_at net c.from) (count c.from)))
      (to_block net b))

-- products of gains: the block's own, times the greatest of its writers'
abbrev pub AreGains : Network → (ℕ → ℕ) → Type 0
AreGains net gain = (b : ℕ) → b < length net.nodes → gain b ≡ block_gain net b * greatest_of
    (1 ∷ map (λ c. gain c.from) (to_block net b))

-- where connections form no loop, the tables hold what the definitions by turns say
pub record TablesCompute : Type 0 where
  pub counts :
      (net : Network) (level : ℕ → ℕ) → HasLevels net level → (q : List ℕ) (j : ℕ) (count : ℕ → ℕ)
      → AreCountsAt net q j count →
      (b : ℕ) → b < length net.nodes → count b ≡ count_after net q b j
  pub gains :
      (net : Network) (level : ℕ → ℕ) → HasLevels net level → (gain : ℕ → ℕ) → AreGains net gain →
      (b : ℕ) → b < length net.nodes → gain b ≡ gain_by (length net.nodes) net b
