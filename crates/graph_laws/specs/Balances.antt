-- What the answer on rates means.
use Rattle.std.specs.Prelude.{◌≡◌, ◌↔◌, ℕ, ◌*◌, ◌<◌, ◌≤◌, List, length, All, true, slice_index}
use Rattle.stream_model.specs.Network.{Network, node_at}
use Rattle.graph_model.specs.Graphs.{IsValidGraph}
use Rattle.stream_model.specs.Firings.{gives}
use Rattle.graph_model.specs.Rates.{Balanced, Uneven, TooLarge, IsBalanced, IsLeastBalanced, count_limit, ahead, is_past_skips, balance_of}
use Rattle.graph_laws.specs.Running.{AreLawful}

-- no block fires or gives more than the limit in an iteration
pub record KeepsCounts (net : Network) (q : List ℕ) : Type 0 where
  pub firings : (b : ℕ) → b < length net.nodes → slice_index q b ≤ count_limit
  pub items : (b : ℕ) → b < length net.nodes → slice_index q b * gives (node_at net b) ≤ count_limit

-- all first items that are left out are past within so many iterations, and no step takes a writer further ahead of its
-- reader than the limit
pub record KeepsSizes (net : Network) (q : List ℕ) : Type 0 where
  pub iterations : ℕ
  pub few : iterations ≤ count_limit
  pub past : is_past_skips net q iterations ≡ true
  pub room : All (λ c. (n : ℕ) → ahead net q c n ≤ count_limit) net.connections

-- a balance whose least one needs too many iterations or too large buffers
pub record IsTooFar (net : Network) : Type 0 where
  pub firings : List ℕ
  pub least : IsLeastBalanced net firings
  pub beyond : ¬ (KeepsSizes net firings)

-- the answer on rates is right: it is a balance exactly where that is the least one and within the limits; there is
-- none where the answer is that the rates are uneven; and where it is that they are too large, no balance keeps the
-- limits on counts, or the least one is beyond those on sizes
pub record IsRightAnswer (net : Network) : Type 0 where
  pub balanced : (q : List ℕ) → (balance_of net ≡ Balanced q) ↔ (IsLeastBalanced net q × KeepsCounts net q
      × KeepsSizes net q)
  pub uneven : balance_of net ≡ Uneven → (r : List ℕ) → ¬ (IsBalanced net r)
  pub too_large : balance_of net ≡ TooLarge → (r : List ℕ) → IsBalanced net r → KeepsCounts net r → IsTooFar net

abbrev pub AnswersAreRight : Type 0
AnswersAreRight = (names : List (List ℕ)) (net : Network) → IsValidGraph names net → AreLawful net → IsRightAnswer net
