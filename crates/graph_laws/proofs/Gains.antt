-- The longest tape that fits a valid graph is what its greatest gain leaves of the limit.
use Rattle.std.proofs.Common.{◌≡◌, ℕ, ◌*◌, ◌^◌, ◌<◌, ◌≤◌, List, [], ◌∷◌, map, length, refl, arith, sym, subst, All, inl, inr}
use Rattle.std.specs.List.{Contains}
use Rattle.std.specs.Prelude.{◌⊎◌}
use Rattle.std.proofs.Math.Nat.{mul-le-mul_left, mul-le-mul_right, mul_comm, mul-div-le, le-div_iff_mul-le}
use Rattle.std.proofs.lemmas.List.Elements.{All-contains, Contains-get_or}
use Rattle.std.proofs.lemmas.List.FromFn.{length-range_with_len, length-map-range_with_len, get_or-range_with_len, get_or-map-range_with_len}
use Rattle.stream_model.specs.Lists.{below}
use Rattle.stream_model.specs.Meaning.{IsLawful}
use Rattle.stream_model.specs.Network.{Node, Connection, Network, node_at, longest_tape}
use Rattle.stream_laws.specs.CanRun.{CanRun}
use Rattle.graph_model.specs.Graphs.{IsWalk, most_gain, block_gain, gain_along, gain_by, level_of, IsValidGraph}
use Rattle.graph_model.specs.Gains.{most_grown, IsWithinGain, greatest_gain, longest_within_gain}
use Rattle.graph_laws.specs.Gains.{FitsItsGain, ValidGraphsFit}
use Rattle.graph_laws.proofs.Levels.{gain_by-is, gain_most, no_return}
use Rattle.graph_laws.proofs.Members.{in_tail, greatest_of-from, fold_max-is}
use Rattle.graph_laws.proofs.Runs.{valid_graphs_run}
use Rattle.graph_model.proofs.Gains.{gives_at_most}
use Rattle.graph_laws.proofs.Walks.{walk_start, walk_end}

pub greatest_some : (net : Network) → 1 ≤ greatest_gain net
greatest_some net = greatest_of-from (1 ∷ map (gain_by (length net.nodes) net) (below (length net.nodes))) 1 (0, omega arith, refl)

module _ (names : List (List ℕ)) (net : Network) (valid : IsValidGraph names net) (lawful : All (λ (n : Node). IsLawful n.meaning) net.nodes) where
  abbrev own_gain : ℕ → ℕ
  own_gain b = gain_by (length net.nodes) net b

  -- a block's gain is that of a path which ends there
  record HasGain (g : ℕ) : Type 0 where
    pub first : ℕ
    pub last : ℕ
    pub walk : List Connection
    pub inside : first < length net.nodes
    pub joins : IsWalk net first last walk
    pub is : gain_along net first walk ≡ g

  has_gain : (b : ℕ) → b < length net.nodes → HasGain (own_gain b)
  has_gain b in' =
      let w = gain_by-is net (length net.nodes) b in
      record { first = w.0; last = b; walk = w.1; inside = walk_start net (length net.nodes) w.0 b w.1 valid.graph.ends in' w.2; joins = w.2; is = w.3 }

  -- the greatest is that of some path, or 1
  greatest_is : (greatest_gain net ≡ 1) ⊎ HasGain (greatest_gain net)
  greatest_is =
      elim (fold_max-is own_gain 1 (below (length net.nodes))) [
        | inl e ↦ inl e
        | inr h ↦ inr (subst HasGain (sym h.2) (has_gain h.0 (All-contains (λ b. b < length net.nodes) (below (length net.nodes)) h.0 inside h.1)))
      ]
    where
      inside : All (λ b. b < length net.nodes) (below (length net.nodes))
      inside k d lt =
          let long = length-range_with_len 0 (length net.nodes) in
          let here : k < length net.nodes = omega arith in
          let is = get_or-range_with_len 0 (length net.nodes) k d here in
          omega arith

  -- and none is above it
  gain_low : (b : ℕ) → b < length net.nodes → own_gain b ≤ greatest_gain net
  gain_low b in' =
      greatest_of-from (1 ∷ map own_gain (below (length net.nodes))) (own_gain b) (in_tail 1 (own_gain b) (map own_gain (below (length net.nodes))) there)
    where
      long : length (map own_gain (below (length net.nodes))) ≡ length net.nodes
      long = length-map-range_with_len own_gain 0 (length net.nodes)

      there : Contains (map own_gain (below (length net.nodes))) (own_gain b)
      there =
          subst (Contains (map own_gain (below (length net.nodes)))) (get_or-map-range_with_len own_gain 0 (length net.nodes) b b 0 in' (omega arith))
          (Contains-get_or (map own_gain (below (length net.nodes))) b 0 (rw long in'))

  walks_low : (a b : ℕ) (cs : List Connection) → a < length net.nodes → IsWalk net a b cs → gain_along net a cs ≤ greatest_gain net
  walks_low a b cs in' walk =
      let most = gain_most net valid.graph.ends (λ c _. no_return net (level_of net) valid.levels c) a b cs in' walk in
      let low = gain_low b (walk_end net (length net.nodes) a b cs valid.graph.ends in' walk) in
      omega arith

  greatest_few : greatest_gain net ≤ most_gain
  greatest_few = elim greatest_is [ inl e ↦ omega arith | inr h ↦ (let few = valid.gain h.first h.last h.walk h.inside h.joins in let is = h.is in omega arith) ]

  no_longer : 0 < length net.nodes → (n : ℕ) → IsWithinGain net n → greatest_gain net * n ≤ most_grown
  no_longer one n within =
      elim greatest_is [
        | inl e ↦ (
            let least : 1 ≤ block_gain net 0 = (gives_at_most (node_at net 0).meaning (can.sound 0).lawful 0).0 in
            let own = within 0 0 [] one refl in
            let more : 1 * n ≤ block_gain net 0 * n = mul-le-mul_right n least in
            rw e (omega arith))
        | inr h ↦ subst (λ g. g * n ≤ most_grown) h.is (within h.first h.last h.walk h.inside h.joins)
      ]
    where
      can : CanRun net
      can = (valid_graphs_run names net valid lawful).0

  pub fits : FitsItsGain net
  fits =
      record {
        usual = λ a b cs in' walk.
            let few = mul-le-mul_right longest_tape (valid.gain a b cs in' walk) in
            omega arith;
        longest = λ a b cs in' walk.
            let few = mul-le-mul_right (longest_within_gain net) (walks_low a b cs in' walk) in
            let whole = mul-div-le most_grown (greatest_gain net) in
            omega arith;
        enough = (le-div_iff_mul-le {k = greatest_gain net} {x = 2 ^ 37} {y = most_grown} (greatest_some net)).1
            (let few : 2 ^ 37 * greatest_gain net ≤ 2 ^ 37 * most_gain = mul-le-mul_left (2 ^ 37) greatest_few in omega arith);
        no_longer = λ one n within. (le-div_iff_mul-le {k = greatest_gain net} {x = n} {y = most_grown} (greatest_some net)).1
            (rw mul_comm (no_longer one n within));
      }

pub valid_graphs_fit : ValidGraphsFit
valid_graphs_fit = fits
