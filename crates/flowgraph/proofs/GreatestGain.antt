-- The greatest product of gains, from those that were told of each block.
use Rattle.std.proofs.Common.{◌≡◌, ℕ, ◌+◌, ◌/◌, ◌<◌, ◌≤◌, min, List, ◌∷◌, map, length, get_or, arith, ap, sym, ◌∙◌, subst}
use Rattle.std.proofs.lemmas.List.{ext_get_or}
use Rattle.std.proofs.lemmas.List.FromFn.{length-map-range_with_len, get_or-map-range_with_len}
use Rattle.stream_model.specs.Lists.{below}
use Rattle.stream_model.specs.Meaning.{Meaning}
use Rattle.graph_model.specs.Rates.{greatest_of}
use Rattle.graph_model.specs.Gains.{most_grown, greatest_gain, longest_within_gain}
use Rattle.graph_model.specs.Graphs.{gain_by, most_gain, IsValidGraph}
use Rattle.graph_laws.specs.Gains.{FitsItsGain}
use Rattle.graph_laws.specs.Running.{AreLawful}
use Rattle.graph_laws.proofs.Gains.{greatest_some, valid_graphs_fit}
use Rattle.flowgraph.specs.declared.parts.Connection.{Connection}
use Rattle.flowgraph.specs.declared.parts.Entry.{Entry}
use Rattle.flowgraph.specs.Flowgraph.{Flowgraph, net_of}
use Rattle.flowgraph.proofs.Assembly.{net, nodes}

module _ {B : Type 0} (meaning : B → Meaning) (es : List (Entry B)) (cs : List Connection) where
  -- where none is above the limit, the greatest of those that were told is the graph's
  pub greatest_told :
      (gains : List ℕ) → length gains ≡ length es → ((b : ℕ) → b < length es → get_or gains b 0 ≡ min (most_gain + 1) (gain_by (length es) (net meaning es cs) b)) →
      ((b : ℕ) → b < length es → get_or gains b 0 ≤ most_gain) → greatest_of (1 ∷ gains) ≡ greatest_gain (net meaning es cs)
  greatest_told gains len told few =
      ap (λ xs. greatest_of (1 ∷ xs)) all ∙ ap (λ n. greatest_of (1 ∷ map (gain_by n (net meaning es cs)) (below n))) (sym (nodes meaning es cs))
    where
      long : length (map (gain_by (length es) (net meaning es cs)) (below (length es))) ≡ length es
      long = length-map-range_with_len (gain_by (length es) (net meaning es cs)) 0 (length es)

      each : (b : ℕ) → b < length es → get_or gains b 0 ≡ gain_by (length es) (net meaning es cs) b
      each b low = let is = told b low in let most = few b low in omega arith

      all : gains ≡ map (gain_by (length es) (net meaning es cs)) (below (length es))
      all =
          ext_get_or 0 gains (map (gain_by (length es) (net meaning es cs)) (below (length es))) (len ∙ sym long)
          (λ b low. let here : b < length es = omega arith in
          each b here ∙ sym (get_or-map-range_with_len (gain_by (length es) (net meaning es cs)) 0 (length es) b b 0 here (omega arith)))

-- what a valid graph says of its gain, as it is seen
module _ {B : Type 0} (meaning : B → Meaning) (graph seen : Flowgraph B) (same : graph ≡ seen) where
  pub longest_is : (gain : ℕ) → gain ≡ greatest_gain (net_of meaning graph) → most_grown / gain ≡ longest_within_gain (net_of meaning seen)
  longest_is gain is = ap (λ n. most_grown / n) is ∙ ap (λ (h : Flowgraph B). longest_within_gain (net_of meaning h)) same

  pub gain_some : (gain : ℕ) → gain ≡ greatest_gain (net_of meaning graph) → 1 ≤ gain
  gain_some gain is = let some = greatest_some (net_of meaning graph) in omega arith

  pub fits_as_seen : IsValidGraph graph.names (net_of meaning graph) → AreLawful (net_of meaning graph) → FitsItsGain (net_of meaning seen)
  fits_as_seen valid lawful = subst (λ (h : Flowgraph B). FitsItsGain (net_of meaning h)) same (valid_graphs_fit graph.names (net_of meaning graph) valid lawful)
