-- The capacities of a valid graph are at least 1.
use Rattle.std.proofs.Common.{◌≡◌, ℕ, ◌<◌, ◌≤◌, max, List, [], ◌∷◌, ◌++◌, map, length, arith, ap, ◌∙◌}
use Rattle.std.specs.Prelude.{fold, slice_index_or}
use Rattle.std.proofs.lemmas.List.FromFn.{get_or-map-range_with_len}
use Rattle.stream_model.specs.Lists.{below}
use Rattle.stream_model.specs.Network.{Network, no_node, node_at, readers_of, used_outputs}
use Rattle.stream_model.specs.Firings.{gives}
use Rattle.stream_model.specs.Machine.{capacity_at}
use Rattle.graph_model.specs.Graphs.{IsValidGraph}
use Rattle.graph_model.specs.Rates.{Balance, takes_on, needed_of, capacity_of, capacities_of}
use Rattle.plant_storage.specs.Opening.{HaveCapacities}

at_least : (x : ℕ) (xs : List ℕ) → x ≤ fold max x xs
at_least x [] = omega arith
at_least x (y ∷ ys) = let rest = at_least (max x y) ys in omega arith

module _ (net : Network) (bal : Balance) where
  capacity_is : (b p : ℕ) → b < length net.nodes → p < used_outputs net b → capacity_at (capacities_of net bal) b p ≡ capacity_of net bal b p
  capacity_is b p in' used =
      ap (λ (row : List ℕ). slice_index_or row p 0)
      (get_or-map-range_with_len (λ b. map (capacity_of net bal b) (below (used_outputs net b))) 0 (length net.nodes) b b [] in' (omega arith))
      ∙ get_or-map-range_with_len (capacity_of net bal b) 0 (used_outputs net b) p p 0 used (omega arith)

  pub have_capacities : (names : List (List ℕ)) → IsValidGraph names net → HaveCapacities net (capacities_of net bal)
  have_capacities names valid b p in' used =
      let configured = (valid.graph.capacity b no_node in').0 in
      let cs = readers_of net b p in
      let least = at_least (max 0 (node_at net b).capacity) (gives (node_at net b) ∷ map (takes_on net) cs ++ map (needed_of net bal) cs) in
      let is = capacity_is b p in' used in
      omega (arith, least)
