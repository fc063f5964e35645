-- The connections of a valid graph, one by one.
use Rattle.std.proofs.Common.{◌≡◌, ℕ, ◌<◌, List, length, arith, ap, sym, ◌∙◌, subst, get_or}
use Rattle.std.specs.Prelude.{All}
use Rattle.std.proofs.lemmas.List.{length-map, get_or-map}
use Rattle.stream_model.specs.Network as model
use Rattle.stream_model.specs.Network.{no_connection}
use Rattle.stream_model.specs.Machine.{Capacities}
use Rattle.flowgraph.specs.declared.parts.Connection.{Connection}
use Rattle.flowgraph.specs.Flowgraph.{Flowgraph, net_of, node_of, connection_of}
use Rattle.kinds.specs.declared.kind.Kind.{Kind}
use Rattle.kinds.specs.Kind.{meaning_of}
use Rattle.rates.proofs.Listed.{first_place}
use Rattle.drawings.specs.Parts.{arrow_of, arrow_at}

module _ (g : Flowgraph Kind) (cs : List Connection) (same : cs ≡ g.connections) (n : ℕ) (inside : n < length cs) where
  -- connection n of the network
  connection_is : connection_of (get_or cs n first_place) ≡ get_or (net_of meaning_of g).connections n no_connection
  connection_is =
      let here : n < length g.connections = subst (λ (l : List Connection). n < length l) same inside in
      ap (λ (l : List Connection). connection_of (get_or l n first_place)) same ∙ sym (get_or-map connection_of g.connections n first_place no_connection here)

  -- its ends are blocks
  pub ends_are_blocks : All (λ c. (c.from < length (net_of meaning_of g).nodes) × (c.to < length (net_of meaning_of g).nodes)) (net_of meaning_of g).connections →
      ((get_or cs n first_place).from.0 < length g.blocks) × ((get_or cs n first_place).to.0 < length g.blocks)
  ends_are_blocks all =
      let long = length-map g.blocks (node_of meaning_of) in
      let wide = length-map g.connections connection_of in
      let many = ap length same in
      let ends = all n no_connection (omega arith) in
      let from = ap (λ (c : model.Connection). c.from) connection_is in
      let to = ap (λ (c : model.Connection). c.to) connection_is in
      let first = ends.0 in
      let second = ends.1 in
      (omega arith, omega arith)

  -- its arrow
  pub arrow_is : (caps : Capacities) → arrow_of g caps (connection_of (get_or cs n first_place)) ≡ arrow_at g caps n
  arrow_is caps = ap (arrow_of g caps) connection_is
