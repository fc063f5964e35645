-- The network of a graph.
use Rattle.std.proofs.Common.{◌≡◌, ℕ, List, [], ◌∷◌, ◌++◌, map, get_or, None, sym, ap, subst, ◌∙◌}
use Rattle.std.proofs.lemmas.List.{map-append}
use Rattle.std.specs.List.{All}
use Rattle.std.proofs.lemmas.List.Elements.{All-map}
use Rattle.stream_model.specs.Meaning.{Meaning, IsLawful}
use Rattle.stream_model.specs.Network.{Node}
use Rattle.graph_model.specs.Graphs.{IsGraph, add_fault, connect_fault}
use Rattle.graph_laws.proofs.Build.{building_keeps}
use Rattle.flowgraph.specs.declared.parts.Connection.{Connection}
use Rattle.flowgraph.specs.declared.parts.Entry.{Entry}
use Rattle.flowgraph.specs.Flowgraph.{node_of, net_of, graph_of, connection_of}

module _ {B : Type 0} (meaning : B → Meaning) where
  -- blocks that keep the laws are nodes that do
  pub lawful_nodes : ((b : B) → IsLawful (meaning b)) → (es : List (Entry B)) → All (λ (n : Node). IsLawful n.meaning) (map (node_of meaning) es)
  lawful_nodes lawful es = All-map (λ (n : Node). IsLawful n.meaning) (node_of meaning) es (λ k d low. lawful (get_or es k d).block)

  -- what adding and connecting do not refuse leaves a graph in order
  pub added :
      (names names' : List (List ℕ)) (es es' : List (Entry B)) (cs : List Connection) (name : List ℕ) (e : Entry B) →
      names' ≡ names ++ name ∷ [] → es' ≡ es ++ e ∷ [] → IsGraph names (net_of meaning (graph_of names es cs)) →
      add_fault names (net_of meaning (graph_of names es cs)) name (node_of meaning e) ≡ None → IsGraph names' (net_of meaning (graph_of names' es' cs))
  added names names' es es' cs name e named blocks graph allowed =
      let more = building_keeps.adding names (net_of meaning (graph_of names es cs)) name (node_of meaning e) graph allowed in
      let nodes : map (node_of meaning) es ++ node_of meaning e ∷ [] ≡ map (node_of meaning) es' = sym (ap (map (node_of meaning)) blocks ∙ map-append (node_of meaning) es (e ∷ [])) in
      subst (λ ns. IsGraph ns (net_of meaning (graph_of ns es' cs))) (sym named)
      (subst (λ ns. IsGraph (names ++ name ∷ []) (record { nodes = ns; connections = map connection_of cs })) nodes more)

  pub connected :
      (names : List (List ℕ)) (es : List (Entry B)) (cs cs' : List Connection) (c : Connection) →
      cs' ≡ cs ++ c ∷ [] → IsGraph names (net_of meaning (graph_of names es cs)) →
      connect_fault (net_of meaning (graph_of names es cs)) (connection_of c) ≡ None → IsGraph names (net_of meaning (graph_of names es cs'))
  connected names es cs cs' c joined graph allowed =
      let more = building_keeps.connecting names (net_of meaning (graph_of names es cs)) (connection_of c) graph allowed in
      let all : map connection_of cs ++ connection_of c ∷ [] ≡ map connection_of cs' = sym (ap (map connection_of) joined ∙ map-append connection_of cs (c ∷ [])) in
      subst (λ ds. IsGraph names (record { nodes = map (node_of meaning) es; connections = ds })) all more

  -- which connection is refused hangs on the blocks and the connections, and no name
  pub connect_same :
      (es es' : List (Entry B)) (cs cs' : List Connection) (c : Connection) →
      es ≡ es' → cs ≡ cs' → connect_fault (net_of meaning (graph_of [] es cs)) (connection_of c) ≡ connect_fault (net_of meaning (graph_of [] es' cs')) (connection_of c)
  connect_same es es' cs cs' c blocks connections =
      ap (λ xs. connect_fault (net_of meaning (graph_of [] xs cs)) (connection_of c)) blocks
      ∙ ap (λ ys. connect_fault (net_of meaning (graph_of [] es' ys)) (connection_of c)) connections
