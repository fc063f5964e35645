-- What the tables of a wired network hold for each block.
use Rattle.std.proofs.Common.{◌≡◌, ℕ, ◌+◌, ◌*◌, ◌<◌, ◌≤◌, Bool, true, false, max, min, List, [], ◌∷◌, map, length, get_or, arith, ap, sym, subst, ◌∙◌}
use Rattle.std.specs.Prelude.{suc, ◌==◌, if◌then◌else◌, Contains, Some, slice_get}
use Rattle.std.proofs.lemmas.Bool.{ltb-true}
use Rattle.std.proofs.lemmas.List.{length-map, get_or-map}
use Rattle.std.proofs.lemmas.List.FromFn.{length-map-range_with_len, get_or-map-range_with_len}
use Rattle.std.proofs.lemmas.List.Elements.{All-contains}
use Rattle.std.proofs.lemmas.Option.{slice_get-map, slice_get_within, get_or_from_slice_get}
use Rattle.stream_model.specs.Meaning.{Meaning}
use Rattle.stream_model.specs.Network.{Network, Connection, node_at, writers_of, readers_of, used_outputs, greatest_port}
use Rattle.graph_model.specs.Graphs.{In, Out, has_port, most_ports, IsGraph, IsValidGraph}
use Rattle.graph_laws.proofs.Members.{in_head, in_tail}
use Rattle.flowgraph.specs.declared.parts.Connection as code
use Rattle.flowgraph.specs.declared.parts.Input.{Input}
use Rattle.flowgraph.specs.Flowgraph.{Flowgraph, connection_of, net_of, node_of}
use Rattle.flowgraph.specs.Wiring.{IsWired, writers_in}

module _ (net : Network) (inputs : List (List Input)) (outputs : List ℕ) (readers : List (List code.Connection)) (wired : IsWired net inputs outputs readers) where
  pub inputs-length : length inputs ≡ length net.nodes
  inputs-length = sym (length-map inputs writers_in) ∙ ap length wired.writers ∙ length-map-range_with_len (writers_of net) 0 (length net.nodes)

  pub inputs-row : (b : ℕ) → b < length net.nodes → writers_in (get_or inputs b []) ≡ writers_of net b
  inputs-row b low =
      sym (get_or-map writers_in inputs b [] [] (let same = inputs-length in omega arith))
      ∙ ap (λ rows. get_or rows b []) wired.writers
      ∙ get_or-map-range_with_len (writers_of net) 0 (length net.nodes) b b [] low (omega arith)

  pub outputs-length : length outputs ≡ length net.nodes
  outputs-length = ap length wired.used ∙ length-map-range_with_len (used_outputs net) 0 (length net.nodes)

  pub outputs-at : (b d : ℕ) → b < length net.nodes → get_or outputs b d ≡ used_outputs net b
  outputs-at b d low =
      ap (λ counts. get_or counts b d) wired.used ∙ get_or-map-range_with_len (used_outputs net) 0 (length net.nodes) b b d low (omega arith)

  module _ (b p : ℕ) (low : b < length net.nodes) (used : p < used_outputs net b) where
    stored : slice_get (map (map connection_of) readers) (most_ports * b + p) ≡ Some (readers_of net b p)
    stored = slice_get-map (map connection_of) readers (most_ports * b + p) ∙ wired.read b p low used

    pub readers-within : most_ports * b + p < length readers
    readers-within =
        let within = slice_get_within (map (map connection_of) readers) (most_ports * b + p) (readers_of net b p) stored in
        let same = length-map readers (map connection_of) in
        omega arith

    pub readers-row : map connection_of (get_or readers (most_ports * b + p) []) ≡ readers_of net b p
    readers-row =
        sym (get_or-map (map connection_of) readers (most_ports * b + p) [] [] readers-within)
        ∙ get_or_from_slice_get (map (map connection_of) readers) (most_ports * b + p) (readers_of net b p) [] stored

-- no more outputs are used than a block may have
module _ (b most : ℕ) where
  pub greatest_port-most : (cs : List Connection) → ((c : Connection) → Contains cs c → c.out_port < most) → greatest_port b cs ≤ most
  greatest_port-most [] low = omega arith
  greatest_port-most (c ∷ cs) low =
      here (c.from == b) (low c (in_head c cs)) (greatest_port-most cs (λ d there. low d (in_tail c d cs there)))
    where
      here : (t : Bool) → c.out_port < most → greatest_port b cs ≤ most → (if t then max (suc c.out_port) (greatest_port b cs) else greatest_port b cs) ≤ most
      here true head rest = omega arith
      here false head rest = rest

pub used_outputs-few : (names : List (List ℕ)) (net : Network) → IsGraph names net → (b : ℕ) → used_outputs net b ≤ 16
used_outputs-few names net graph b =
    greatest_port-most b 16 net.connections
    (λ c there. let both = All-contains (λ c. (has_port (node_at net c.from) Out c.out_port ≡ true) × (has_port (node_at net c.to) In c.in_port ≡ true)) net.connections c graph.ports there in
    let out = ltb-true c.out_port (min most_ports (node_at net c.from).meaning.outputs.most) both.0 in
    omega arith)

-- the same of a graph that a value shows
module _ {B : Type 0} (meaning : B → Meaning) (view now : Flowgraph B) (same : view ≡ now) (inputs : List (List Input)) (outputs : List ℕ) (readers : List (List code.Connection)) where
  module _ (wired : IsWired (net_of meaning view) inputs outputs readers) (b : ℕ) (low : b < length now.blocks) where
    moved : IsWired (net_of meaning now) inputs outputs readers
    moved = subst (λ graph. IsWired (net_of meaning graph) inputs outputs readers) same wired

    inside : b < length (net_of meaning now).nodes
    inside = let count = length-map now.blocks (node_of meaning) in omega arith

    pub has_inputs : b < length inputs
    has_inputs = let count = inputs-length (net_of meaning now) inputs outputs readers moved in let here = inside in omega arith

    pub inputs_are : writers_in (get_or inputs b []) ≡ writers_of (net_of meaning now) b
    inputs_are = inputs-row (net_of meaning now) inputs outputs readers moved b inside

    pub has_outputs : b < length outputs
    has_outputs = let count = outputs-length (net_of meaning now) inputs outputs readers moved in let here = inside in omega arith

    pub outputs_are : (d : ℕ) → get_or outputs b d ≡ used_outputs (net_of meaning now) b
    outputs_are d = outputs-at (net_of meaning now) inputs outputs readers moved b d inside

    module _ (p : ℕ) (used : p < used_outputs (net_of meaning now) b) where
      pub has_readers : most_ports * b + p < length readers
      has_readers = readers-within (net_of meaning now) inputs outputs readers moved b p inside used

      pub readers_are : map connection_of (get_or readers (most_ports * b + p) []) ≡ readers_of (net_of meaning now) b p
      readers_are = readers-row (net_of meaning now) inputs outputs readers moved b p inside used

  pub few_outputs : IsValidGraph view.names (net_of meaning view) → (b : ℕ) → used_outputs (net_of meaning now) b ≤ 16
  few_outputs valid b =
      let moved : IsValidGraph now.names (net_of meaning now) = subst (λ graph. IsValidGraph graph.names (net_of meaning graph)) same valid in
      used_outputs-few now.names (net_of meaning now) moved.graph b

  pub few_blocks : IsValidGraph view.names (net_of meaning view) → length now.blocks ≤ 256
  few_blocks valid =
      let moved : IsValidGraph now.names (net_of meaning now) = subst (λ graph. IsValidGraph graph.names (net_of meaning graph)) same valid in
      let few = moved.graph.few_blocks in
      let count = length-map now.blocks (node_of meaning) in
      omega arith
