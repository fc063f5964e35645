-- The tests of a graph and its tables, put together.
use Rattle.std.proofs.Common.{◌≡◌, ℕ, zero, suc, ◌+◌, ◌*◌, ◌<◌, ◌≤◌, min, true, List, [], ◌∷◌, ◌++◌, map, length, get_or, refl, arith, ap, sym, subst, ◌∙◌, append-nil, zero-add, add-zero}
use Rattle.std.specs.Prelude.{◌==◌, ◌||◌, Option, Some, None, option_map, slice_get, nat_lt}
use Rattle.std.specs.List.{list_any, filter, find, flat_map}
use Rattle.std.proofs.lemmas.Bool.{ltb-true}
use Rattle.std.proofs.lemmas.List.{length-map, get_or-map}
use Rattle.std.proofs.lemmas.List.Concat.{flat_map-cons}
use Rattle.std.proofs.lemmas.List.FromFn.{get_or-map-range_with_len, length-map-range_with_len}
use Rattle.std.proofs.lemmas.Option.{slice_get-map, slice_get-get_or}
use Rattle.stream_model.specs.Lists.{below, numbers_from}
use Rattle.stream_model.specs.Meaning.{Meaning}
use Rattle.stream_model.specs.Network as model
use Rattle.stream_model.specs.Network.{Network, node_at, readers_of, used_outputs}
use Rattle.graph_model.specs.Graphs.{In, Out, has_port, most_ports, most_gain, reaches_by, gain_by, graph_fault, first_fault, GraphFault, Loop, Gain, IsGraph}
use Rattle.flowgraph.specs.declared.fault.Limit.TheVariants.{Blocks}
use Rattle.flowgraph.specs.declared.fault.GraphFault as code
use Rattle.flowgraph.specs.declared.parts.Connection.{Connection}
use Rattle.flowgraph.specs.declared.parts.Entry.{Entry}
use Rattle.flowgraph.specs.declared.parts.Input.{Input}
use Rattle.flowgraph.specs.Fault.{told}
use Rattle.flowgraph.specs.Flowgraph.{net_of, node_of, graph_of, connection_of}
use Rattle.flowgraph.specs.Ports.{AreWithin, net_from}
use Rattle.flowgraph.specs.Tables.{AreTables}
use Rattle.flowgraph.specs.Tests.{port_faults}
use Rattle.flowgraph.specs.Wiring.{IsWired}
use Rattle.flowgraph.proofs.Wires.{used_outputs-few}

-- what stops the tests, and what lets them go on
pub stop : (ts us : List (Option GraphFault)) (f : code.GraphFault) → told Blocks (first_fault ts) ≡ Some f → told Blocks (first_fault (ts ++ us)) ≡ Some f
stop [] us f e = absurd (cc)
stop (None ∷ ts) us f e = stop ts us f e
stop (Some g ∷ ts) us f e = e

pub go : (ts us : List (Option GraphFault)) → told Blocks (first_fault ts) ≡ None → first_fault (ts ++ us) ≡ first_fault us
go [] us e = refl
go (None ∷ ts) us e = go ts us e
go (Some g ∷ ts) us e = absurd (cc)

pub alone : (t : Option GraphFault) → first_fault (t ∷ []) ≡ t
alone None = refl
alone (Some g) = refl

get_left : {X : Type 0} (xs ys : List X) (k : ℕ) → k < length xs → slice_get (xs ++ ys) k ≡ slice_get xs k
get_left [] ys k low = absurd (omega arith)
get_left (x ∷ xs) ys zero low = refl
get_left (x ∷ xs) ys (suc k) low = get_left xs ys k (omega arith)

get_right : {X : Type 0} (xs ys : List X) (k m : ℕ) → m ≡ length xs + k → slice_get (xs ++ ys) m ≡ slice_get ys k
get_right [] ys k m e = ap (slice_get ys) (e ∙ zero-add k)
get_right (x ∷ xs) ys k zero e = absurd (omega arith)
get_right (x ∷ xs) ys k (suc m) e = get_right xs ys k m (omega arith)

-- the row of a port stands at its place
row_at : (cs : List Connection) (a n b p : ℕ) → b < n → p < 16 →
    slice_get (flat_map (λ b. map (readers_of (net_from cs) b) (below 16)) (numbers_from a n)) (16 * b + p) ≡ Some (readers_of (net_from cs) (a + b) p)
row_at cs a zero b p low few = absurd (omega arith)
row_at cs a (suc n) zero p low few =
    let len : length (map (readers_of (net_from cs) a) (below 16)) ≡ 16 = length-map-range_with_len (readers_of (net_from cs) a) 0 16 in
    let place : 16 * 0 + p ≡ p = omega arith in
    ap (λ l. slice_get l (16 * 0 + p)) (flat_map-cons (λ b. map (readers_of (net_from cs) b) (below 16)) a (numbers_from (a + 1) n))
    ∙ ap (slice_get (map (readers_of (net_from cs) a) (below 16) ++ flat_map (λ b. map (readers_of (net_from cs) b) (below 16)) (numbers_from (a + 1) n))) place
    ∙ get_left (map (readers_of (net_from cs) a) (below 16)) _ p (omega arith)
    ∙ slice_get-get_or (map (readers_of (net_from cs) a) (below 16)) p [] (omega arith)
    ∙ ap (λ r. Some r) (get_or-map-range_with_len (readers_of (net_from cs) a) 0 16 p p [] few (zero-add p))
    ∙ ap (λ k. Some (readers_of (net_from cs) k p)) (sym (add-zero a))
row_at cs a (suc n) (suc b) p low few =
    let len : length (map (readers_of (net_from cs) a) (below 16)) ≡ 16 = length-map-range_with_len (readers_of (net_from cs) a) 0 16 in
    let same : a + 1 + b ≡ a + suc b = omega arith in
    ap (λ l. slice_get l (16 * suc b + p)) (flat_map-cons (λ b. map (readers_of (net_from cs) b) (below 16)) a (numbers_from (a + 1) n))
    ∙ get_right (map (readers_of (net_from cs) a) (below 16)) _ (16 * b + p) (16 * suc b + p) (omega arith)
    ∙ row_at cs (a + 1) n b p (omega arith) few
    ∙ ap (λ k. Some (readers_of (net_from cs) k p)) same

module _ {B : Type 0} (meaning : B → Meaning) (es : List (Entry B)) (cs : List Connection) where
  abbrev pub net : Network
  net = net_of meaning (graph_of [] es cs)

  pub nodes : length net.nodes ≡ length es
  nodes = length-map es (node_of meaning)

  pub reaches_same : (k a b : ℕ) → reaches_by k (net_from cs) a b ≡ reaches_by k net a b
  reaches_same zero a b = refl
  reaches_same (suc k) a b = λ i. list_any (λ c. c.to == b || reaches_same k c.to b i) (filter (λ c. c.from == a) (map connection_of cs))

  abbrev pub looped : Option GraphFault
  looped = option_map Loop (find (λ b. reaches_by (length es) (net_from cs) b b) (below (length es)))

  abbrev pub steep : Option GraphFault
  steep = option_map Gain (find (λ b. nat_lt most_gain (gain_by (length es) net b)) (below (length es)))

  -- the tests are those of the ports, of loops and of products
  pub tests : graph_fault net ≡ first_fault (port_faults net ++ looped ∷ steep ∷ [])
  tests =
      (λ i. first_fault (port_faults net
      ++ option_map Loop (find (λ b. reaches_by (nodes i) net b b) (below (nodes i)))
      ∷ option_map Gain (find (λ b. nat_lt most_gain (gain_by (nodes i) net b)) (below (nodes i))) ∷ []))
      ∙ sym (λ i. first_fault (port_faults net ++ option_map Loop (find (λ b. reaches_same (length es) b b i) (below (length es))) ∷ steep ∷ []))

  module _ (names : List (List ℕ)) (graph : IsGraph names net) where
    pub few_blocks : length es ≤ 256
    few_blocks = let few = graph.few_blocks in let n = nodes in omega arith

    pub within : AreWithin (length es) cs
    within k d low =
        let there : k < length net.connections = (let l = length-map cs connection_of in omega arith) in
        let same : get_or net.connections k (connection_of d) ≡ connection_of (get_or cs k d) = get_or-map connection_of cs k d (connection_of d) low in
        let ends = subst (λ (c : model.Connection). (c.from < length net.nodes) × (c.to < length net.nodes)) same (graph.ends k (connection_of d) there) in
        let ports = subst (λ (c : model.Connection). (has_port (node_at net c.from) Out c.out_port ≡ true) × (has_port (node_at net c.to) In c.in_port ≡ true)) same (graph.ports k (connection_of d) there) in
        let out = ltb-true (get_or cs k d).out_port (min most_ports (node_at net (get_or cs k d).from.0).meaning.outputs.most) ports.0 in
        let in' = ltb-true (get_or cs k d).in_port (min most_ports (node_at net (get_or cs k d).to.0).meaning.inputs.most) ports.1 in
        let n = nodes in
        let from = ends.0 in
        let to = ends.1 in
        (omega arith, omega arith, omega arith, omega arith)

    -- the tables wire the network
    pub wired : (inputs : List (List Input)) (outputs : List ℕ) (readers : List (List Connection)) → AreTables (length es) cs inputs outputs readers → IsWired net inputs outputs readers
    wired inputs outputs readers tables =
        record {
          writers = tables.writers ∙ ap (λ n. map (model.writers_of (net_from cs)) (below n)) (sym nodes);
          readers_known = tables.known;
          used = tables.used ∙ ap (λ n. map (used_outputs (net_from cs)) (below n)) (sym nodes);
          read = λ b p low used. (let few = used_outputs-few names net graph b in let n = nodes in
              sym (slice_get-map (map connection_of) readers (16 * b + p)) ∙ ap (λ l. slice_get l (16 * b + p)) (tables.read ∙ append-nil _) ∙ row_at cs 0 (length es) b p (omega arith) (omega arith) ∙ ap (λ k. Some (readers_of (net_from cs) k p)) (zero-add b));
        }
