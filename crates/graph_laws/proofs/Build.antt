-- What is not refused keeps a graph in order.
use Rattle.std.proofs.Common.{◌≡◌, ℕ, ◌+◌, ◌<◌, ◌≤◌, Bool, true, false, List, [], ◌∷◌, ◌++◌, length, Option, None, get_or, refl, arith, ap, sym, ◌∙◌, subst}
use Rattle.std.specs.Prelude.{◌≢◌, ◌==◌, ◌&&◌, not, nat_lt, nat_le, bytes_eq}
use Rattle.std.specs.List.{list_any}
use Rattle.std.proofs.lemmas.Bool.{and_parts, both_ways, leb-true, ltb-true, eq-eqb, not-true, and_from, true_from_ne_false}
use Rattle.std.proofs.lemmas.Bool.Decides.{not_from_Decides}
use Rattle.std.proofs.lemmas.List.{length_push, get_or_append_left}
use Rattle.std.proofs.lemmas.List.Elements.{All-nil, All-push, Contains-get_or}
use Rattle.std.proofs.lemmas.List.Quantifiers.{all_pairs_push}
use Rattle.std.proofs.lemmas.Slice.Eq.{bytes_eq-Decides}
use Rattle.stream_model.specs.Network.{Node, Connection, Network, node_at, no_node, enters}
use Rattle.stream_model.specs.Numbers.{types_agree}
use Rattle.graph_model.specs.Graphs.{In, Out, has_port, signature_of, same_type, is_name, is_from_one, multiples, most_blocks, most_connections, most_capacity, IsGraph, GraphFault, DuplicateName, UnknownBlock, PortRange, InputTaken, TypeMismatch, TooLarge, BadName, BadMultiple, BadCapacity, unless, first_fault, add_fault, connect_fault}
use Rattle.graph_laws.specs.Building.{empty, with_block, with_connection, BuildingKeeps}
use Rattle.graph_laws.proofs.Members.{any_from}
use Rattle.graph_laws.proofs.Search.{first-None}

passed : (b : Bool) (f : GraphFault) → unless b f ≡ None → b ≡ true
passed true f e = refl
passed false f e = absurd (cc)

-- the first of some tests passed, and the rest refuses nothing
pass : (b : Bool) (f : GraphFault) (ts : List (Option GraphFault)) → first_fault (unless b f ∷ ts) ≡ None → (b ≡ true) × (first_fault ts ≡ None)
pass b f ts e = let h = first-None (unless b f) ts e in (passed b f h.0, h.1)

in_range : (n most : ℕ) → is_from_one n most ≡ true → (1 ≤ n) × (n ≤ most)
in_range n most e = let h = and_parts (nat_le 1 n) (nat_le n most) e in (leb-true 1 n h.0, leb-true n most h.1)

-- no element passes a test that none passes
fails : {X : Type 0} (test : X → Bool) (xs : List X) → not (list_any test xs) ≡ true → (k : ℕ) (d : X) → k < length xs → test (get_or xs k d) ≡ true → ⊥
fails test xs none k d lt e = both_ways (list_any test xs) (not-true (list_any test xs) none) (any_from test xs (get_or xs k d) (Contains-get_or xs k d lt) e)

empty_is : IsGraph [] empty
empty_is =
    record {
      few_blocks = omega arith;
      few_connections = omega arith;
      named = refl;
      good_names = All-nil (λ s. is_name s ≡ true);
      distinct = λ i j d l h. absurd (omega arith);
      multiple = All-nil (λ (n : Node). (1 ≤ n.multiple) × (n.multiple ≤ multiples n.meaning));
      capacity = All-nil (λ (n : Node). (1 ≤ n.capacity) × (n.capacity ≤ most_capacity));
      ends = λ k d lt. absurd (omega arith);
      ports = λ k d lt. absurd (omega arith);
      one_writer = λ i j d l h. absurd (omega arith);
      types = λ k d lt. absurd (omega arith);
    }

module _ (names : List (List ℕ)) (net : Network) (graph : IsGraph names net) where
  -- the blocks before stay where they are
  stays : (n : Node) (b : ℕ) → b < length net.nodes → node_at (with_block net n) b ≡ node_at net b
  stays n b h = get_or_append_left net.nodes (n ∷ []) no_node b h

  adding : (name : List ℕ) (n : Node) → add_fault names net name n ≡ None → IsGraph (names ++ name ∷ []) (with_block net n)
  adding name n e =
      let t1 = pass (is_name name) BadName (unless (is_from_one n.multiple (multiples n.meaning)) BadMultiple ∷ unless (is_from_one n.capacity most_capacity) BadCapacity ∷ unless (not (list_any (bytes_eq name) names)) DuplicateName ∷ unless (nat_lt (length net.nodes) most_blocks) TooLarge ∷ []) e in
      let t2 = pass (is_from_one n.multiple (multiples n.meaning)) BadMultiple (unless (is_from_one n.capacity most_capacity) BadCapacity ∷ unless (not (list_any (bytes_eq name) names)) DuplicateName ∷ unless (nat_lt (length net.nodes) most_blocks) TooLarge ∷ []) t1.1 in
      let t3 = pass (is_from_one n.capacity most_capacity) BadCapacity (unless (not (list_any (bytes_eq name) names)) DuplicateName ∷ unless (nat_lt (length net.nodes) most_blocks) TooLarge ∷ []) t2.1 in
      let t4 = pass (not (list_any (bytes_eq name) names)) DuplicateName (unless (nat_lt (length net.nodes) most_blocks) TooLarge ∷ []) t3.1 in
      let t5 = pass (nat_lt (length net.nodes) most_blocks) TooLarge [] t4.1 in
      let room : length net.nodes < most_blocks = ltb-true (length net.nodes) most_blocks t5.0 in
      let more : length (net.nodes ++ n ∷ []) ≡ length net.nodes + 1 = length_push net.nodes n in
      record {
        few_blocks = omega arith;
        few_connections = graph.few_connections;
        named = length_push names name ∙ ap (λ x. x + 1) graph.named ∙ sym more;
        good_names = All-push (λ s. is_name s ≡ true) names name graph.good_names t1.0;
        distinct = all_pairs_push (λ s t. s ≢ t) names name graph.distinct
            (λ k d lt same. fails (bytes_eq name) names t4.0 k d lt
            (true_from_ne_false (bytes_eq name (get_or names k d)) (λ no. not_from_Decides (bytes_eq name (get_or names k d)) (bytes_eq-Decides name (get_or names k d)) no (sym same))));
        multiple = All-push (λ (n : Node). (1 ≤ n.multiple) × (n.multiple ≤ multiples n.meaning)) net.nodes n graph.multiple (in_range n.multiple (multiples n.meaning) t2.0);
        capacity = All-push (λ (n : Node). (1 ≤ n.capacity) × (n.capacity ≤ most_capacity)) net.nodes n graph.capacity (in_range n.capacity most_capacity t3.0);
        ends = λ k d lt. let both = graph.ends k d lt in let from = both.0 in let to = both.1 in (omega arith, omega arith);
        ports = λ k d lt.
            let c = get_or net.connections k d in
            let both = graph.ends k d lt in
            let port = graph.ports k d lt in (
              subst (λ m. has_port m Out c.out_port ≡ true) (sym (stays n c.from both.0)) port.0,
              subst (λ m. has_port m In c.in_port ≡ true) (sym (stays n c.to both.1)) port.1,
            );
        one_writer = graph.one_writer;
        types = λ k d lt.
            let c = get_or net.connections k d in
            let both = graph.ends k d lt in
            subst (λ m. types_agree (signature_of m Out).item (signature_of (node_at (with_block net n) c.to) In).item ≡ true) (sym (stays n c.from both.0))
            (subst (λ m. types_agree (signature_of (node_at net c.from) Out).item (signature_of m In).item ≡ true) (sym (stays n c.to both.1)) (graph.types k d lt));
      }

  connecting : (c : Connection) → connect_fault net c ≡ None → IsGraph names (with_connection net c)
  connecting c e =
      let t1 = pass (nat_lt c.from (length net.nodes) && nat_lt c.to (length net.nodes)) UnknownBlock (unless (has_port (node_at net c.from) Out c.out_port) (PortRange c.from Out c.out_port) ∷ unless (has_port (node_at net c.to) In c.in_port) (PortRange c.to In c.in_port) ∷ unless (not (list_any (enters c.to c.in_port) net.connections)) (InputTaken c.to c.in_port) ∷ unless (same_type net c) (TypeMismatch c.to c.in_port) ∷ unless (nat_lt (length net.connections) most_connections) TooLarge ∷ []) e in
      let t2 = pass (has_port (node_at net c.from) Out c.out_port) (PortRange c.from Out c.out_port) (unless (has_port (node_at net c.to) In c.in_port) (PortRange c.to In c.in_port) ∷ unless (not (list_any (enters c.to c.in_port) net.connections)) (InputTaken c.to c.in_port) ∷ unless (same_type net c) (TypeMismatch c.to c.in_port) ∷ unless (nat_lt (length net.connections) most_connections) TooLarge ∷ []) t1.1 in
      let t3 = pass (has_port (node_at net c.to) In c.in_port) (PortRange c.to In c.in_port) (unless (not (list_any (enters c.to c.in_port) net.connections)) (InputTaken c.to c.in_port) ∷ unless (same_type net c) (TypeMismatch c.to c.in_port) ∷ unless (nat_lt (length net.connections) most_connections) TooLarge ∷ []) t2.1 in
      let t4 = pass (not (list_any (enters c.to c.in_port) net.connections)) (InputTaken c.to c.in_port) (unless (same_type net c) (TypeMismatch c.to c.in_port) ∷ unless (nat_lt (length net.connections) most_connections) TooLarge ∷ []) t3.1 in
      let t5 = pass (same_type net c) (TypeMismatch c.to c.in_port) (unless (nat_lt (length net.connections) most_connections) TooLarge ∷ []) t4.1 in
      let t6 = pass (nat_lt (length net.connections) most_connections) TooLarge [] t5.1 in
      let known = and_parts (nat_lt c.from (length net.nodes)) (nat_lt c.to (length net.nodes)) t1.0 in
      let room : length net.connections < most_connections = ltb-true (length net.connections) most_connections t6.0 in
      let more : length (net.connections ++ c ∷ []) ≡ length net.connections + 1 = length_push net.connections c in
      record {
        few_blocks = graph.few_blocks;
        few_connections = omega arith;
        named = graph.named;
        good_names = graph.good_names;
        distinct = graph.distinct;
        multiple = graph.multiple;
        capacity = graph.capacity;
        ends = All-push (λ (c : Connection). (c.from < length net.nodes) × (c.to < length net.nodes)) net.connections c graph.ends
            (ltb-true c.from (length net.nodes) known.0, ltb-true c.to (length net.nodes) known.1);
        ports = All-push (λ (c : Connection). (has_port (node_at net c.from) Out c.out_port ≡ true) × (has_port (node_at net c.to) In c.in_port ≡ true)) net.connections c graph.ports (t2.0, t3.0);
        one_writer = all_pairs_push (λ (c d : Connection). ¬ ((c.to ≡ d.to) × (c.in_port ≡ d.in_port))) net.connections c graph.one_writer
            (λ k d lt same. fails (enters c.to c.in_port) net.connections t4.0 k d lt
            (and_from ((get_or net.connections k d).to == c.to) ((get_or net.connections k d).in_port == c.in_port) (eq-eqb (get_or net.connections k d).to c.to same.0) (eq-eqb (get_or net.connections k d).in_port c.in_port same.1)));
        types = All-push (λ (c : Connection). same_type net c ≡ true) net.connections c graph.types t5.0;
      }

pub building_keeps : BuildingKeeps
building_keeps = record { empty_is = empty_is; adding = λ names net name n graph e. adding names net graph name n e; connecting = λ names net c graph e. connecting names net graph c e }
