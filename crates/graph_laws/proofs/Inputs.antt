-- The inputs of a block in a valid graph: one connection to each, without a gap.
use Rattle.std.proofs.Common.{◌≡◌, ℕ, zero, suc, ◌+◌, ◌-◌, ◌<◌, ◌≤◌, max, Bool, true, false, List, [], ◌∷◌, ◌++◌, map, length, get_or, refl, arith, ap, sym, ◌∙◌, subst, eqb-true}
use Rattle.std.specs.Prelude.{◌==◌, ◌&&◌, if◌then◌else◌}
use Rattle.std.specs.List.{AllPairs, Contains, filter, flat_map}
use Rattle.std.proofs.lemmas.Bool.{and_parts, and_from, eq-eqb}
use Rattle.std.proofs.lemmas.List.{length-map}
use Rattle.std.proofs.lemmas.List.Concat.{flat_map-cons}
use Rattle.std.proofs.lemmas.List.FromFn.{length-map-range_with_len, get_or-map-range_with_len}
use Rattle.stream_model.specs.Lists.{below, numbers_from}
use Rattle.stream_model.specs.Network.{Network, Connection, enters, writers_of, writer_of, readers_of, no_connection, greatest_port, used_outputs}
use Rattle.stream_laws.specs.CanRun.{IsItsWriter}
use Rattle.graph_model.specs.Graphs.{In, Out, ports_of, ports_to, IsValidGraph}
use Rattle.graph_laws.specs.Tables.{to_block}
use Rattle.graph_laws.proofs.Members.{in_head, in_tail, in_map, from_map, in_filter, from_filter, filter_test, filter_none, filter_lone, any_is, greatest_of-from}
use Rattle.graph_laws.proofs.Pigeons.{covers}

-- lists of one element each below m, and of none from there on, one behind another
module _ {X : Type 0} (g : ℕ → List X) (w : ℕ → X) (m : ℕ) (one : (p : ℕ) → p < m → g p ≡ w p ∷ []) (none : (p : ℕ) → m ≤ p → g p ≡ []) where
  flat-past : (a r : ℕ) → m ≤ a → flat_map g (numbers_from a r) ≡ []
  flat-past a zero past = refl
  flat-past a (suc r) past =
      flat_map-cons g a (numbers_from (a + 1) r) ∙ ap (λ l. l ++ flat_map g (numbers_from (a + 1) r)) (none a past) ∙ flat-past (a + 1) r (omega arith)

  flat-below : (a j r : ℕ) → a + j ≡ m → flat_map g (numbers_from a (j + r)) ≡ map w (numbers_from a j)
  flat-below a zero r e = flat-past a (0 + r) (omega arith)
  flat-below a (suc j) r e =
      let more : suc j + r ≡ suc (j + r) = omega arith in
      let next : a + 1 + j ≡ m = omega arith in
      ap (λ n. flat_map g (numbers_from a n)) more ∙ flat_map-cons g a (numbers_from (a + 1) (j + r))
      ∙ ap (λ l. l ++ flat_map g (numbers_from (a + 1) (j + r))) (one a (omega arith)) ∙ ap (λ l. w a ∷ l) (flat-below (a + 1) j r next)

  flat-is : (k : ℕ) → m ≤ k → flat_map g (below k) ≡ map w (below m)
  flat-is k h = let whole : m + (k - m) ≡ k = omega arith in ap (λ n. flat_map g (below n)) (sym whole) ∙ flat-below 0 m (k - m) (omega arith)

module _ (names : List (List ℕ)) (net : Network) (valid : IsValidGraph names net) where
  module _ (b : ℕ) where
    -- a used port is a connection's
    has_port_of : (p : ℕ) → p < ports_to net b In → Contains (ports_of net b In) p
    has_port_of p low =
        let found = any_is (λ q. q == p) (ports_of net b In) (valid.no_gap b In p low) in
        subst (Contains (ports_of net b In)) (eqb-true found.0 p found.2) found.1

    writer : (p : ℕ) → p < ports_to net b In → (c : Connection) × Contains net.connections c × (c.to ≡ b) × (c.in_port ≡ p)
    writer p low =
        let found = from_map (λ (c : Connection). c.in_port) (to_block net b) p (has_port_of p low) in
        (found.0, from_filter (λ c. c.to == b) net.connections found.0 found.1, eqb-true found.0.to b (filter_test (λ c. c.to == b) net.connections found.0 found.1), found.2)

    -- there are as many connections as used ports, at least
    pub many : ports_to net b In ≤ length (to_block net b)
    many = let c = covers (ports_to net b In) (ports_of net b In) has_port_of in let l = length-map (to_block net b) (λ (c : Connection). c.in_port) in omega arith

    port_low : (c : Connection) → Contains net.connections c → c.to ≡ b → c.in_port < ports_to net b In
    port_low c there to =
        let high = greatest_of-from (map suc (ports_of net b In)) (suc c.in_port)
        (in_map suc (ports_of net b In) c.in_port (in_map (λ (c : Connection). c.in_port) (to_block net b) c (in_filter (λ c. c.to == b) net.connections c there (eq-eqb c.to b to)))) in
        omega arith

    apart : (p : ℕ) → AllPairs (λ c d. ¬ ((enters b p c ≡ true) × (enters b p d ≡ true))) net.connections
    apart p i j d l h both =
        let x = and_parts ((get_or net.connections i d).to == b) ((get_or net.connections i d).in_port == p) both.0 in
        let y = and_parts ((get_or net.connections j d).to == b) ((get_or net.connections j d).in_port == p) both.1 in
        valid.graph.one_writer i j d l h (
          eqb-true (get_or net.connections i d).to b x.0 ∙ sym (eqb-true (get_or net.connections j d).to b y.0),
          eqb-true (get_or net.connections i d).in_port p x.1 ∙ sym (eqb-true (get_or net.connections j d).in_port p y.1),
        )

    lone : (p : ℕ) (c : Connection) → Contains net.connections c → c.to ≡ b → c.in_port ≡ p → filter (enters b p) net.connections ≡ c ∷ []
    lone p c there to port =
        filter_lone (enters b p) net.connections c (apart p) there (and_from (c.to == b) (c.in_port == p) (eq-eqb c.to b to) (eq-eqb c.in_port p port))

    first : ℕ → Connection
    first p = get_or (filter (enters b p) net.connections) 0 no_connection

    first-is : (p : ℕ) (c : Connection) → Contains net.connections c → c.to ≡ b → c.in_port ≡ p → first p ≡ c
    unfolding first
    first-is p c there to port = ap (λ l. get_or l 0 no_connection) (lone p c there to port)

    one_at : (p : ℕ) → p < ports_to net b In → filter (enters b p) net.connections ≡ first p ∷ []
    one_at p low = let w = writer p low in lone p w.0 w.1 w.2 w.3 ∙ ap (λ c. c ∷ []) (sym (first-is p w.0 w.1 w.2 w.3))

    none_at : (p : ℕ) → ports_to net b In ≤ p → filter (enters b p) net.connections ≡ []
    none_at p past =
        filter_none (enters b p) net.connections
        (λ c there e. let both = and_parts (c.to == b) (c.in_port == p) e in
        let low = port_low c there (eqb-true c.to b both.0) in
        let port = eqb-true c.in_port p both.1 in
        omega arith)

    writers-are : writers_of net b ≡ map first (below (ports_to net b In))
    writers-are = flat-is (λ p. filter (enters b p) net.connections) first (ports_to net b In) one_at none_at (length (to_block net b)) many

    pub writers-length : length (writers_of net b) ≡ ports_to net b In
    writers-length = ap length writers-are ∙ length-map-range_with_len first 0 (ports_to net b In)

    writer_of-is : (p : ℕ) → p < ports_to net b In → writer_of net b p ≡ first p
    writer_of-is p low = ap (λ l. get_or l p no_connection) writers-are ∙ get_or-map-range_with_len first 0 (ports_to net b In) p p no_connection low (omega arith)

    pub numbered : (p : ℕ) → p < length (writers_of net b) → (writer_of net b p).in_port ≡ p
    numbered p h =
        let low : p < ports_to net b In = omega (arith, writers-length) in
        let w = writer p low in
        ap (λ (c : Connection). c.in_port) (writer_of-is p low ∙ first-is p w.0 w.1 w.2 w.3) ∙ w.3

  pub its_writer : (c : Connection) → Contains net.connections c → IsItsWriter net c
  its_writer c there =
      let low = port_low c.to c there refl in
      record {
        used = omega (arith, writers-length c.to);
        is = writer_of-is c.to c.in_port low ∙ first-is c.to c.in_port c there refl refl;
      }

  -- outputs
  port_at : (b g : ℕ) (cs : List Connection) → ((c : Connection) → Contains cs c → c.from ≡ b → c.out_port < g) → greatest_port b cs ≤ g
  port_at b g [] low = omega arith
  port_at b g (c ∷ cs) low =
      here (c.from == b) refl (port_at b g cs (λ d there from. low d (in_tail c d cs there) from))
    where
      here : (t : Bool) → (c.from == b) ≡ t → greatest_port b cs ≤ g → (if t then max (suc c.out_port) (greatest_port b cs) else greatest_port b cs) ≤ g
      here true e rest = let head = low c (in_head c cs) (eqb-true c.from b e) in omega arith
      here false e rest = rest

  out_low : (b : ℕ) (c : Connection) → Contains net.connections c → c.from ≡ b → c.out_port < ports_to net b Out
  out_low b c there from =
      let high = greatest_of-from (map suc (ports_of net b Out)) (suc c.out_port)
      (in_map suc (ports_of net b Out) c.out_port (in_map (λ (c : Connection). c.out_port) (filter (λ c. c.from == b) net.connections) c (in_filter (λ c. c.from == b) net.connections c there (eq-eqb c.from b from)))) in
      omega arith

  pub read : (b p : ℕ) → p < used_outputs net b → 0 < length (readers_of net b p)
  read b p used =
      let low : p < ports_to net b Out = omega (arith, port_at b (ports_to net b Out) net.connections (out_low b)) in
      let found = any_is (λ q. q == p) (ports_of net b Out) (valid.no_gap b Out p low) in
      let c = from_map (λ (c : Connection). c.out_port) (filter (λ c. c.from == b) net.connections) found.0 found.1 in
      let there = from_filter (λ c. c.from == b) net.connections c.0 c.1 in
      let from = filter_test (λ c. c.from == b) net.connections c.0 c.1 in
      let reads = in_filter (λ c. c.from == b && c.out_port == p) net.connections c.0 there
      (and_from (c.0.from == b) (c.0.out_port == p) from (eq-eqb c.0.out_port p (c.2 ∙ eqb-true found.0 p found.2))) in
      let lt = reads.1 in
      omega arith
