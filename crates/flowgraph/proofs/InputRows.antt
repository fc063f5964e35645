-- Rows of inputs by their ports, and the rows of blocks that they make.
use Rattle.std.proofs.Common.{◌≡◌, ℕ, zero, suc, ◌+◌, ◌-◌, ◌*◌, ◌<◌, ◌≤◌, min, List, [], ◌∷◌, ◌++◌, map, add-one, set, length, get_or, refl, arith, ap, sym, ◌∙◌, subst, inl, inr, append-nil}
use Rattle.std.specs.Prelude.{◌==◌, replicate}
use Rattle.std.specs.List.{filter, flat_map, All}
use Rattle.std.proofs.lemmas.Bool.{cases_lt, eqb-true, and_parts}
use Rattle.std.proofs.lemmas.List.{map-append, map-set, get_or-map, length-map}
use Rattle.std.proofs.lemmas.List.Elements.{All-contains, All-append}
use Rattle.graph_laws.proofs.Members.{filter_none, from_map}
use Rattle.stream_model.specs.Lists.{below}
use Rattle.stream_model.specs.Network as model
use Rattle.stream_model.specs.Network.{enters, writers_of}
use Rattle.flowgraph.specs.declared.fault.Side.TheVariants.{In}
use Rattle.flowgraph.specs.declared.parts.Connection.{Connection}
use Rattle.flowgraph.specs.declared.parts.Input.{Input}
use Rattle.flowgraph.specs.Ports.{AreWithin, net_from}
use Rattle.flowgraph.specs.Flowgraph.{connection_of}
use Rattle.flowgraph.specs.Tables.{AreByPort}
use Rattle.flowgraph.specs.Wiring.{writers_in, IsItsReader}
use Rattle.flowgraph.proofs.WireLemmas.{filter-map, flat_map-below, writers_below, writers_whole}

abbrev pub source : Input → Connection
source i = i.connection

sources : (is : List Input) → writers_in is ≡ map connection_of (map source is)
sources [] = refl
sources (i ∷ is) = ap (λ l. connection_of i.connection ∷ l) (sources is)

-- a row of inputs with one more, as a row of connections
pub sources_longer : (rows : List (List Input)) (at : ℕ) (i : Input) → at < length rows →
    map (map source) (set rows at (get_or rows at [] ++ i ∷ [])) ≡ set (map (map source) rows) at (get_or (map (map source) rows) at [] ++ source i ∷ [])
sources_longer rows at i low =
    map-set (map source) rows at (get_or rows at [] ++ i ∷ [])
    ∙ ap (set (map (map source) rows) at) (map-append source (get_or rows at []) (i ∷ []) ∙ ap (λ row. row ++ source i ∷ []) (sym (get_or-map (map source) rows at [] [] low)))

abbrev no_input : List Input
no_input = []

abbrev no_source : List Connection
no_source = []

pub no_sources : (n : ℕ) → map (map source) (replicate n no_input) ≡ replicate n no_source
no_sources zero = refl
no_sources (suc n) = ap (λ rows. no_source ∷ rows) (no_sources n)

-- the inputs at the first ports of a block
module _ (n : ℕ) (cs : List Connection) (within : AreWithin n cs) (rows : List (List Input)) (by_port : AreByPort n In cs (map (map source) rows)) (b : ℕ) (low : b < n) where
  abbrev pub at_port : ℕ → List Input
  at_port p = get_or rows (16 * b + p) []

  entering : (p : ℕ) → p < 16 → writers_in (at_port p) ≡ filter (enters b p) (map connection_of cs)
  entering p few =
      let count = by_port.count in
      let long = length-map rows (map source) in
      sources (at_port p)
      ∙ ap (map connection_of) (sym (get_or-map (map source) rows (16 * b + p) [] [] (omega arith)) ∙ by_port.are b p low few)
      ∙ sym (filter-map connection_of (enters b p) cs)

  first_ports : (m : ℕ) → m ≤ 16 → writers_in (flat_map at_port (below m)) ≡ writers_below b cs m
  first_ports zero few = refl
  first_ports (suc m) few =
      ap (λ k. writers_in (flat_map at_port (below k))) (sym (add-one m)) ∙ ap writers_in (flat_map-below at_port m)
      ∙ map-append (λ (i : Input). connection_of i.connection) (flat_map at_port (below m)) (at_port m)
      ∙ ap (λ l. l ++ writers_in (at_port m)) (first_ports m (omega arith)) ∙ ap (λ l. writers_below b cs m ++ l) (entering m (omega arith))
      ∙ sym (flat_map-below (λ p. filter (enters b p) (map connection_of cs)) m) ∙ ap (writers_below b cs) (add-one m)

  -- no connection enters a port that no side may have
  none_above : (p : ℕ) → 16 ≤ p → filter (enters b p) (map connection_of cs) ≡ []
  none_above p high = filter_none (enters b p) (map connection_of cs) (λ c there enter.
      let d = from_map connection_of cs c there in
      let few = (All-contains (λ (c : Connection). (c.from.0 < n) × (c.to.0 < n) × (c.out_port < 16) × (c.in_port < 16)) cs d.0 within d.1).3 in
      let port = ap (λ (c : model.Connection). c.in_port) d.2 in
      let same = eqb-true c.in_port p (and_parts (c.to == b) (c.in_port == p) enter).1 in
      omega arith)

  no_more : (k : ℕ) → writers_below b cs (16 + k) ≡ writers_below b cs 16
  no_more zero = refl
  no_more (suc k) =
      let place : 16 + suc k ≡ 16 + k + 1 = omega arith in
      ap (writers_below b cs) place ∙ flat_map-below (λ p. filter (enters b p) (map connection_of cs)) (16 + k)
      ∙ ap (λ l. writers_below b cs (16 + k) ++ l) (none_above (16 + k) (omega arith)) ∙ append-nil (writers_below b cs (16 + k)) ∙ no_more k

  pub inputs_are : (count : ℕ) → count ≡ length (filter (λ (c : Connection). c.to.0 == b) cs) → writers_in (flat_map at_port (below (min count 16))) ≡ writers_of (net_from cs) b
  inputs_are count is =
      elim (cases_lt count 16) [
        | inl h ↦ (let all : min count 16 ≡ count = omega arith in
            ap (λ m. writers_in (flat_map at_port (below m))) all ∙ first_ports count (omega arith) ∙ ap (writers_below b cs) is ∙ writers_whole b cs)
        | inr h ↦ (let most : min count 16 ≡ 16 = omega arith in
            let all : 16 + (count - 16) ≡ count = omega arith in
            ap (λ m. writers_in (flat_map at_port (below m))) most ∙ first_ports 16 (omega arith) ∙ sym (no_more (count - 16)) ∙ ap (writers_below b cs) (all ∙ is) ∙ writers_whole b cs)
      ]

  pub known_inputs : (net : model.Network) → All (All (IsItsReader net)) rows → (m : ℕ) → m ≤ 16 → All (IsItsReader net) (flat_map at_port (below m))
  known_inputs net known zero few = λ k d low. absurd (omega arith)
  known_inputs net known (suc m) few =
      let count = by_port.count in
      let long = length-map rows (map source) in
      subst (All (IsItsReader net)) (sym (ap (λ k. flat_map at_port (below k)) (sym (add-one m)) ∙ flat_map-below at_port m))
      (All-append (IsItsReader net) (flat_map at_port (below m)) (at_port m) (known_inputs net known m (omega arith)) (known (16 * b + m) [] (omega arith)))
