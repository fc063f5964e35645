-- The tests of ports, block by block.
use Rattle.std.proofs.Common.{◌≡◌, ℕ, zero, suc, ◌+◌, ◌<◌, ◌≤◌, Bool, true, false, List, [], ◌∷◌, map, length, get_or, refl, arith, ap, sym, ◌∙◌, inl, inr}
use Rattle.std.specs.Prelude.{◌==◌, ◌&&◌, ◌||◌, not, nat_lt, Option, Some, None, option_map}
use Rattle.std.proofs.lemmas.Bool.{cases_lt}
use Rattle.std.proofs.lemmas.List.{length-map, get_or-map, get_or_default}
use Rattle.std.proofs.lemmas.List.FromFn.{get_or-map-range_with_len, length-map-range_with_len}
use Rattle.stream_model.specs.Lists.{below, numbers_from}
use Rattle.stream_model.specs.Meaning.{Meaning}
use Rattle.stream_model.specs.Network.{Network, node_at, no_node}
use Rattle.graph_model.specs.Graphs.{In, Out, ports_to, has_few, is_one, lowest, gap_fault, first_fault, GraphFault, TooFewPorts, OneToOne}
use Rattle.graph_laws.proofs.Search.{first-is, first-next}
use Rattle.flowgraph.specs.declared.fault.Side.TheVariants as side
use Rattle.flowgraph.specs.declared.fault.Limit.TheVariants.{Blocks}
use Rattle.flowgraph.specs.declared.fault.GraphFault as code
use Rattle.flowgraph.specs.declared.parts.Connection.{Connection}
use Rattle.flowgraph.specs.declared.parts.Entry.{Entry}
use Rattle.flowgraph.specs.declared.ports.Ports.{Ports}
use Rattle.flowgraph.specs.Fault.{told, reported}
use Rattle.flowgraph.specs.Flowgraph.{net_of, node_of, graph_of}
use Rattle.flowgraph.specs.Ports.{ports_at}
use Rattle.flowgraph.specs.Tests.{port_faults, gap_in}
use Rattle.flowgraph.proofs.PortLemmas.{find-first, find-none}

-- fewer ports of a side of a block are used than it asks for
abbrev pub few_at : Network → ℕ → Bool
few_at net b = has_few net b In || has_few net b Out

-- tags are to go from one to one, and used ports are not equally many
abbrev pub unequal_at : Network → ℕ → Bool
unequal_at net b = is_one (node_at net b).policy && not (ports_to net b In == ports_to net b Out)

-- the first refusal of numbers in order
pub refusal-first : (g : ℕ → Option GraphFault) (n b : ℕ) → b < n → ((k : ℕ) → k < b → g k ≡ None) → (f : GraphFault) → g b ≡ Some f → first_fault (map g (below n)) ≡ Some f
refusal-first g n b low before f here = at 0 n b (omega arith) (omega arith) (λ k l h. before k h) here
  where
    at : (a count b : ℕ) → a ≤ b → b < a + count → ((k : ℕ) → a ≤ k → k < b → g k ≡ None) → g b ≡ Some f → first_fault (map g (numbers_from a count)) ≡ Some f
    at a zero b first low before here = absurd (omega arith)
    at a (suc count) b first low before here =
        elim (cases_lt a b) [
          | inl less ↦ first-next (g a) (map g (numbers_from (a + 1) count)) (before a (omega arith) less) ∙ at (a + 1) count b (omega arith) (omega arith) (λ k l h. before k (omega arith) h) here
          | inr more ↦ (let same : a ≡ b = omega arith in first-is (g a) (map g (numbers_from (a + 1) count)) f (ap g same ∙ here))
        ]

pub refusal-none : (g : ℕ → Option GraphFault) (n : ℕ) → ((k : ℕ) → k < n → g k ≡ None) → first_fault (map g (below n)) ≡ None
refusal-none g n none = at 0 n (λ k l h. none k (omega arith))
  where
    at : (a count : ℕ) → ((k : ℕ) → a ≤ k → k < a + count → g k ≡ None) → first_fault (map g (numbers_from a count)) ≡ None
    at a zero none = refl
    at a (suc count) none = first-next (g a) (map g (numbers_from (a + 1) count)) (none a (omega arith) (omega arith)) ∙ at (a + 1) count (λ k l h. none k (omega arith) (omega arith))

module _ {B : Type 0} (meaning : B → Meaning) (es : List (Entry B)) (cs : List Connection) where
  abbrev pub net : Network
  net = net_of meaning (graph_of [] es cs)

  nodes : length net.nodes ≡ length es
  nodes = length-map es (node_of meaning)

  -- the ports of each block, from the tables
  table_at : (s : _) (ps : List Ports) → ps ≡ map (ports_at cs s) (below (length es)) → (b : ℕ) (d : Ports) → b < length es → get_or ps b d ≡ ports_at cs s b
  table_at s ps are b d low = ap (λ t. get_or t b d) are ∙ get_or-map-range_with_len (ports_at cs s) 0 (length es) b b d low (omega arith)

  pub in_table : (s : _) (ps : List Ports) → ps ≡ map (ports_at cs s) (below (length es)) → (b : ℕ) → b < length es → b < length ps
  in_table s ps are b low = let same = ap length are ∙ length-map-range_with_len (ports_at cs s) 0 (length es) in omega arith

  pub node_is : (b : ℕ) (e : Entry B) → b < length es → e ≡ get_or es b e → node_at net b ≡ node_of meaning e
  node_is b e low is =
      get_or_default net.nodes b no_node (node_of meaning e) (let n = nodes in omega arith)
      ∙ get_or-map (node_of meaning) es b e (node_of meaning e) low ∙ ap (node_of meaning) (sym is)

  in_net : (b : ℕ) → b < length es → b < length net.nodes
  in_net b low = let n = nodes in omega arith

  -- what the tests say of the ports of a block that stand in the tables
  module _ (ins outs : List Ports) (ei : ins ≡ map (ports_at cs side.In) (below (length es))) (eo : outs ≡ map (ports_at cs side.Out) (below (length es)))
      (b : ℕ) (low : b < length es) (x y d f : Ports) (ix : x ≡ get_or ins b d) (iy : y ≡ get_or outs b f) where
    x_is : x ≡ ports_at cs side.In b
    x_is = ix ∙ table_at side.In ins ei b d low

    y_is : y ≡ ports_at cs side.Out b
    y_is = iy ∙ table_at side.Out outs eo b f low

    pub gap_is : gap_in b x y ≡ gap_fault net b
    gap_is = λ i. gap_in b (x_is i) (y_is i)

    module _ (e : Entry B) (is : e ≡ get_or es b e) where
      pub few_is : (nat_lt x.used (meaning e.block).inputs.least || nat_lt y.used (meaning e.block).outputs.least) ≡ few_at net b
      few_is = let n = sym (node_is b e low is) in λ i. nat_lt (x_is i).used (n i).meaning.inputs.least || nat_lt (y_is i).used (n i).meaning.outputs.least

      pub unequal_is : (is_one e.options.policy && not (x.used == y.used)) ≡ unequal_at net b
      unequal_is = let n = sym (node_is b e low is) in λ i. is_one (n i).policy && not ((x_is i).used == (y_is i).used)

  module _ (b : ℕ) (low : b < length es) where
    pub gap_found :
        (rest : List (Option GraphFault)) → ((k : ℕ) → k < b → gap_fault net k ≡ None) → (o : Option GraphFault) → gap_fault net b ≡ o → (f : code.GraphFault) → told Blocks o ≡ Some f →
        Some f ≡ told Blocks (first_fault (first_fault (map (gap_fault net) (below (length net.nodes))) ∷ rest))
    gap_found rest before None is f tells = absurd (let bad = tells in cc)
    gap_found rest before (Some x) is f tells =
        sym (ap (told Blocks) (first-is (first_fault (map (gap_fault net) (below (length net.nodes)))) rest x (refusal-first (gap_fault net) (length net.nodes) b (in_net b low) before x is)) ∙ tells)

  abbrev pub past_gaps : List (Option GraphFault)
  past_gaps = lowest net (few_at net) TooFewPorts ∷ lowest net (unequal_at net) OneToOne ∷ []

  abbrev past_few : List (Option GraphFault)
  past_few = lowest net (unequal_at net) OneToOne ∷ []

  no_gaps : ((k : ℕ) → k < length es → gap_fault net k ≡ None) → first_fault (map (gap_fault net) (below (length net.nodes))) ≡ None
  no_gaps none = refusal-none (gap_fault net) (length net.nodes) (λ k h. none k (let n = nodes in omega arith))

  pub few_found :
      (b : ℕ) → b < length es → ((k : ℕ) → k < length es → gap_fault net k ≡ None) → ((k : ℕ) → k < b → few_at net k ≡ false) → few_at net b ≡ true →
      Some (reported Blocks (Some (TooFewPorts b))) ≡ told Blocks (first_fault (port_faults net))
  few_found b low gaps before here =
      sym (ap (told Blocks)
      (first-next (first_fault (map (gap_fault net) (below (length net.nodes)))) past_gaps (no_gaps gaps)
      ∙ first-is (lowest net (few_at net) TooFewPorts) past_few (TooFewPorts b) (ap (option_map TooFewPorts) (find-first (few_at net) (length net.nodes) b (in_net b low) here before))))

  no_few : ((k : ℕ) → k < length es → few_at net k ≡ false) → lowest net (few_at net) TooFewPorts ≡ None
  no_few none = ap (option_map TooFewPorts) (find-none (few_at net) (length net.nodes) (λ k h. none k (let n = nodes in omega arith)))

  pub unequal_found :
      (b : ℕ) → b < length es → ((k : ℕ) → k < length es → gap_fault net k ≡ None) → ((k : ℕ) → k < length es → few_at net k ≡ false) →
      ((k : ℕ) → k < b → unequal_at net k ≡ false) → unequal_at net b ≡ true → Some (reported Blocks (Some (OneToOne b))) ≡ told Blocks (first_fault (port_faults net))
  unequal_found b low gaps few before here =
      sym (ap (told Blocks)
      (first-next (first_fault (map (gap_fault net) (below (length net.nodes)))) past_gaps (no_gaps gaps)
      ∙ first-next (lowest net (few_at net) TooFewPorts) past_few (no_few few)
      ∙ first-is (lowest net (unequal_at net) OneToOne) [] (OneToOne b) (ap (option_map OneToOne) (find-first (unequal_at net) (length net.nodes) b (in_net b low) here before))))

  pub ports_pass :
      ((k : ℕ) → k < length es → gap_fault net k ≡ None) → ((k : ℕ) → k < length es → few_at net k ≡ false) → ((k : ℕ) → k < length es → unequal_at net k ≡ false) →
      None ≡ told Blocks (first_fault (port_faults net))
  ports_pass gaps few unequal =
      sym (ap (told Blocks)
      (first-next (first_fault (map (gap_fault net) (below (length net.nodes)))) past_gaps (no_gaps gaps)
      ∙ first-next (lowest net (few_at net) TooFewPorts) past_few (no_few few)
      ∙ first-next (lowest net (unequal_at net) OneToOne) [] (ap (option_map OneToOne) (find-none (unequal_at net) (length net.nodes) (λ k h. unequal k (let n = nodes in omega arith))))))
