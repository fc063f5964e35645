-- A valid graph of lawful blocks has rates.
use Rattle.std.proofs.Common.{◌≡◌, ℕ, ◌<◌, ◌≤◌, Bool, true, false, List, length, min, get_or, refl, arith, sym, subst, inl, inr}
use Rattle.std.specs.Prelude.{if◌then◌else◌, is_none, is_some, ◌&&◌}
use Rattle.std.specs.List.{All}
use Rattle.std.proofs.lemmas.Bool.{cases_lt, ltb-true}
use Rattle.std.proofs.lemmas.List.{get_or_past, get_or-map, length-map}
use Rattle.stream_model.specs.declared.vocabulary.Role.{Role}
use Rattle.stream_model.specs.declared.vocabulary.Role.TheVariants.{Source, Work, Keep, Discard}
use Rattle.stream_model.specs.Meaning.{Meaning, KeepsRole}
use Rattle.stream_model.specs.Network as model
use Rattle.stream_model.specs.Network.{Network, Node, no_node, node_at, role_at, is_source}
use Rattle.stream_laws.specs.CanRun.{CanRun}
use Rattle.graph_model.specs.Graphs.{Out, IsGraph, IsValidGraph, has_port, level_of, most_multiple, most_ports, is_work}
use Rattle.graph_model.specs.Rates.{CanCount}
use Rattle.flowgraph.specs.declared.parts.Connection.{Connection}
use Rattle.flowgraph.specs.Flowgraph.{Flowgraph, net_of, connection_of}
use Rattle.rates.specs.Tables.{HasRates}

-- a block with an input is no source
no_source : (m : Meaning) (r : Role) → KeepsRole m r → 0 < m.inputs.most → is_source r ≡ false
no_source m Source h some = absurd (let none = h.ports.0 in omega arith)
no_source m Work h some = refl
no_source m Keep h some = refl
no_source m Discard h some = refl

few_at : (b : Bool) → (if b then most_multiple else 1) ≤ 64
few_at true = omega arith
few_at false = omega arith

pub has_rates : (names : List (List ℕ)) (net : Network) → IsValidGraph names net → CanRun net → CanCount net → HasRates net
has_rates names net valid runs counts =
    record {
      can = counts;
      level = level_of net;
      levels = valid.levels;
      blocks = valid.graph.few_blocks;
      few = few;
      entered = λ k d lt.
          let c = get_or net.connections k d in
          let input = (runs.ports k d lt).input in
          no_source (node_at net c.to).meaning (role_at net c.to) (runs.sound c.to).lawful.role (omega arith);
    }
  where
    few : (b : ℕ) → (node_at net b).multiple ≤ 64
    few b =
        elim (cases_lt b (length net.nodes)) [
          | inl in' ↦ (let m = (node_at net b).meaning in
              let most = (valid.graph.multiple b no_node in').1 in
              let high = few_at (is_work m.role && is_none m.limit && is_some (m.rate 0)) in
              omega arith)
          | inr past ↦ subst (λ (n : Node). n.multiple ≤ 64) (sym (get_or_past net.nodes b no_node past)) (omega arith)
        ]

-- no connection leaves a port that no side may have
pub few_ports : {B : Type 0} (meaning : B → Meaning) (g : Flowgraph B) → IsGraph g.names (net_of meaning g) → All (λ (c : Connection). c.out_port < 16) g.connections
few_ports meaning g graph k d low =
    let net = net_of meaning g in
    let there : k < length net.connections = (let l = length-map g.connections connection_of in omega arith) in
    let same : get_or net.connections k (connection_of d) ≡ connection_of (get_or g.connections k d) = get_or-map connection_of g.connections k d (connection_of d) low in
    let port = subst (λ (c : model.Connection). has_port (node_at net c.from) Out c.out_port ≡ true) same (graph.ports k (connection_of d) there).0 in
    let most = ltb-true (get_or g.connections k d).out_port (min most_ports (node_at net (get_or g.connections k d).from.0).meaning.outputs.most) port in
    omega arith
