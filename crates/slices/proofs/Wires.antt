-- The connections of a graph, by number, and what their ends are.
use Rattle.std.proofs.Common.{◌≡◌, ℕ, ◌<◌, List, map, length, get_or, arith, ap, sym, ◌∙◌}
use Rattle.std.proofs.lemmas.List.{length-map, get_or-map}
use Rattle.stream_model.specs.Meaning.{Meaning}
use Rattle.stream_model.specs.Network as model
use Rattle.stream_model.specs.Network.{Network, no_connection, readers_of}
use Rattle.std.specs.Prelude.{◌==◌, ◌&&◌}
use Rattle.std.proofs.lemmas.List.Elements.{All-filter}
use Rattle.stream_laws.specs.CanRun.{CanRun}
use Rattle.flowgraph.specs.declared.parts.Connection.{Connection}
use Rattle.rates.specs.Tables.{connection_at}
use Rattle.flowgraph.specs.Flowgraph.{Flowgraph, net_of, node_of, connection_of}

-- what a place without a connection reads as
abbrev pub no_wire : Connection
no_wire = record { from = record { 0 = 0 }; out_port = 0; to = record { 0 = 0 }; in_port = 0 }

-- both ends are blocks
pub ends : (net : Network) → CanRun net → (k : ℕ) → k < length net.connections → ((connection_at net k).from < length net.nodes) × ((connection_at net k).to < length net.nodes)
ends net can k lt = let e = can.levels.rises k no_connection lt in (e.0, e.1)

-- connection k of a list that is that of a graph
module _ {B : Type 0} (meaning : B → Meaning) (g : Flowgraph B) (can : CanRun (net_of meaning g)) (cs : List Connection) (same : cs ≡ g.connections) (k : ℕ) (lt : k < length cs) where
  pub in_net : k < length (net_of meaning g).connections
  in_net = let m = length-map g.connections connection_of in let e = ap length same in omega arith

  pub wire_is : connection_of (get_or cs k no_wire) ≡ connection_at (net_of meaning g) k
  wire_is =
      let there : k < length g.connections = (let e = ap length same in omega arith) in
      ap (λ xs. connection_of (get_or xs k no_wire)) same ∙ sym (get_or-map connection_of g.connections k no_wire no_connection there)

  pub from_in : (get_or cs k no_wire).from.0 < length g.blocks
  from_in =
      let e : (get_or cs k no_wire).from.0 ≡ (connection_at (net_of meaning g) k).from = ap (λ (c : model.Connection). c.from) wire_is in
      let h = (ends (net_of meaning g) can k in_net).0 in
      let n = length-map g.blocks (node_of meaning) in
      omega arith

  pub to_in : (get_or cs k no_wire).to.0 < length g.blocks
  to_in =
      let e : (get_or cs k no_wire).to.0 ≡ (connection_at (net_of meaning g) k).to = ap (λ (c : model.Connection). c.to) wire_is in
      let h = (ends (net_of meaning g) can k in_net).1 in
      let n = length-map g.blocks (node_of meaning) in
      omega arith

-- a reader of an output is a block
pub reader_in : {B : Type 0} (meaning : B → Meaning) (g : Flowgraph B) → CanRun (net_of meaning g) → (b p : ℕ) (cs : List Connection) → map connection_of cs ≡ readers_of (net_of meaning g) b p →
    (k : ℕ) → k < length cs → (get_or cs k no_wire).to.0 < length g.blocks
reader_in meaning g can b p cs same k lt =
    let net = net_of meaning g in
    let there : k < length (readers_of net b p) = (let m = length-map cs connection_of in let e = ap length same in omega arith) in
    let is : connection_of (get_or cs k no_wire) ≡ get_or (readers_of net b p) k no_connection = sym (get_or-map connection_of cs k no_wire no_connection lt) ∙ ap (λ xs. get_or xs k no_connection) same in
    let rise = All-filter (λ (c : model.Connection). c.from == b && c.out_port == p) (λ (c : model.Connection). (c.from < length net.nodes) × (c.to < length net.nodes) × (can.level c.from < can.level c.to)) net.connections can.levels.rises k no_connection there in
    let e : (get_or cs k no_wire).to.0 ≡ (get_or (readers_of net b p) k no_connection).to = ap (λ (c : model.Connection). c.to) is in
    let h = rise.1 in
    let n = length-map g.blocks (node_of meaning) in
    omega arith
