-- What the tables of a network keep, and that no product of theirs is large.
use Rattle.std.proofs.Common.{false, ◌≡◌, ℕ, ◌*◌, ◌<◌, ◌≤◌, List, length, Option, Some, None, get_or, arith, ap, sym, ◌∙◌, subst}
use Rattle.std.proofs.Math.Nat.{mul-pos, mul-le-mul}
use Rattle.std.proofs.lemmas.List.{length-map, get_or-map}
use Rattle.stream_model.specs.Meaning.{HasCounts}
use Rattle.stream_model.specs.Firings.{taken_at, given_at, takes, gives}
use Rattle.stream_model.specs.Network.{Network, Node, IsSound, no_connection, no_node, node_at}
use Rattle.stream_model.specs.declared.vocabulary.Shift.TheVariants.{No}
use Rattle.rates.specs.declared.tables.Link.{Link}
use Rattle.rates.specs.declared.tables.Supply.{Supply}
use Rattle.rates.specs.Tables.{HasRates, supply_of, link_of, supplies_of, links_of, connection_at}

abbrev pub no_link : Link
no_link = record { from = 0; to = 0; gives = 0; takes = 0 }

pub record FitsLink (blocks : ℕ) (l : Link) : Type 0 where
  pub from : l.from < blocks
  pub to : l.to < blocks
  pub gives_some : 1 ≤ l.gives
  pub gives_few : l.gives ≤ 65536
  pub takes_some : 1 ≤ l.takes
  pub takes_few : l.takes ≤ 65536

abbrev pub no_supply : Supply
no_supply = record { source = false; gives = 0; shift = No }

pub supply_is : (net : Network) (supplies : List Supply) → supplies ≡ supplies_of net → (b : ℕ) → b < length net.nodes → get_or supplies b no_supply ≡ supply_of (node_at net b)
supply_is net supplies e b h = ap (λ l. get_or l b no_supply) e ∙ get_or-map supply_of net.nodes b no_node no_supply h

module _ (n : Node) (sound : IsSound n) (few : n.multiple ≤ 64) where
  taken_within : (p : ℕ) (o : Option (ℕ × ℕ)) → HasCounts n.meaning p o → (1 ≤ taken_at o) × (taken_at o ≤ 1024)
  taken_within p None h = (omega arith, omega arith)
  taken_within p (Some r) h = (h.1.takes_some, h.1.takes_few)

  given_within : (o : Option (ℕ × ℕ)) → HasCounts n.meaning 0 o → (1 ≤ given_at o) × (given_at o ≤ 1024)
  given_within None h = (omega arith, omega arith)
  given_within (Some r) h = (h.1.gives_some, h.1.gives_few)

  product : (m x : ℕ) → 1 ≤ m → m ≤ 64 → (1 ≤ x) × (x ≤ 1024) → (1 ≤ m * x) × (m * x ≤ 65536)
  product m x some few h = (mul-pos some h.0, (let most : m * x ≤ 64 * 1024 = mul-le-mul few h.1 in omega arith))

  pub takes_within : (p : ℕ) → (1 ≤ takes n p) × (takes n p ≤ 65536)
  takes_within p = product n.multiple (taken_at (n.meaning.rate p)) sound.some few (taken_within p (n.meaning.rate p) (sound.lawful.counts p))

  pub gives_within : (1 ≤ gives n) × (gives n ≤ 65536)
  gives_within = product n.multiple (given_at (n.meaning.rate 0)) sound.some few (given_within (n.meaning.rate 0) (sound.lawful.counts 0))

module _ (net : Network) (rates : HasRates net) where
  pub link_fits : (k : ℕ) → k < length net.connections → FitsLink (length net.nodes) (link_of net (connection_at net k))
  link_fits k h =
      let ends = rates.levels.rises k no_connection h in
      let c = connection_at net k in
      let gives = gives_within (node_at net c.from) (rates.can.sound c.from) (rates.few c.from) in
      let takes = takes_within (node_at net c.to) (rates.can.sound c.to) (rates.few c.to) c.in_port in
      record { from = ends.0; to = ends.1; gives_some = gives.0; gives_few = gives.1; takes_some = takes.0; takes_few = takes.1 }

  -- the same of a table
  pub link_is : (links : List Link) → links ≡ links_of net → (k : ℕ) → k < length links → get_or links k no_link ≡ link_of net (connection_at net k)
  link_is links e k h =
      let long = ap length e ∙ length-map net.connections (link_of net) in
      ap (λ l. get_or l k no_link) e ∙ get_or-map (link_of net) net.connections k no_connection no_link (omega arith)

  pub table_fits : (links : List Link) → links ≡ links_of net → (k : ℕ) → k < length links → FitsLink (length net.nodes) (get_or links k no_link)
  table_fits links e k h =
      let long = ap length e ∙ length-map net.connections (link_of net) in
      let inside : k < length net.connections = omega arith in
      subst (FitsLink (length net.nodes)) (sym (link_is links e k h)) (link_fits k inside)
