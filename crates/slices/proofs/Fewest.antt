-- The count of a block is the least that its writers allow.
use Rattle.std.proofs.Common.{◌≡◌, ℕ, zero, suc, ◌+◌, ◌-◌, ◌*◌, ◌/◌, ◌<◌, ◌≤◌, min, Bool, true, false, List, length, get_or, refl, arith, ap, sym, ◌∙◌, subst, below_more}
use Rattle.std.proofs.Math.Nat.{mul-le-mul, div-mul-le_self}
use Rattle.std.proofs.lemmas.Nat.{le-div}
use Rattle.std.proofs.lemmas.List.{length-map, get_or-map}
use Rattle.std.proofs.lemmas.List.Elements.{All-from_get_or}
use Rattle.stream_model.specs.declared.vocabulary.Shift.{Shift}
use Rattle.stream_model.specs.declared.vocabulary.Shift.TheVariants.{No, Skip, Delay}
use Rattle.stream_model.specs.Firings.{allowed, allowed_by, takes, gives}
use Rattle.stream_model.specs.Network.{Network, Connection, no_connection, node_at, role_at, is_source, writers_of, writer_of, given_by}
use Rattle.stream_model.proofs.Streams.{given_by-rises}
use Rattle.stream_laws.specs.CanRun.{CanRun}
use Rattle.stream_laws.proofs.Writers.{is_input, at_input}
use Rattle.graph_model.specs.Rates.{count_after, count_before, ahead}
use Rattle.graph_model.proofs.FiringCounts.{counts_are_greatest}
use Rattle.rates.specs.Tables.{connection_at}
use Rattle.rates.specs.Counts.{given_of}
use Rattle.rates.proofs.Facts.{takes_within}
use Rattle.rates.proofs.Passing.{given_closed, allows_on, allows_least, allows_most, some_writer, given_few, fires_few}
use Rattle.flowgraph.specs.declared.parts.Input.{Input}
use Rattle.flowgraph.specs.Flowgraph.{Flowgraph, net_of, node_of, connection_of}
use Rattle.flowgraph.specs.Wiring.{writers_in}
use Rattle.stream_model.specs.Meaning.{Meaning}
use Rattle.slices.proofs.Wires.{no_wire}
use Rattle.slices.specs.Counts.{CanCut, AreBelow, IsNext, IsCarried}

-- what a port without an input reads as
abbrev pub no_input : Input
no_input = record { connection = no_wire; reader = 0 }

none_given : (s : Shift) (each : ℕ) → given_of s each 0 ≡ 0
none_given No each = let e : each * 0 ≡ 0 = omega arith in e
none_given (Skip n) each = let e : 0 - n ≡ 0 = omega arith in e
none_given (Delay n) each = refl

-- more items allow no fewer firings
allowed-rises : (s : Shift) (each a b : ℕ) → 1 ≤ each → a ≤ b → allowed_by s each a ≤ allowed_by s each b
allowed-rises No each a b some le = let back = div-mul-le_self a each in le-div (a / each) b each (omega arith) (omega arith)
allowed-rises (Skip n) each a b some le = le
allowed-rises (Delay n) each a b some le = let e : a + n ≤ b + n = omega arith in e

module _ (net : Network) (q : List ℕ) (can : CanCut net q) where
  room : (step k : ℕ) → k < length net.connections → ahead net q (connection_at net k) step ≤ 65536
  room step k lt = can.sizes.room k no_connection lt step

  -- no writer gives more than the limit an iteration
  near : (step k : ℕ) → k < length net.connections → given_by (node_at net (connection_at net k).from) (count_before net q (connection_at net k).from step) ≤ 65536 * step
  near zero k lt =
      let n = node_at net (connection_at net k).from in
      let none : given_by n 0 ≡ 0 = given_closed n (can.rates.can.sound (connection_at net k).from) (can.rates.can.single (connection_at net k).from) 0 ∙ none_given n.meaning.shift (gives n) in
      let e : given_by n 0 ≤ 65536 * 0 = omega arith in
      e
  near (suc step) k lt =
      let few = given_few net can.rates q step (near step) k lt (room step k lt) in
      let e : given_by (node_at net (connection_at net k).from) (count_after net q (connection_at net k).from step) ≤ 65536 * suc step = omega arith in
      e

  module _ (j : ℕ) (few : j ≤ 65536) where
    pub given-few : (k : ℕ) → k < length net.connections → given_by (node_at net (connection_at net k).from) (count_after net q (connection_at net k).from j) ≤ 8589934592
    given-few k lt = let h = given_few net can.rates q j (near j) k lt (room j k lt) in omega arith

    count_at : (b : ℕ) (s : Bool) → is_source (role_at net b) ≡ s → b < length net.nodes → count_after net q b j ≤ 8589934592
    count_at b true e in' =
        let is = (counts_are_greatest net q can.rates.level can.rates.can can.rates.levels).source b j in' e in
        let q' = can.counts.firings b in' in
        let most : j * get_or q b 0 ≤ 65536 * 65536 = mul-le-mul few q' in
        omega arith
    count_at b false e in' =
        some_writer net can.rates q (count_after net q b j ≤ 8589934592) b in' e
        (λ k lt to. subst (λ a. count_after net q a j ≤ 8589934592) to (let h = fires_few net can.rates q j (near j) k lt (room j k lt) in omega arith))

    pub count-few : (b : ℕ) → b < length net.nodes → count_after net q b j ≤ 8589934592
    count-few b in' = count_at b (is_source (role_at net b)) refl in'

-- so many inputs of a block were looked at: the fewest firings that they allow, where writers have these counts
pub record IsFewest (net : Network) (counts : List ℕ) (b fewest count : ℕ) : Type 0 where
  pub low : (p : ℕ) → p < count → fewest ≤ allowed (node_at net b) p (given_by (node_at net (writer_of net b p).from) (get_or counts (writer_of net b p).from 0))
  pub high : (x : ℕ) → x ≤ 18446744073709551615 → ((p : ℕ) → p < count → x ≤ allowed (node_at net b) p (given_by (node_at net (writer_of net b p).from) (get_or counts (writer_of net b p).from 0))) → x ≤ fewest

pub one_input : (net : Network) (counts : List ℕ) (b fewest count next : ℕ) (c : Connection) → c ≡ writer_of net b count → c.to ≡ b → c.in_port ≡ count →
    next ≡ min fewest (allowed (node_at net c.to) c.in_port (given_by (node_at net c.from) (get_or counts c.from 0))) → IsFewest net counts b fewest count → IsFewest net counts b next (count + 1)
one_input net counts b fewest count next c is to port e looked =
    let here : allowed (node_at net c.to) c.in_port (given_by (node_at net c.from) (get_or counts c.from 0)) ≡ allowed (node_at net b) count (given_by (node_at net (writer_of net b count).from) (get_or counts (writer_of net b count).from 0)) =
    ap (λ a. allowed (node_at net a) c.in_port (given_by (node_at net c.from) (get_or counts c.from 0))) to
    ∙ ap (λ p. allowed (node_at net b) p (given_by (node_at net c.from) (get_or counts c.from 0))) port
    ∙ ap (λ (w : Connection). allowed (node_at net b) count (given_by (node_at net w.from) (get_or counts w.from 0))) is in
    record {
      low = below_more _ _ (λ p lt. let h = looked.low p lt in omega arith) (omega arith);
      high = λ x most each. (let a = looked.high x most (λ p lt. each p (omega arith)) in let d = each count (omega arith) in omega arith);
    }

module _ (net : Network) (q : List ℕ) (j : ℕ) (counts : List ℕ) (below : AreBelow net q j counts) (b : ℕ) (in' : b < length net.nodes) where
  -- of a source
  pub source_next : is_source (role_at net b) ≡ true → IsNext net q j counts b (j * get_or q b 0)
  source_next e =
      let is = (counts_are_greatest net q below.can.rates.level below.can.rates.can below.can.rates.levels).source b j in' e in
      record { below = omega arith; reaches = λ _. omega arith }

  -- of another block, whose inputs were all looked at
  module _ (work : is_source (role_at net b) ≡ false) (fewest : ℕ) (looked : IsFewest net counts b fewest (length (writers_of net b))) where
    at_wire : (k : ℕ) → k < length net.connections → (connection_at net k).to ≡ b → fewest ≤ allows_on net q j (connection_at net k)
    at_wire k lt to =
        let c = connection_at net k in
        let its = below.can.runs.writers k no_connection lt in
        let used : c.in_port < length (writers_of net b) = subst (λ a. c.in_port < length (writers_of net a)) to its.used in
        let is : writer_of net b c.in_port ≡ c = subst (λ a. writer_of net a c.in_port ≡ c) to its.is in
        let low : fewest ≤ allowed (node_at net b) c.in_port (given_by (node_at net c.from) (get_or counts c.from 0)) =
        subst (λ (w : Connection). fewest ≤ allowed (node_at net b) c.in_port (given_by (node_at net w.from) (get_or counts w.from 0))) is (looked.low c.in_port used) in
        let from = (below.can.runs.levels.rises k no_connection lt).0 in
        let rise = given_by-rises (node_at net c.from) (below.can.rates.can.sound c.from) (get_or counts c.from 0) (count_after net q c.from j) (below.below c.from from) in
        let some = (takes_within (node_at net b) (below.can.rates.can.sound b) (below.can.rates.few b) c.in_port).0 in
        let more = allowed-rises (node_at net b).meaning.shift (takes (node_at net b) c.in_port) _ _ some rise in
        subst (λ a. fewest ≤ allowed (node_at net a) c.in_port (given_by (node_at net c.from) (count_after net q c.from j))) (sym to) (omega arith)

    pub worker_next : IsNext net q j counts b fewest
    worker_next =
        record {
          below = allows_most net below.can.rates q j b fewest in' work at_wire;
          reaches = λ followed.
              looked.high (count_after net q b j) (let h = count-few net q below.can j below.few b in' in omega arith)
              (λ p lt.
              let most = at_input net below.can.runs (λ a port c. count_after net q a j ≤ allowed (node_at net a) port (given_by (node_at net c.from) (count_after net q c.from j)))
              (All-from_get_or (λ c. count_after net q c.to j ≤ allows_on net q j c) net.connections no_connection (λ k lt'. allows_least net below.can.rates q j k lt')) b p lt in
              subst (λ n. count_after net q b j ≤ allowed (node_at net b) p (given_by (node_at net (writer_of net b p).from) n)) (sym (followed p lt)) most);
        }

  -- what the connection at input p carries is few
  pub input_carried : (p : ℕ) (c : Connection) → c ≡ writer_of net b p → p < length (writers_of net b) → IsCarried net c (get_or counts c.from 0)
  input_carried p c is lt =
      let w = is_input net below.can.runs b p lt in
      let few = count-few net q below.can j below.few (writer_of net b p).from w.from in
      let low = below.below (writer_of net b p).from w.from in
      let given = at_input net below.can.runs (λ a port c. given_by (node_at net c.from) (count_after net q c.from j) ≤ 8589934592)
      (All-from_get_or (λ c. given_by (node_at net c.from) (count_after net q c.from j) ≤ 8589934592) net.connections no_connection (λ k lt'. given-few net q below.can j below.few k lt')) b p lt in
      let rise = given_by-rises (node_at net (writer_of net b p).from) (below.can.rates.can.sound (writer_of net b p).from) _ _ low in
      subst (λ (x : Connection). IsCarried net x (get_or counts x.from 0)) (sym is)
      (record { from = w.from; to = subst (λ a. a < length net.nodes) (sym w.to) in'; rates = below.can.rates; few = omega arith; given = omega arith })

-- the inputs of a graph's block are those of its network
module _ {B : Type 0} (meaning : B → Meaning) (g : Flowgraph B) (is : List Input) (b : ℕ) (same : writers_in is ≡ writers_of (net_of meaning g) b) (p : ℕ) (lt : p < length is) where
  pub used_in : p < length (writers_of (net_of meaning g) b)
  used_in = let m = length-map is (λ (i : Input). connection_of i.connection) in let e = ap length same in omega arith

  pub input_is : connection_of (get_or is p no_input).connection ≡ writer_of (net_of meaning g) b p
  input_is = sym (get_or-map (λ (i : Input). connection_of i.connection) is p no_input no_connection lt) ∙ ap (λ (cs : List Connection). get_or cs p no_connection) same

  module _ (can : CanRun (net_of meaning g)) where
    pub input_from : (get_or is p no_input).connection.from.0 < length g.blocks
    input_from =
        let e : (get_or is p no_input).connection.from.0 ≡ (writer_of (net_of meaning g) b p).from = ap (λ (w : Connection). w.from) input_is in
        let there = (is_input (net_of meaning g) can b p used_in).from in
        let n = length-map g.blocks (node_of meaning) in
        omega arith

    pub input_to : (get_or is p no_input).connection.to.0 ≡ b
    input_to = ap (λ (w : Connection). w.to) input_is ∙ (is_input (net_of meaning g) can b p used_in).to
