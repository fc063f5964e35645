-- A pass over the connections of a network, those to a block before those from it.
use Rattle.std.proofs.Common.{◌≡◌, ℕ, zero, suc, ◌+◌, ◌-◌, ◌*◌, ◌<◌, ◌≤◌, max, true, false, List, length, map, Option, Some, None, get_or, refl, arith, ap, sym, ◌∙◌, subst}
use Rattle.std.specs.Prelude.{◌⊎◌}
use Rattle.stream_model.specs.declared.vocabulary.Shift.{Shift}
use Rattle.stream_model.specs.declared.vocabulary.Shift.TheVariants.{No, Skip, Delay}
use Rattle.stream_model.specs.Meaning.{HasCounts, IsShifted}
use Rattle.stream_model.specs.Firings.{takes, gives, taken_at, given_at, allowed, allowed_by}
use Rattle.stream_model.specs.Network.{Network, Node, Connection, IsSound, node_at, role_at, is_source, given_by, taken_by}
use Rattle.graph_model.specs.Rates.{count_after, count_before, ahead}
use Rattle.std.specs.Prelude.{◌==◌}
use Rattle.std.proofs.Common.{eqb-true}
use Rattle.std.proofs.Math.Nat.{div-le_self}
use Rattle.std.proofs.lemmas.Bool.{eq-eqb}
use Rattle.std.proofs.lemmas.List.{length-map, get_or_default}
use Rattle.std.proofs.lemmas.List.Elements.{All-map}
use Rattle.stream_model.specs.Network.{no_connection}
use Rattle.stream_model.proofs.Firings.{one_at}
use Rattle.graph_model.specs.Rates.{least_of}
use Rattle.graph_model.proofs.FiringCounts.{least_of-each, least_of-ge, All-unfilter, All-refilter, All-unmap, to_block, allowance, worker_unfolds, counts_are_greatest}
use Rattle.rates.specs.Tables.{HasRates, connection_at}
use Rattle.rates.specs.Counts.{given_of, taken_of, delay_of, unlimited}

-- how many firings connection c allows its reader
abbrev pub allows_on : Network → List ℕ → ℕ → Connection → ℕ
allows_on net q step c = allowed (node_at net c.to) c.in_port (given_by (node_at net c.from) (count_after net q c.from step))

-- so many of the connections in order have been followed
pub record IsPassed (net : Network) (order q : List ℕ) (step count : ℕ) (after old new : List ℕ) : Type 0 where
  pub long : length after ≡ length net.nodes
  pub needed_long : length new ≡ length net.connections
  pub sources : (b : ℕ) → b < length net.nodes → is_source (role_at net b) ≡ true → get_or after b 0 ≡ step * get_or q b 0
  pub above : (b : ℕ) → b < length net.nodes → is_source (role_at net b) ≡ false → (get_or after b 0 ≡ unlimited) ⊎ (count_after net q b step ≤ get_or after b 0)
  pub each : (i : ℕ) → i < count → get_or after (connection_at net (get_or order i 0)).to 0 ≤ allows_on net q step (connection_at net (get_or order i 0))
  pub near : (i : ℕ) → i < count → ahead net q (connection_at net (get_or order i 0)) step ≤ 65536
  pub needed : (i : ℕ) → i < count → get_or new (get_or order i 0) 0 ≡ max (get_or old (get_or order i 0) 0) (ahead net q (connection_at net (get_or order i 0)) step)
  pub either : (k : ℕ) → k < length net.connections → (get_or new k 0 ≡ get_or old k 0) ⊎ (get_or new k 0 ≡ max (get_or old k 0) (ahead net q (connection_at net k) step))

-- counts in closed form
module _ (n : Node) (sound : IsSound n) (single : n.meaning.rate 0 ≡ None → n.multiple ≡ 1) where
  shifted_given : (s : Shift) → IsShifted n.meaning 0 s → n.multiple ≡ 1 → (each k : ℕ) → given_by n k ≡ given_of s each k
  shifted_given No h one each k = absurd h
  shifted_given (Skip a) h one each k = h.1 (n.multiple * k) ∙ (let e = ap (λ m. m * k - a) one in e ∙ omega arith)
  shifted_given (Delay a) h one each k = h.2 (n.multiple * k) ∙ (let e = ap (λ m. m * k) one in e ∙ omega arith)

  given_at' : (o : Option (ℕ × ℕ)) → n.meaning.rate 0 ≡ o → HasCounts n.meaning 0 o → (k : ℕ) → given_by n k ≡ given_of n.meaning.shift (gives n) k
  given_at' None e h k = shifted_given n.meaning.shift h (single e) (gives n) k
  given_at' (Some r) e h k =
      let each : gives n ≡ n.multiple * r.1 = ap (λ o. n.multiple * given_at o) e in
      h.1.given (n.multiple * k) ∙ (let f : r.1 * (n.multiple * k) ≡ n.multiple * r.1 * k = omega arith in f) ∙ ap (λ x. x * k) (sym each) ∙ sym (ap (λ s. given_of s (gives n) k) h.0)

  pub given_closed : (k : ℕ) → given_by n k ≡ given_of n.meaning.shift (gives n) k
  given_closed = given_at' (n.meaning.rate 0) refl (sound.lawful.counts 0)

  module _ (p : ℕ) where
    shifted_taken : (s : Shift) → IsShifted n.meaning p s → n.multiple ≡ 1 → (each k : ℕ) → taken_by n p k ≡ taken_of s each k
    shifted_taken No h one each k = absurd h
    shifted_taken (Skip a) h one each k = h.0 (n.multiple * k) ∙ (let e = ap (λ m. m * k) one in e ∙ omega arith)
    shifted_taken (Delay a) h one each k = h.1 (n.multiple * k) ∙ (let e = ap (λ m. m * k - a) one in e ∙ omega arith)

    taken_at' : (o : Option (ℕ × ℕ)) → n.meaning.rate p ≡ o → HasCounts n.meaning p o → (k : ℕ) → taken_by n p k ≡ taken_of n.meaning.shift (takes n p) k
    taken_at' None e h k = shifted_taken n.meaning.shift h (one_at n sound single p (n.meaning.rate 0) refl (sound.lawful.counts 0) h) (takes n p) k
    taken_at' (Some r) e h k =
        let each : takes n p ≡ n.multiple * r.0 = ap (λ o. n.multiple * taken_at o) e in
        h.1.taken (n.multiple * k) ∙ (let f : r.0 * (n.multiple * k) ≡ n.multiple * r.0 * k = omega arith in f) ∙ ap (λ x. x * k) (sym each) ∙ sym (ap (λ s. taken_of s (takes n p) k) h.0)

    pub taken_closed : (k : ℕ) → taken_by n p k ≡ taken_of n.meaning.shift (takes n p) k
    taken_closed = taken_at' (n.meaning.rate p) refl (sound.lawful.counts p)

  shift_few : (s : Shift) → IsShifted n.meaning 0 s → delay_of s ≤ 65536
  shift_few No h = omega arith
  shift_few (Skip a) h = omega arith
  shift_few (Delay a) h = h.0

  delay_at : (o : Option (ℕ × ℕ)) → HasCounts n.meaning 0 o → delay_of n.meaning.shift ≤ 65536
  delay_at None h = shift_few n.meaning.shift h
  delay_at (Some r) h = subst (λ s. delay_of s ≤ 65536) (sym h.0) (omega arith)

  pub delay_few : delay_of n.meaning.shift ≤ 65536
  delay_few = delay_at (n.meaning.rate 0) (sound.lawful.counts 0)

taken_none : (s : Shift) (each : ℕ) → taken_of s each 0 ≡ 0
taken_none No each = omega arith
taken_none (Skip a) each = refl
taken_none (Delay a) each = omega arith

allowed_few : (s : Shift) (each items : ℕ) → allowed_by s each items ≤ items + delay_of s
allowed_few No each items = let h = div-le_self items each in omega arith
allowed_few (Skip a) each items = omega arith
allowed_few (Delay a) each items = omega arith

module _ (net : Network) (rates : HasRates net) (q : List ℕ) where
  -- what a connection allows is at least its reader's count
  pub allows_least : (j k : ℕ) → k < length net.connections → count_after net q (connection_at net k).to j ≤ allows_on net q j (connection_at net k)
  allows_least j k h =
      let c = connection_at net k in
      let b = c.to in
      let ends = rates.levels.rises k no_connection h in
      let unfolds = worker_unfolds net q rates.level rates.levels (length net.nodes) j b refl ends.1 (rates.entered k no_connection h) in
      let xs = map (allowance net q rates.level rates.levels (length net.nodes) j b) (to_block net q rates.level rates.levels b) in
      let each = All-unfilter (λ (c : Connection). c.to == b) (λ c. least_of xs ≤ allowance net q rates.level rates.levels (length net.nodes) j b c) net.connections
      (All-unmap (allowance net q rates.level rates.levels (length net.nodes) j b) (λ x. least_of xs ≤ x) (to_block net q rates.level rates.levels b) (least_of-each xs)) in
      subst (λ n. n ≤ allows_on net q j c) (sym unfolds) (each k no_connection h (eq-eqb b b refl))

  -- a number that each connection to a block allows is at most its count
  pub allows_most : (j b x : ℕ) → b < length net.nodes → is_source (role_at net b) ≡ false →
      ((k : ℕ) → k < length net.connections → (connection_at net k).to ≡ b → x ≤ allows_on net q j (connection_at net k)) → x ≤ count_after net q b j
  allows_most j b x in' work each =
      let unfolds = worker_unfolds net q rates.level rates.levels (length net.nodes) j b refl in' work in
      let f = allowance net q rates.level rates.levels (length net.nodes) j b in
      let all = All-map (λ y. x ≤ y) f (to_block net q rates.level rates.levels b)
      (All-refilter (λ (c : Connection). c.to == b) (λ c. x ≤ f c) net.connections
      (λ k d lt e. let same = get_or_default net.connections k d no_connection lt in
      let to : (connection_at net k).to ≡ b = ap (λ (c : Connection). c.to) (sym same) ∙ eqb-true (get_or net.connections k d).to b e in
      subst (λ c. x ≤ f c) (sym same)
      (subst (λ a. x ≤ allowed (node_at net a) (connection_at net k).in_port (given_by (node_at net (connection_at net k).from) (count_after net q (connection_at net k).from j))) to (each k lt to)))) in
      subst (λ n. x ≤ n) (sym unfolds) (least_of-ge x (map f (to_block net q rates.level rates.levels b)) (rw length-map (rates.can.fed b in' work)) all)

  -- a block that is no source has a connection
  pub some_writer : (P : Type 0) (b : ℕ) → b < length net.nodes → is_source (role_at net b) ≡ false → ((k : ℕ) → k < length net.connections → (connection_at net k).to ≡ b → P) → P
  some_writer P b in' work each =
      All-refilter (λ (c : Connection). c.to == b) (λ _. P) net.connections
      (λ k d lt e. each k lt (ap (λ (c : Connection). c.to) (sym (get_or_default net.connections k d no_connection lt)) ∙ eqb-true (get_or net.connections k d).to b e))
      0 no_connection (rates.can.fed b in' work)

  -- what a reader took before a step its writer had given by then
  pub before_there : (step k : ℕ) → k < length net.connections →
      taken_by (node_at net (connection_at net k).to) (connection_at net k).in_port (count_before net q (connection_at net k).to step)
      ≤ given_by (node_at net (connection_at net k).from) (count_before net q (connection_at net k).from step)
  before_there zero k h =
      let c = connection_at net k in
      let none = taken_closed (node_at net c.to) (rates.can.sound c.to) (rates.can.single c.to) c.in_port 0 ∙ taken_none (node_at net c.to).meaning.shift (takes (node_at net c.to) c.in_port) in
      omega arith
  before_there (suc j) k h =
      let c = connection_at net k in
      let ends = rates.levels.rises k no_connection h in
      (counts_are_greatest net q rates.level rates.can rates.levels).there c.to j ends.1 (rates.entered k no_connection h) k no_connection h refl

  -- so a step that takes no writer too far ahead lets it give few items, and its reader fire few times
  module _ (step : ℕ) (near : (k : ℕ) → k < length net.connections → given_by (node_at net (connection_at net k).from) (count_before net q (connection_at net k).from step) ≤ 65536 * step) where
    pub given_few : (k : ℕ) → k < length net.connections → ahead net q (connection_at net k) step ≤ 65536 →
        given_by (node_at net (connection_at net k).from) (count_after net q (connection_at net k).from step) ≤ 65536 * (step + 1)
    given_few k h low = (let a = near k h in let b = before_there step k h in omega arith)

    pub fires_few : (k : ℕ) → k < length net.connections → ahead net q (connection_at net k) step ≤ 65536 → count_after net q (connection_at net k).to step ≤ 65536 * (step + 2)
    fires_few k h low =
        let c = connection_at net k in
        let given = given_few k h low in
        let allows = allows_least step k h in
        let most = allowed_few (node_at net c.to).meaning.shift (takes (node_at net c.to) c.in_port) (given_by (node_at net c.from) (count_after net q c.from step)) in
        let delay = delay_few (node_at net c.to) (rates.can.sound c.to) (rates.can.single c.to) in
        omega arith

    pub before_few : (k : ℕ) → k < length net.connections → count_before net q (connection_at net k).to step ≤ 65536 * (step + 1)
    before_few k h = at step refl
      where
        at : (n : ℕ) → n ≡ step → count_before net q (connection_at net k).to n ≤ 65536 * (step + 1)
        at zero e = omega arith
        at (suc j) e =
            let c = connection_at net k in
            let there = subst (λ n. given_by (node_at net c.from) (count_before net q c.from n) ≤ 65536 * step) (sym e) (near k h) in
            let allows = allows_least j k h in
            let most = allowed_few (node_at net c.to).meaning.shift (takes (node_at net c.to) c.in_port) (given_by (node_at net c.from) (count_after net q c.from j)) in
            let delay = delay_few (node_at net c.to) (rates.can.sound c.to) (rates.can.single c.to) in
            omega arith
