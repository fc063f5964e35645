-- What a claim looks at: the inputs and outputs of a block, connection by connection.
use Rattle.std.proofs.Common.{◌≡◌, ℕ, ◌+◌, ◌<◌, ◌≤◌, Bool, true, false, [], ◌∷◌, length, map, refl, arith, ap, sym, ◌∙◌, subst, get_or, eqb-true, ltb-true}
use Rattle.std.specs.Prelude.{◌==◌, ◌&&◌, ◌||◌, nat_le, nat_lt}
use Rattle.std.specs.List.{All, list_all}
use Rattle.std.proofs.lemmas.Bool.{and_parts, and_from, leb-true, le-leb, eq-eqb}
use Rattle.std.proofs.lemmas.List.{length-map, get_or-map}
use Rattle.std.proofs.lemmas.List.FromFn.{length-range_with_len}
use Rattle.std.proofs.lemmas.List.Folds.{list_all-map}
use Rattle.std.proofs.lemmas.List.Sums.{AllPass-from_list_all, list_all-from_AllPass}
use Rattle.stream_model.specs.Lists.{below}
use Rattle.stream_model.specs.Network.{Network, Connection, State, node_at, handed_at, progress_at, role_at, is_source, writers_of, writer_of, no_connection, readers_of, used_outputs, taken_by, given_by, within_limit}
use Rattle.stream_model.specs.Claims.{InputCounts, ReaderCounts, is_unread, is_abandoned, leaves_room, may_fire, has_items, has_room}
use Rattle.stream_model.specs.Machine.{Capacities, capacity_at, input_counts, tape_counts, counts_in, reader_counts, output_counts, counts_out, counts_of}
use Rattle.stream_model.proofs.Streams.{elim-true, elim-false}
use Rattle.graph_model.proofs.FiringCounts.{All-unfilter, All-refilter}
use Rattle.graph_model.proofs.Sizes.{port_used}
use Rattle.stream_laws.specs.CanRun.{CanRun}
use Rattle.stream_laws.proofs.Writers.{source_takes}
use Rattle.machine_laws.specs.Sound.{fired, IsUnread, Fits}
use Rattle.machine_laws.proofs.Inputs.{no_input, input_at, holds-at, all_below-at, all_below-from}
use Rattle.machine_laws.proofs.Ports.{source_alone}

module _ (net : Network) (st : State) (b : ℕ) where
  pub inputs_source : is_source (role_at net b) ≡ true → counts_in net st b ≡ tape_counts (handed_at st.handed b) ∷ []
  unfolding counts_in
  inputs_source e = elim-true (is_source (role_at net b)) (tape_counts (handed_at st.handed b) ∷ []) (map (input_counts net st) (writers_of net b)) e

  pub inputs_other : is_source (role_at net b) ≡ false → counts_in net st b ≡ map (input_counts net st) (writers_of net b)
  unfolding counts_in
  inputs_other e = elim-false (is_source (role_at net b)) (tape_counts (handed_at st.handed b) ∷ []) (map (input_counts net st) (writers_of net b)) e

  pub inputs_count : is_source (role_at net b) ≡ false → length (counts_in net st b) ≡ length (writers_of net b)
  inputs_count e = ap length (inputs_other e) ∙ length-map (writers_of net b) (input_counts net st)

  -- an input stands for its writer
  pub input_is_writer : is_source (role_at net b) ≡ false → (p : ℕ) → p < length (writers_of net b) → input_at (counts_in net st b) p ≡ input_counts net st (writer_of net b p)
  input_is_writer e p used =
      ap (λ is. input_at is p) (inputs_other e) ∙ get_or-map (input_counts net st) (writers_of net b) p no_connection no_input used

  -- a test of the readers of an output, connection by connection
  module _ (test : ReaderCounts → Bool) (p : ℕ) where
    pub readers_pass : list_all test (map (reader_counts net st) (readers_of net b p)) ≡ true → All (λ c. c.from ≡ b → c.out_port ≡ p → test (reader_counts net st c) ≡ true) net.connections
    readers_pass all =
        λ k d lt from port.
        All-unfilter (λ (c : Connection). c.from == b && c.out_port == p) (λ c. test (reader_counts net st c) ≡ true) net.connections
        (AllPass-from_list_all (λ c. test (reader_counts net st c)) (readers_of net b p) (sym (list_all-map test (reader_counts net st) (readers_of net b p)) ∙ all))
        k d lt (and_from _ _ (eq-eqb _ b from) (eq-eqb _ p port))

    pub readers_all : All (λ c. c.from ≡ b → c.out_port ≡ p → test (reader_counts net st c) ≡ true) net.connections → list_all test (map (reader_counts net st) (readers_of net b p)) ≡ true
    readers_all each =
        list_all-map test (reader_counts net st) (readers_of net b p)
        ∙ list_all-from_AllPass (λ c. test (reader_counts net st c)) (readers_of net b p)
        (All-refilter (λ (c : Connection). c.from == b && c.out_port == p) (λ c. test (reader_counts net st c) ≡ true) net.connections
        (λ k d lt e. let parts = and_parts ((get_or net.connections k d).from == b) ((get_or net.connections k d).out_port == p) e in
        each k d lt (eqb-true _ b parts.0) (eqb-true _ p parts.1)))

  module _ (caps : Capacities) where
    -- nobody reads any output
    pub unread_is : is_unread (counts_of net caps st b) ≡ true → IsUnread net st b
    unread_is e =
        let parts = and_parts (nat_lt 0 (length (counts_out net caps st b))) (list_all is_abandoned (counts_out net caps st b)) e in
        let count : length (counts_out net caps st b) ≡ used_outputs net b = length-map (below (used_outputs net b)) (output_counts net caps st b) ∙ length-range_with_len 0 (used_outputs net b) in
        let some : 0 < length (counts_out net caps st b) = ltb-true 0 (length (counts_out net caps st b)) parts.0 in
        record {
          outputs = omega arith;
          done = λ k d lt from.
              let used : (get_or net.connections k d).out_port < used_outputs net b = subst (λ u. (get_or net.connections k d).out_port < used_outputs net u) from (port_used (get_or net.connections k d).from net.connections k d lt refl) in
              readers_pass (λ (r : ReaderCounts). r.done) (get_or net.connections k d).out_port
              (all_below-at is_abandoned (output_counts net caps st b) (used_outputs net b) parts.1 (get_or net.connections k d).out_port used) k d lt from refl;
        }

    -- each live reader has room
    abbrev pub HasRoom : ℕ → Type 0
    HasRoom k = All (λ c. c.from ≡ b → (progress_at st.progress c.to).done ≡ false →
        given_by (node_at net b) k ≤ taken_by (node_at net c.to) c.in_port (fired st c.to) + capacity_at caps b c.out_port) net.connections

    live_room : (done le : Bool) → done ≡ false → (done || le) ≡ true → le ≡ true
    live_room true le e h = cc
    live_room false le e h = h

    pub room_is : (k : ℕ) → list_all (leaves_room (node_at net b) k) (counts_out net caps st b) ≡ true → HasRoom k
    room_is k all =
        λ i d lt from live.
        let c = get_or net.connections i d in
        let used : (get_or net.connections i d).out_port < used_outputs net b = subst (λ u. (get_or net.connections i d).out_port < used_outputs net u) from (port_used (get_or net.connections i d).from net.connections i d lt refl) in
        let pass = readers_pass (λ (r : ReaderCounts). r.done || nat_le (given_by (node_at net b) k) (r.taken + capacity_at caps b (get_or net.connections i d).out_port)) (get_or net.connections i d).out_port
        (all_below-at (leaves_room (node_at net b) k) (output_counts net caps st b) (used_outputs net b) all (get_or net.connections i d).out_port used) i d lt from refl in
        leb-true _ _ (live_room _ _ live pass)

    room_or : (done : Bool) (x y : ℕ) → (done ≡ false → x ≤ y) → (done || nat_le x y) ≡ true
    room_or true x y h = refl
    room_or false x y h = le-leb x y (h refl)

    pub room_from : (k : ℕ) → HasRoom k → list_all (leaves_room (node_at net b) k) (counts_out net caps st b) ≡ true
    room_from k room =
        all_below-from (leaves_room (node_at net b) k) (output_counts net caps st b) (used_outputs net b)
        (λ p used. readers_all (λ (r : ReaderCounts). r.done || nat_le (given_by (node_at net b) k) (r.taken + capacity_at caps b p)) p
        (λ i d lt from port. room_or (progress_at st.progress (get_or net.connections i d).to).done _ _
        (λ live. subst (λ q. given_by (node_at net b) k ≤ taken_by (node_at net (get_or net.connections i d).to) (get_or net.connections i d).in_port (fired st (get_or net.connections i d).to) + capacity_at caps b q) port (room i d lt from live))))

module _ (net : Network) (can : CanRun net) (caps : Capacities) (st : State) (b : ℕ) where
  -- firings that a claim may hand out fit
  items_at : (k : ℕ) (s : Bool) → is_source (role_at net b) ≡ s → ((p : ℕ) → p < length (counts_in net st b) → taken_by (node_at net b) p k ≤ (input_at (counts_in net st b) p).written) →
      All (λ c. c.to ≡ b → taken_by (node_at net b) c.in_port k ≤ given_by (node_at net c.from) (fired st c.from)) net.connections
  items_at k true e holds = λ i d lt to. absurd (source_alone net can b e i d lt to)
  items_at k false e holds =
      λ i d lt to.
      let own = can.writers i d lt in
      let used : (get_or net.connections i d).in_port < length (writers_of net b) = subst (λ v. (get_or net.connections i d).in_port < length (writers_of net v)) to own.used in
      let is : writer_of net b (get_or net.connections i d).in_port ≡ get_or net.connections i d = subst (λ v. writer_of net v (get_or net.connections i d).in_port ≡ get_or net.connections i d) to own.is in
      let written = ap (λ (j : InputCounts). j.written) (input_is_writer net st b e (get_or net.connections i d).in_port used ∙ ap (input_counts net st) is) in
      let count = inputs_count net st b e in
      let held = holds (get_or net.connections i d).in_port (omega arith) in
      omega arith

  tape_at : (k : ℕ) → is_source (role_at net b) ≡ true → ((p : ℕ) → p < length (counts_in net st b) → taken_by (node_at net b) p k ≤ (input_at (counts_in net st b) p).written) → k ≤ length (handed_at st.handed b).tape
  tape_at k e holds =
      let one = inputs_source net st b e in
      let held = subst (λ is. 0 < length is → taken_by (node_at net b) 0 k ≤ (input_at is 0).written) one (holds 0) (omega arith) in
      let same = source_takes net can b k e in
      omega arith

  pub claim_fits : (r : ℕ) → may_fire (node_at net b) (counts_of net caps st b) r ≡ true → Fits net caps st b (fired st b + r)
  claim_fits r may =
      let outer = and_parts (has_items (node_at net b) (counts_of net caps st b) r && has_room (node_at net b) (counts_of net caps st b) r) (within_limit (node_at net b).meaning.limit (fired st b + r)) may in
      let inner = and_parts (has_items (node_at net b) (counts_of net caps st b) r) (has_room (node_at net b) (counts_of net caps st b) r) outer.0 in
      let holds = holds-at (node_at net b) 0 (counts_in net st b) (fired st b + r) inner.0 in
      let each : (p : ℕ) → p < length (counts_in net st b) → taken_by (node_at net b) p (fired st b + r) ≤ (input_at (counts_in net st b) p).written =
      λ p used. subst (λ q. taken_by (node_at net b) q (fired st b + r) ≤ (input_at (counts_in net st b) p).written) (omega arith) (holds p used) in
      record {
        tape = λ e. tape_at (fired st b + r) e each;
        items = items_at (fired st b + r) (is_source (role_at net b)) refl each;
        room = room_is net st b caps (fired st b + r) inner.1;
        limit = outer.1;
      }
