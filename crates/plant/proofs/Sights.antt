-- What is stored serves a claim in flight: its tape, its timeline, and what the readers at its block's inputs see.
use Rattle.std.proofs.Common.{◌≡◌, ℕ, ℤ, ◌+◌, ◌-◌, ◌*◌, ◌^◌, ◌<◌, ◌≤◌, true, false, List, [], ◌∷◌, map, length, get_or, take, All, arith, ap, sym, ◌∙◌, subst, inl, inr}
use Rattle.std.specs.Prelude.{slice_range, None}
use Rattle.std.proofs.Common.{mul-le-mul_right}
use Rattle.std.proofs.lemmas.Bool.{cases_Bool}
use Rattle.std.proofs.lemmas.List.{get_or-map, length-map, take-take, same_lists, get_or_default}
use Rattle.stream_model.specs.Lists.{window}
use Rattle.stream_model.specs.Meaning.{input}
use Rattle.stream_model.specs.Network as model
use Rattle.stream_model.specs.Network.{Network, Progress, State, node_at, progress_at, role_at, is_source, writers_of, writer_of, used_outputs, taken_by, given_by, items_of, entering}
use Rattle.stream_model.specs.Machine.{job_of}
use Rattle.graph_model.specs.Graphs.{IsValidGraph}
use Rattle.stream_laws.specs.CanRun.{CanRun}
use Rattle.stream_laws.proofs.Cuts.{window-same}
use Rattle.stream_laws.proofs.Writers.{entering-input, length-entering, source_takes}
use Rattle.machine_laws.specs.Sound.{fired}
use Rattle.machine_laws.specs.Stays.{in_flight}
use Rattle.ring_readers.specs.State.{RingState, IsLive, IsEndOf, reader_at, unread_of, past_of}
use Rattle.buffers.specs.Buffer.{BufferState}
use Rattle.flowgraph.specs.declared.parts.Input.{Input}
use Rattle.flowgraph.specs.Wiring.{writers_in, IsItsReader}
use Rattle.plant_laws.specs.Stored as plain
use Rattle.plant_laws.specs.Stored.{tape_at, timeline_at, settings_from, buffer_at}
use Rattle.plant_laws.specs.Claims.{MayFire, Serves, held_over, input_buffer, input_reader}
use Rattle.plant_laws.proofs.Windows.{length-windows}
use Rattle.plant_laws.proofs.Serving.{flights_may_fire, firings_are_served, is_end, enough, job_window}
use Rattle.plant_storage.specs.SourceTapes.{tape_in}
use Rattle.plant_storage.specs.declared.intake.Intake.{Intake}
use Rattle.plant_storage.specs.declared.stores.Stores.{Stores}
use Rattle.plant_storage.specs.Stores.{rows_in, stored_in, state_of, tape_of, buffer_of}
use Rattle.plant_storage.specs.Lending.{no_buffer, HasInput, CanLend}
use Rattle.plant_storage.proofs.Lendable.{can_lend}
use Rattle.plant_transfers.proofs.Wires.{no_input, as_many_inputs, input_connection, writer_there, output_there, input_number}
use Rattle.plant.specs.Flight.{IsStored}
use Rattle.plant.specs.Seen.{buffer_behind, ring_behind, CanSee, CanSeeAll, AreEnds, AreSeen, seen_of}

module _ (names : List (List ℕ)) (net : Network) (can : CanRun net) (valid : IsValidGraph names net) (s : Stores) (ps : List Progress) (stored : IsStored net s ps)
    (b : ℕ) (inside : b < length net.nodes) (some : 0 < (progress_at ps b).claimed) where
  abbrev st : State
  st = state_of s.handed.items ps

  abbrev count : ℕ
  count = (progress_at ps b).claimed

  abbrev next : ℕ
  next = (progress_at ps b).firings + (progress_at ps b).claimed

  may : MayFire net stored.caps (st) b (count)
  may = flights_may_fire net stored.caps (st) can stored.sound b inside some

  pub lend : CanLend net (stored_in s) b (fired (st) b) (count)
  lend = can_lend names net can valid stored.caps (st) stored.sound stored.gain b (count) may (stored_in s) stored.holds

  pub serves : Serves net stored.caps (st) (stored_in s) b (count)
  serves = firings_are_served net stored.caps (st) (stored_in s) can stored.sound stored.holds b (count) may

  -- what the block was handed
  pub handed_there : b < length s.handed.items
  handed_there = let places = lend.places.tapes in let long = length-map s.handed.items tape_of in omega arith

  -- the items that its firings take fit a word
  first_small : taken_by (node_at net b) 0 (next) < 2 ^ 62
  first_small =
      elim (cases_Bool (is_source (role_at net b))) [
        | inl e ↦ (
            let one = source_takes net can b (next) e in
            let firings = lend.words.firings in
            let least = (can.sound b).some in
            let more : (next) ≤ (node_at net b).multiple * (next) = mul-le (next) (node_at net b).multiple least in
            omega arith)
        | inr e ↦ lend.words.takes 0 (can.fed b inside e)
      ]
    where
      mul-le : (n k : ℕ) → 1 ≤ k → n ≤ k * n
      mul-le n k least = let most : 1 * n ≤ k * n = mul-le-mul_right n least in omega arith

  -- the buffers, row by row
  abbrev rows : List (List BufferState)
  rows = rows_in s

  pub rows_long : length (rows) ≡ length net.nodes
  rows_long = sym (length-map (rows) (map buffer_of)) ∙ lend.places.buffers

  module _ (a o : ℕ) (in' : a < length net.nodes) (used : o < used_outputs net a) where
    row_at : get_or (stored_in s).buffers a [] ≡ map buffer_of (get_or (rows) a [])
    row_at = get_or-map (map buffer_of) (rows) a [] [] (rw rows_long in')

    pub port_there : o < length (get_or (rows) a [])
    port_there =
        let long : length (get_or (rows) a []) ≡ used_outputs net a = sym (length-map (get_or (rows) a []) buffer_of) ∙ ap length (sym (row_at)) ∙ lend.places.outputs a in' in
        omega arith

    pub buffer_there : buffer_of (get_or (get_or (rows) a []) o no_buffer) ≡ buffer_at (stored_in s) a o
    buffer_there = sym (get_or-map buffer_of (get_or (rows) a []) o no_buffer plain.no_buffer (port_there)) ∙ ap (λ bs. get_or bs o plain.no_buffer) (sym (row_at))

  module _ (is : List Input) (same : writers_in is ≡ writers_of net b) (known : All (IsItsReader net) is) where
    inputs_long : length is ≡ length (writers_of net b)
    inputs_long = as_many_inputs net b is same

    abbrev pub shown : ℕ → List ℤ
    shown p = let c = writer_of net b p in take (given_by (node_at net c.from) (fired (st) c.from)) (items_of net (st).handed c.from c.out_port)

    module _ (p : ℕ) (d : Input) (low : p < length is) where
      used : p < length (writers_of net b)
      used = let long = inputs_long in omega arith

      abbrev i : Input
      i = get_or is p d

      abbrev ring : RingState
      ring = (input_buffer net (stored_in s) b p).ring

      buffer_is : buffer_of (buffer_behind (rows) (i)) ≡ input_buffer net (stored_in s) b p
      buffer_is =
          buffer_there (i).connection.from.0 (i).connection.out_port (writer_there net can b p used is same d) (output_there net can b p used is same d)
          ∙ ap (λ (c : model.Connection). buffer_at (stored_in s) c.from c.out_port) (input_connection net can b p used is same d)

      ring_is : ring_behind (rows) (i) ≡ (ring)
      ring_is = ap (λ (o : plain.OutputBuffer). o.ring) buffer_is

      number : (i).reader ≡ input_reader net b p
      number = input_number net can b p used is same d known

      has : HasInput net (stored_in s) b p (fired (st) b) (next)
      has = lend.inputs p used

      pub can_see : CanSee (rows) (node_at net b) (fired (st) b) (next) p (i)
      can_see =
          let live : IsLive (ring_behind (rows) (i)) (i).reader = subst (λ r. IsLive r (i).reader) (sym ring_is) (subst (IsLive (ring)) (sym number) has.live) in
          let unread = ap (λ r. unread_of r (i).reader) ring_is ∙ ap (unread_of (ring)) number in
          let there = has.unread in
          let few = lend.words.takes p used in
          record {
            block = rw rows_long (writer_there net can b p used is same d);
            port = port_there (i).connection.from.0 (i).connection.out_port (writer_there net can b p used is same d) (output_there net can b p used is same d);
            type = ap (λ (o : plain.OutputBuffer). o.item) buffer_is ∙ has.type;
            live = live;
            unread = omega (arith, unread, there);
            firings = lend.words.firings;
            small = few;
          }

      pub ends : IsEndOf (ring_behind (rows) (i)) ((shown) p)
      ends = subst (λ r. IsEndOf r ((shown) p)) (sym ring_is) (is_end net can stored.caps (st) stored.sound (stored_in s) stored.holds b (count) may p used)

      module _ (worker : is_source (role_at net b) ≡ false) where
        abbrev past : ℕ
        past = (node_at net b).meaning.history - 1

        abbrev from : ℕ
        from = taken_by (node_at net b) p (fired (st) b)

        abbrev to : ℕ
        to = taken_by (node_at net b) p (next)

        pub seen_is : seen_of (rows) (node_at net b) (fired (st) b) (next) p (i) ((shown) p) ≡ input (in_flight net (st) b).windows p
        seen_is =
            let c = writer_of net b p in
            let given = given_by (node_at net c.from) (fired (st) c.from) in
            let stream = items_of net (st).handed c.from c.out_port in
            let sight = λ (r : RingState) (n : ℕ). window ((shown) p) (past_of r n) (reader_at r n).place ((reader_at r n).place + ((to) - (from))) in
            let upto : (from) + ((to) - (from)) ≡ (to) = (let rises = has.rises in omega arith) in
            ap (λ r. sight r (i).reader) ring_is
            ∙ ap (sight (ring)) number
            ∙ ap (λ h. window ((shown) p) (h - 1) (reader_at (ring) (input_reader net b p)).place ((reader_at (ring) (input_reader net b p)).place + ((to) - (from)))) has.history
            ∙ ap (λ k. window ((shown) p) (past) k (k + ((to) - (from)))) has.place
            ∙ ap (window ((shown) p) (past) (from)) upto
            ∙ window-same ((shown) p) stream (past) (from) (to) (take-take (to) given stream (enough net can stored.caps (st) stored.sound (stored_in s) stored.holds b (count) may p used))
            ∙ sym (ap (λ x. window x (past) (from) (to)) (entering-input net (st).handed b p worker used))
            ∙ sym (job_window net can stored.caps (st) stored.sound (stored_in s) stored.holds b (count) may p used)

    module _ (worker : is_source (role_at net b) ≡ false) where
      windows_long : length (in_flight net (st) b).windows ≡ length (writers_of net b)
      unfolding job_of
      windows_long =
          let n = node_at net b in
          length-windows n.meaning 0 (entering net (st).handed b) (n.multiple * fired (st) b) (n.multiple * (count)) ∙ length-entering net (st).handed b worker

      pub windows_are : (ws : List (List ℤ)) → AreSeen (rows) (node_at net b) (fired (st) b) (next) is (shown) ws → ws ≡ (in_flight net (st) b).windows
      windows_are ws seen =
          same_lists ws (in_flight net (st) b).windows (seen.many ∙ inputs_long ∙ sym windows_long)
          (λ q d lt.
          let low : q < length is = (let many = seen.many in omega arith) in
          let there : q < length (in_flight net (st) b).windows = (let long = inputs_long in let whole = windows_long in omega arith) in
          get_or_default ws q d [] lt ∙ seen.seen q no_input low ∙ seen_is q no_input low worker ∙ get_or_default (in_flight net (st) b).windows q [] d there)

      pub are_windows : (ws : List (List ℤ)) → ws ≡ (in_flight net (st) b).windows → AreSeen (rows) (node_at net b) (fired (st) b) (next) is (shown) ws
      are_windows ws e = record {
        many = ap length e ∙ windows_long ∙ sym inputs_long;
        seen = λ p d low. ap (λ us. input us p) e ∙ sym (seen_is p d low worker);
      }

-- a claim in flight, with counts that code has read
pub record IsRead (names : List (List ℕ)) (net : Network) (s : Stores) (ps : List Progress) (b first claimed : ℕ) : Type 0 where
  pub can : CanRun net
  pub valid : IsValidGraph names net
  pub stored : IsStored net s ps
  pub inside : b < length net.nodes
  pub some : 0 < (progress_at ps b).claimed
  pub first_is : first ≡ (progress_at ps b).firings
  pub claimed_is : claimed ≡ (progress_at ps b).claimed

module _ {names : List (List ℕ)} {net : Network} {s : Stores} {ps : List Progress} {b first claimed : ℕ} (r : IsRead names net s ps b first claimed) where
  lends : CanLend net (stored_in s) b (progress_at ps b).firings (progress_at ps b).claimed
  lends = lend names net r.can r.valid s ps r.stored b r.inside r.some

  pub to_fits : (node_at net b).multiple * (first + claimed) < 2 ^ 62
  to_fits = rw (r.first_is, r.claimed_is) lends.words.firings

  pub to_small : taken_by (node_at net b) 0 (first + claimed) < 2 ^ 62
  to_small = rw (r.first_is, r.claimed_is) (first_small names net r.can r.valid s ps r.stored b r.inside r.some)

  -- what the block was handed
  module _ (h : Intake) (at : h ≡ get_or s.handed.items b h) where
    there : b < length s.handed.items
    there = handed_there names net r.can r.valid s ps r.stored b r.inside r.some

    tape_here : tape_at (stored_in s) b ≡ tape_of h
    tape_here = get_or-map tape_of s.handed.items b h plain.no_tape there ∙ ap tape_of (sym at)

    timeline_here : timeline_at (stored_in s) b ≡ h.timeline
    timeline_here = get_or-map (λ (h : Intake). h.timeline) s.handed.items b h None there ∙ ap (λ (h : Intake). h.timeline) (sym at)

    pub held_is : held_over h.timeline (taken_by (node_at net b) 0 first) (taken_by (node_at net b) 0 (first + claimed)) ≡ (in_flight net (state_of s.handed.items ps) b).held
    held_is = rw (r.first_is, r.claimed_is, ← timeline_here) (serves names net r.can r.valid s ps r.stored b r.inside r.some).held

    pub settings_unread : settings_from h.timeline ≤ taken_by (node_at net b) 0 first
    settings_unread = rw (r.first_is) (subst (λ o. settings_from o ≤ taken_by (node_at net b) 0 (progress_at ps b).firings) timeline_here lends.settings)

    -- the window of a source
    module _ (source : is_source (role_at net b) ≡ true) where
      pub tape_long : first + claimed ≤ length (tape_in h.tape).items
      tape_long =
          let long = (lends.tape source).long in
          let same = ap (λ (t : plain.Tape). length t.items) tape_here in
          rw (r.first_is, r.claimed_is) (omega arith)

      pub tape_type : (tape_in h.tape).item ≡ (node_at net b).meaning.inputs.item
      tape_type = sym (ap (λ (t : plain.Tape). t.item) tape_here) ∙ (lends.tape source).type

      pub cut_is : slice_range (tape_in h.tape).items first (first + claimed) ∷ [] ≡ (in_flight net (state_of s.handed.items ps) b).windows
      cut_is =
          rw (r.first_is, r.claimed_is)
          (ap (λ (t : plain.Tape). slice_range t.items (progress_at ps b).firings ((progress_at ps b).firings + (progress_at ps b).claimed) ∷ []) (sym tape_here)
          ∙ (serves names net r.can r.valid s ps r.stored b r.inside r.some).tape source)

  -- its inputs
  module _ (is : List Input) (same : writers_in is ≡ writers_of net b) (known : All (IsItsReader net) is) where
    abbrev pub streams : ℕ → List ℤ
    streams = shown names net r.can r.valid s ps r.stored b r.inside r.some is same known

    pub can_see_all : CanSeeAll (rows_in s) (node_at net b) first (first + claimed) is
    can_see_all = rw (r.first_is, r.claimed_is) (can_see names net r.can r.valid s ps r.stored b r.inside r.some is same known)

    pub are_ends : AreEnds (rows_in s) is (streams)
    are_ends = ends names net r.can r.valid s ps r.stored b r.inside r.some is same known

    module _ (worker : is_source (role_at net b) ≡ false) (ws : List (List ℤ)) where
      pub seen_are : AreSeen (rows_in s) (node_at net b) first (first + claimed) is (streams) ws → ws ≡ (in_flight net (state_of s.handed.items ps) b).windows
      seen_are = rw (r.first_is, r.claimed_is) (windows_are names net r.can r.valid s ps r.stored b r.inside r.some is same known worker ws)

      pub are_seen : ws ≡ (in_flight net (state_of s.handed.items ps) b).windows → AreSeen (rows_in s) (node_at net b) first (first + claimed) is (streams) ws
      are_seen = rw (r.first_is, r.claimed_is) (are_windows names net r.can r.valid s ps r.stored b r.inside r.some is same known worker ws)
