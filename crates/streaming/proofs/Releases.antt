-- A plant keeps what it keeps where a tape, or what a sink has collected, forgets what was taken.
use Rattle.std.proofs.Common.{◌≡◌, ℕ, ◌+◌, ◌*◌, ◌^◌, ◌<◌, ◌≤◌, mul-le-mul_left, true, false, List, [], length, map, set, get_or, refl, arith, ap, sym, ◌∙◌, subst, inl, inr, get_or-set_same, get_or-set_other}
use Rattle.std.proofs.lemmas.Bool.{cases_eq}
use Rattle.std.proofs.lemmas.List.{map-set, get_or-map, get_or_default, length-map}
use Rattle.std.proofs.Math.Seq.{map-set_same}
use Rattle.std.proofs.Math.ListN as plain
use Rattle.std.specs.Prelude.{Bool, Vec, Option, Some, None, IsSome}
use Rattle.std.specs.Global.{Global}
use Rattle.stream_model.specs.Network.{Network, Progress, State, node_at, handed_at, progress_at, role_at, is_source, writers_of, taken_by}
use Rattle.stream_model.specs.Machine.{Capacities}
use Rattle.stream_laws.specs.CanRun.{CanRun}
use Rattle.graph_model.specs.Gains.{AreWithinGain}
use Rattle.machine_laws.specs.Sound.{Sound, fired, reached}
use Rattle.machine_laws.specs.Bounds.{IsSmall}
use Rattle.stream_model.proofs.Streams.{taken_by-rises}
use Rattle.recordings.specs.Recording.{RecordingState}
use Rattle.plant_laws.specs.Stored.{Tape, Collected, Stored, no_tape, nothing_collected, tape_at, timeline_at, settings_from, sink_at}
use Rattle.plant_laws.specs.Holds.{IsTimeline, Holds}
use Rattle.plant_laws.specs.Changes.{with_tape_from, with_sink_from, with_settings_to, with_settings_from, tags_brought}
use Rattle.plant_laws.specs.Flights.{BringsTheSame}
use Rattle.plant_laws.proofs.Forgetting.{what_is_taken_may_go}
use Rattle.plant_storage.specs.declared.intake.Intake.{Intake}
use Rattle.plant_storage.specs.declared.stores.Stores.{Stores}
use Rattle.plant_storage.specs.Stores.{HasForgotten, HasForgottenSettings, handed_of, tape_of, collected_of, state_of, stored_in}
use Rattle.plant_storage.specs.Lending.{KeepsAllRoom, no_sink}
use Rattle.plant_storage.proofs.Rooms.{room_stays}
use Rattle.plant.specs.Plant.{Keeps}
use Rattle.stream_model.specs.Settings.{Value, Held}
use Rattle.recordings.specs.Recent.{SettingsState}
use Rattle.plant.proofs.Moves.{IsHanded, stored_then, room_handed, handed_long, stored_here}

-- what a sink forgot changes nothing that claims in flight bring
sink_brings : (net : Network) (stored : Stored) (b to a k next : ℕ) → BringsTheSame net stored (with_sink_from stored b to) a k next
sink_brings net stored b to a k next = record { taken = λ q used. refl; brought = λ p used. refl }

-- nor does what a tape forgot, since its tags are all there
tags_there : (stored : Stored) (b to a : ℕ) → (tape_at (with_tape_from stored b to) a).tags ≡ (tape_at stored a).tags
tags_there stored b to a =
    sym (tags_at (set stored.tapes b (record (tape_at stored b) { from = to })))
    ∙ ap (λ ts. get_or ts a []) (map-set_same (λ (t : Tape). t.tags) stored.tapes b (record (tape_at stored b) { from = to }) no_tape refl)
    ∙ tags_at stored.tapes
  where
    tags_at : (ts : List Tape) → get_or (map (λ (t : Tape). t.tags) ts) a [] ≡ (get_or ts a no_tape).tags
    tags_at ts = plain.get_or-map (λ (t : Tape). t.tags) ts a no_tape

tape_brings : (net : Network) (stored : Stored) (b to a k next : ℕ) → BringsTheSame net stored (with_tape_from stored b to) a k next
tape_brings net stored b to a k next = record {
  taken = λ q used. refl;
  brought = λ p used. by_role p (is_source (role_at net a)) refl;
}
  where
    by_role : (p : ℕ) (s : Bool) → is_source (role_at net a) ≡ s → tags_brought net (with_tape_from stored b to) a p k next ≡ tags_brought net stored a p k next
    by_role p true e = let there = tags_there stored b to a in rw (tags_brought, e, there) refl
    by_role p false e = rw (tags_brought, e) refl

-- the state does not change as a tape forgets
pub tape_same : (hs : List Intake) (ps : List Progress) (b to : ℕ) (h h' : Intake) → h ≡ get_or hs b h → HasForgotten to h h' → state_of (set hs b h') ps ≡ state_of hs ps
tape_same hs ps b to h h' h_is gone = ap (λ x. (let y : State = record { handed = x; progress = ps } in y)) (map-set_same handed_of hs b h' h (gone.handed ∙ ap handed_of h_is))

-- the first items that are kept of tapes, where one is stored anew
abbrev froms : List Intake → List ℕ
froms hs = map (λ (t : Tape). t.from) (map tape_of hs)

froms_with : (hs : List Intake) (b : ℕ) (h' : Intake) → froms (set hs b h') ≡ set (froms hs) b (tape_of h').from
froms_with hs b h' = ap (map (λ (t : Tape). t.from)) (map-set tape_of hs b h') ∙ map-set (λ (t : Tape). t.from) (map tape_of hs) b (tape_of h')

pub froms_set : (hs : List Intake) (b : ℕ) (h' : Intake) → b < length hs → get_or (froms (set hs b h')) b 0 ≡ (tape_of h').from
froms_set hs b h' in' =
    ap (λ ns. get_or ns b 0) (froms_with hs b h')
    ∙ get_or-set_same (froms hs) b (tape_of h').from 0 (rw (length-map (map tape_of hs) (λ (t : Tape). t.from), length-map hs tape_of) in')

pub froms_other : (hs : List Intake) (b a : ℕ) (h' : Intake) → (a ≡ b → ⊥) → get_or (froms (set hs b h')) a 0 ≡ get_or (froms hs) a 0
froms_other hs b a h' ne = ap (λ ns. get_or ns a 0) (froms_with hs b h') ∙ get_or-set_other (froms hs) b a (tape_of h').from 0 ne

module _ (net : Network) (caps : Capacities) (can : CanRun net) (s s' : Stores) (ps : List Progress) (keeps : Keeps net caps s ps) where
  -- where what is stored differs in what is forgotten alone, and there is no less room
  keeps_with : (after : Stored) → stored_in s' ≡ after → state_of s'.handed.items ps ≡ state_of s.handed.items ps → Holds net caps (state_of s.handed.items ps) after →
      ((a k next : ℕ) → BringsTheSame net (stored_in s) after a k next) → KeepsAllRoom s s' → Keeps net caps s' ps
  keeps_with after is there holds brings rooms = record {
    sound = subst (Sound net caps) (sym there) keeps.sound;
    gain = subst (λ (st : State). AreWithinGain net st.handed) (sym there) keeps.gain;
    stored = subst (λ st. Holds net caps st (stored_in s')) (sym there) (subst (Holds net caps (state_of s.handed.items ps)) (sym is) holds);
    room = λ a in'' claimed.
        let p = progress_at ps a in
        room_stays net can s s' a p.firings p.claimed
        (subst (λ x. BringsTheSame net (stored_in s) x a p.firings (p.firings + p.claimed)) (sym is) (brings a p.firings (p.firings + p.claimed))) (keeps.room a in'' claimed) rooms;
  }

module _ (net : Network) (caps : Capacities) (can : CanRun net) (s s' : Stores) (ps : List Progress) (keeps : Keeps net caps s ps) (b to : ℕ) (in' : b < length net.nodes) (taken : to ≤ (progress_at ps b).firings) where
  -- a tape forgets
  module _ (h h' : Intake) (h_is : h ≡ get_or s.handed.items b h) (gone : HasForgotten to h h') (handed : IsHanded s s' b h') where
    tape_state : state_of s'.handed.items ps ≡ state_of s.handed.items ps
    tape_state = ap (λ hs. state_of hs ps) handed.handed ∙ tape_same s.handed.items ps b to h h' h_is gone

    pub tape_stored : stored_in s' ≡ with_tape_from (stored_in s) b to
    tape_stored =
        stored_then s s' b h' handed
        ∙ rw (
          map-set tape_of s.handed.items b h',
          map-set_same (λ (x : Intake). x.timeline) s.handed.items b h' h (gone.timeline ∙ ap (λ (x : Intake). x.timeline) h_is),
          gone.tape ∙ ap (λ (t : Tape). record t { from = to }) (stored_here net caps can s ps keeps b in' h h_is),
        ) refl

    pub keeps_tape : Keeps net caps s' ps
    keeps_tape =
        keeps_with net caps can s s' ps keeps (with_tape_from (stored_in s) b to) tape_stored tape_state
        ((what_is_taken_may_go net caps (state_of s.handed.items ps) (stored_in s) keeps.stored).tapes b to in' taken)
        (tape_brings net (stored_in s) b to) (room_handed s s' b h' handed)

  -- a sink forgets
  module _ (r r' : RecordingState) (r_is : r ≡ get_or s.sinks.items b r) (inside : b < length s.sinks.items) (item : r'.item ≡ r.item) (items : r'.items ≡ r.items) (tags : r'.tags ≡ r.tags) (from : r'.from ≡ to)
      (spare : (r.spare_items ≤ r'.spare_items) × (r.spare_tags ≤ r'.spare_tags))
      (sinks : s'.sinks.items ≡ set s.sinks.items b r') (handed : s'.handed ≡ s.handed) (words : s'.words ≡ s.words) (buffers : s'.buffers ≡ s.buffers) (brought : s'.brought ≡ s.brought) where
    sink_here : collected_of r ≡ sink_at (stored_in s) b
    sink_here = ap collected_of r_is ∙ sym (get_or-map collected_of s.sinks.items b r nothing_collected inside)

    forgotten : collected_of r' ≡ record (sink_at (stored_in s) b) { from = to }
    forgotten =
        (let is : collected_of r' ≡ record (collected_of r) { from = to } = rw (item, items, tags, from) refl in is)
        ∙ ap (λ (c : Collected). record c { from = to }) sink_here

    pub sink_stored : stored_in s' ≡ with_sink_from (stored_in s) b to
    sink_stored = rw (handed, words, buffers, sinks, map-set collected_of s.sinks.items b r', forgotten) refl

    rooms : KeepsAllRoom s s'
    rooms = record {
      buffers = λ a p. rw buffers (omega arith);
      brought = rw brought (omega arith);
      sinks = λ a. rw sinks (elim (cases_eq a b) [
        | inl same ↦ subst (λ k. ((get_or s.sinks.items k no_sink).spare_items ≤ (get_or (set s.sinks.items b r') k no_sink).spare_items) × ((get_or s.sinks.items k no_sink).spare_tags ≤ (get_or (set s.sinks.items b r') k no_sink).spare_tags)) (sym same)
            (rw (get_or-set_same s.sinks.items b r' no_sink inside, sym (here no_sink)) spare)
        | inr ne ↦ rw (get_or-set_other s.sinks.items b a r' no_sink ne) (omega arith, omega arith)
      ]);
    }
      where
        here : (d : RecordingState) → r ≡ get_or s.sinks.items b d
        here d = r_is ∙ get_or_default s.sinks.items b r d inside

    pub keeps_sink : Keeps net caps s' ps
    keeps_sink =
        keeps_with net caps can s s' ps keeps (with_sink_from (stored_in s) b to) sink_stored (ap (λ (hs : Vec Intake Global). state_of hs.items ps) handed)
        ((what_is_taken_may_go net caps (state_of s.handed.items ps) (stored_in s) keeps.stored).sinks b to in' taken)
        (sink_brings net (stored_in s) b to) rooms

-- what settings forgot changes nothing that claims in flight bring
settings_bring : (net : Network) (stored : Stored) (b to a k next : ℕ) → BringsTheSame net stored (with_settings_from stored b to) a k next
settings_bring net stored b to a k next = record { taken = λ q used. refl; brought = λ p used. refl }

-- nor the state
pub settings_same : (hs : List Intake) (ps : List Progress) (b to : ℕ) (h h' : Intake) → h ≡ get_or hs b h → HasForgottenSettings to h h' → state_of (set hs b h') ps ≡ state_of hs ps
settings_same hs ps b to h h' h_is gone = ap (λ x. (let y : State = record { handed = x; progress = ps } in y)) (map-set_same handed_of hs b h' h (gone.handed ∙ ap handed_of h_is))

-- the first items at which settings may be read, where those of one block are stored anew
abbrev reads : List Intake → List ℕ
reads hs = map settings_from (map (λ (h : Intake). h.timeline) hs)

reads_with : (hs : List Intake) (b : ℕ) (h' : Intake) → reads (set hs b h') ≡ set (reads hs) b (settings_from h'.timeline)
reads_with hs b h' = ap (map settings_from) (map-set (λ (h : Intake). h.timeline) hs b h') ∙ map-set settings_from (map (λ (h : Intake). h.timeline) hs) b h'.timeline

pub reads_set : (hs : List Intake) (b : ℕ) (h' : Intake) → b < length hs → get_or (reads (set hs b h')) b 0 ≡ settings_from h'.timeline
reads_set hs b h' in' =
    ap (λ ns. get_or ns b 0) (reads_with hs b h')
    ∙ get_or-set_same (reads hs) b (settings_from h'.timeline) 0 (rw (length-map (map (λ (h : Intake). h.timeline) hs) settings_from, length-map hs (λ (h : Intake). h.timeline)) in')

pub reads_other : (hs : List Intake) (b a : ℕ) (h' : Intake) → (a ≡ b → ⊥) → get_or (reads (set hs b h')) a 0 ≡ get_or (reads hs) a 0
reads_other hs b a h' ne = ap (λ ns. get_or ns a 0) (reads_with hs b h') ∙ get_or-set_other (reads hs) b a (settings_from h'.timeline) 0 ne

-- a tape that forgets leaves settings alone
pub reads_stay : (hs : List Intake) (b to : ℕ) (h h' : Intake) → h ≡ get_or hs b h → h'.timeline ≡ h.timeline → reads (set hs b h') ≡ reads hs
reads_stay hs b to h h' h_is same = ap (map settings_from) (map-set_same (λ (x : Intake). x.timeline) hs b h' h (same ∙ ap (λ (x : Intake). x.timeline) h_is))

-- and settings that do a tape
pub froms_stay : (hs : List Intake) (b to : ℕ) (h h' : Intake) → h ≡ get_or hs b h → HasForgottenSettings to h h' → froms (set hs b h') ≡ froms hs
froms_stay hs b to h h' h_is gone = ap (map (λ (t : Tape). t.from)) (map-set_same tape_of hs b h' h (gone.tape ∙ ap tape_of h_is))

-- a block with a parameter of its own has settings, and they are read from there on
with_some : (own : Option Value) (ts : List Held) (o : Option SettingsState) (to : ℕ) → IsTimeline own ts o → IsSome own → settings_from (with_settings_to to o) ≡ to
with_some None ts o to is some = absurd (cc)
with_some (Some own) ts None to is some = absurd (is)
with_some (Some own) ts (Some s) to is some = refl

-- the settings of a block forget
module _ (net : Network) (caps : Capacities) (can : CanRun net) (s : Stores) (ps : List Progress) (keeps : Keeps net caps s ps) (b to : ℕ) (in' : b < length net.nodes) (h : Intake) (h_is : h ≡ get_or s.handed.items b h) where
  timeline_here : h.timeline ≡ timeline_at (stored_in s) b
  timeline_here = ap (λ (x : Intake). x.timeline) h_is ∙ sym (get_or-map (λ (x : Intake). x.timeline) s.handed.items b h None (rw (handed_long net caps can s ps keeps) in'))

  pub unread_here : to ≡ taken_by (node_at net b) 0 (progress_at ps b).firings → settings_from h.timeline ≤ to
  unread_here is = let unread = keeps.stored.unread b in' in subst (λ o. settings_from o ≤ to) (sym timeline_here) (omega (arith, is, unread))

  pub reads_from : (h' : Intake) → HasForgottenSettings to h h' → IsSome (node_at net b).meaning.own → settings_from h'.timeline ≡ to
  reads_from h' gone some =
      ap settings_from gone.timeline
      ∙ with_some (node_at net b).meaning.own (handed_at (state_of s.handed.items ps).handed b).settings h.timeline to
      (subst (IsTimeline (node_at net b).meaning.own (handed_at (state_of s.handed.items ps).handed b).settings) (sym timeline_here) (keeps.stored.timelines b in')) some

  module _ (s' : Stores) (h' : Intake) (gone : HasForgottenSettings to h h') (handed : IsHanded s s' b h') (taken : to ≤ taken_by (node_at net b) 0 (progress_at ps b).firings) where
    settings_state : state_of s'.handed.items ps ≡ state_of s.handed.items ps
    settings_state = ap (λ hs. state_of hs ps) handed.handed ∙ settings_same s.handed.items ps b to h h' h_is gone

    settings_stored : stored_in s' ≡ with_settings_from (stored_in s) b to
    settings_stored =
        stored_then s s' b h' handed
        ∙ rw (
          map-set_same tape_of s.handed.items b h' h (gone.tape ∙ ap tape_of h_is),
          map-set (λ (x : Intake). x.timeline) s.handed.items b h',
          gone.timeline ∙ ap (with_settings_to to) timeline_here,
        ) refl

    pub keeps_settings : Keeps net caps s' ps
    keeps_settings =
        keeps_with net caps can s s' ps keeps (with_settings_from (stored_in s) b to) settings_stored settings_state
        ((what_is_taken_may_go net caps (state_of s.handed.items ps) (stored_in s) keeps.stored).settings b to in' taken)
        (settings_bring net (stored_in s) b to) (room_handed s s' b h' handed)

-- the counts of committed firings fit words
module _ (net : Network) (can : CanRun net) (st : State) (b : ℕ) (small : IsSmall net st b) where
  fewer : fired st b ≤ reached st b
  fewer = omega arith

  pub few_firings : (node_at net b).multiple * fired st b < 2 ^ 62
  few_firings = let less = mul-le-mul_left (node_at net b).multiple (fewer) in let few = small.firings in omega (arith, less, few)

  pub few_taken : 0 < length (writers_of net b) → taken_by (node_at net b) 0 (fired st b) < 2 ^ 62
  few_taken some = let less = taken_by-rises (node_at net b) (can.sound b) 0 (fired st b) (reached st b) (fewer) in let few = small.taken 0 some in omega (arith, less, few)
