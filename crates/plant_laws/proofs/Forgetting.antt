-- What was taken may be forgotten, and no call forgets anything.
use Rattle.std.proofs.Common.{◌≡◌, ℕ, ◌<◌, ◌≤◌, true, Option, Some, None, length, set, get_or, refl, sym, ◌∙◌, subst, inl, inr, get_or-set_same, get_or-set_other, length-set, zero-le}
use Rattle.std.specs.Prelude.{List}
use Rattle.std.proofs.Math.Seq.{map-set_same}
use Rattle.std.proofs.lemmas.Bool.{cases_eq}
use Rattle.stream_model.specs.Network.{Network, State, node_at, handed_at, role_at, is_source, is_keeper, taken_by}
use Rattle.stream_model.specs.Machine.{Capacities}
use Rattle.machine_laws.specs.Sound.{fired}
use Rattle.plant_laws.specs.Stored.{Tape, Collected, Stored, no_tape, nothing_collected, tape_at, timeline_at, settings_from, sink_at, firsts_of}
use Rattle.stream_model.specs.Settings.{Value, Held}
use Rattle.recordings.specs.Recent.{SettingsState}
use Rattle.plant_laws.specs.Holds.{IsTape, IsTimeline, HasCollected, Holds}
use Rattle.plant_laws.specs.Changes.{with_tape_from, with_sink_from, with_settings_to, with_settings_from}
use Rattle.plant_laws.specs.Calls.{WhatIsTakenMayGo}

module _ (net : Network) (caps : Capacities) (st : State) (stored : Stored) (holds : Holds net caps st stored) (b to : ℕ) (in' : b < length net.nodes) (taken : to ≤ fired st b) where
  abbrev tape : Tape
  tape = record (tape_at stored b) { from = to }

  abbrev tapes : List Tape
  tapes = set stored.tapes b tape

  tape_here : get_or tapes b no_tape ≡ tape
  tape_here = get_or-set_same stored.tapes b tape no_tape (let i = in' in rw holds.places.tapes i)

  tape_goes : Holds net caps st (with_tape_from stored b to)
  tape_goes =
      let places = holds.places in
      record {
        places = record { tapes = length-set stored.tapes b tape ∙ places.tapes; timelines = places.timelines; words = places.words; buffers = places.buffers; outputs = places.outputs; sinks = places.sinks };
        tapes = λ c in1 e. elim (cases_eq c b) [
          | inl same ↦ subst (λ k. is_source (role_at net k) ≡ true → IsTape (node_at net k).meaning.outputs.item (handed_at st.handed k) (get_or tapes k no_tape)) (sym same)
              (λ e'. subst (IsTape (node_at net b).meaning.outputs.item (handed_at st.handed b)) (sym tape_here)
              (let is = holds.tapes b in' e' in record { type = is.type; items = is.items; tags = is.tags; closed = is.closed })) e
          | inr ne ↦ subst (IsTape (node_at net c).meaning.outputs.item (handed_at st.handed c)) (sym (get_or-set_other stored.tapes b c tape no_tape ne)) (holds.tapes c in1 e)
        ];
        kept = λ c in1 e. elim (cases_eq c b) [
          | inl same ↦ subst (λ k. (get_or tapes k no_tape).from ≤ fired st k) (sym same) (subst (λ (t : Tape). t.from ≤ fired st b) (sym tape_here) taken)
          | inr ne ↦ subst (λ (t : Tape). t.from ≤ fired st c) (sym (get_or-set_other stored.tapes b c tape no_tape ne)) (holds.kept c in1 e)
        ];
        timelines = holds.timelines;
        unread = holds.unread;
        words = holds.words;
        buffers = holds.buffers;
        sinks = holds.sinks;
      }

  abbrev sink : Collected
  sink = record (sink_at stored b) { from = to }

  abbrev sinks : List Collected
  sinks = set stored.sinks b sink

  sink_here : get_or sinks b nothing_collected ≡ sink
  sink_here = get_or-set_same stored.sinks b sink nothing_collected (let i = in' in rw holds.places.sinks i)

  sink_goes : Holds net caps st (with_sink_from stored b to)
  sink_goes =
      let places = holds.places in
      record {
        places = record { tapes = places.tapes; timelines = places.timelines; words = places.words; buffers = places.buffers; outputs = places.outputs; sinks = length-set stored.sinks b sink ∙ places.sinks };
        tapes = holds.tapes;
        kept = holds.kept;
        timelines = holds.timelines;
        unread = holds.unread;
        words = holds.words;
        buffers = holds.buffers;
        sinks = λ c in1 e. elim (cases_eq c b) [
          | inl same ↦ subst (λ k. is_keeper (role_at net k) ≡ true → HasCollected net st k (get_or sinks k nothing_collected)) (sym same)
              (λ e'. subst (HasCollected net st b) (sym sink_here)
              (let is = holds.sinks b in' e' in record { type = is.type; items = is.items; tags = is.tags; kept = taken })) e
          | inr ne ↦ subst (HasCollected net st c) (sym (get_or-set_other stored.sinks b c sink nothing_collected ne)) (holds.sinks c in1 e)
        ];
      }

module _ (net : Network) (caps : Capacities) (st : State) (stored : Stored) (holds : Holds net caps st stored) (b to : ℕ) (in' : b < length net.nodes) (taken : to ≤ taken_by (node_at net b) 0 (fired st b)) where
  abbrev timeline : Option SettingsState
  timeline = with_settings_to to (timeline_at stored b)

  abbrev timelines : List (Option SettingsState)
  timelines = set stored.timelines b timeline

  timeline_here : get_or timelines b None ≡ timeline
  timeline_here = get_or-set_same stored.timelines b timeline None (let i = in' in rw holds.places.timelines i)

  later-same : (own : Option Value) (ts : List Held) (o : Option SettingsState) → IsTimeline own ts o → IsTimeline own ts (with_settings_to to o)
  later-same None ts None is = is
  later-same None ts (Some s) is = is
  later-same (Some own) ts None is = is
  later-same (Some own) ts (Some s) is = is

  later-unread : (o : Option SettingsState) → settings_from (with_settings_to to o) ≤ taken_by (node_at net b) 0 (fired st b)
  later-unread None = zero-le
  later-unread (Some s) = taken

  settings_go : Holds net caps st (with_settings_from stored b to)
  settings_go =
      let places = holds.places in
      record {
        places = record { tapes = places.tapes; timelines = length-set stored.timelines b timeline ∙ places.timelines; words = places.words; buffers = places.buffers; outputs = places.outputs; sinks = places.sinks };
        tapes = holds.tapes;
        kept = holds.kept;
        timelines = λ c in1. elim (cases_eq c b) [
          | inl same ↦ subst (λ k. IsTimeline (node_at net k).meaning.own (handed_at st.handed k).settings (get_or timelines k None)) (sym same)
              (subst (IsTimeline (node_at net b).meaning.own (handed_at st.handed b).settings) (sym timeline_here)
              (later-same (node_at net b).meaning.own (handed_at st.handed b).settings (timeline_at stored b) (holds.timelines b in')))
          | inr ne ↦ subst (IsTimeline (node_at net c).meaning.own (handed_at st.handed c).settings) (sym (get_or-set_other stored.timelines b c timeline None ne)) (holds.timelines c in1)
        ];
        unread = λ c in1. elim (cases_eq c b) [
          | inl same ↦ subst (λ k. settings_from (get_or timelines k None) ≤ taken_by (node_at net k) 0 (fired st k)) (sym same)
              (subst (λ (o : Option SettingsState). settings_from o ≤ taken_by (node_at net b) 0 (fired st b)) (sym timeline_here) (later-unread (timeline_at stored b)))
          | inr ne ↦ subst (λ (o : Option SettingsState). settings_from o ≤ taken_by (node_at net c) 0 (fired st c)) (sym (get_or-set_other stored.timelines b c timeline None ne)) (holds.unread c in1)
        ];
        words = holds.words;
        buffers = holds.buffers;
        sinks = holds.sinks;
      }

pub what_is_taken_may_go : WhatIsTakenMayGo
what_is_taken_may_go net caps st stored holds = record { tapes = tape_goes net caps st stored holds; sinks = sink_goes net caps st stored holds; settings = settings_go net caps st stored holds }

-- a tape that is written over by one that keeps as much
pub firsts-tape : (stored : Stored) (b : ℕ) (t : Tape) → t.from ≡ (tape_at stored b).from → firsts_of (record stored { tapes = set stored.tapes b t }) ≡ firsts_of stored
firsts-tape stored b t e = let same = map-set_same (λ (u : Tape). u.from) stored.tapes b t no_tape e in rw same refl

-- and so of what a sink has collected
pub firsts-sink : (stored : Stored) (b : ℕ) (s : Collected) → s.from ≡ (sink_at stored b).from → firsts_of (record stored { sinks = set stored.sinks b s }) ≡ firsts_of stored
firsts-sink stored b s e = let same = map-set_same (λ (u : Collected). u.from) stored.sinks b s nothing_collected e in rw same refl

-- and of settings
pub firsts-settings : (stored : Stored) (b : ℕ) (o : Option SettingsState) → settings_from o ≡ settings_from (timeline_at stored b) → firsts_of (record stored { timelines = set stored.timelines b o }) ≡ firsts_of stored
firsts-settings stored b o e = let same = map-set_same settings_from stored.timelines b o None e in rw same refl
