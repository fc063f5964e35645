-- What is stored stays right where blocks stay where they are: tapes and timelines are what may be stored anew.
use Rattle.std.proofs.Common.{◌≡◌, ℕ, ◌<◌, ◌≤◌, true, List, length, Option, None, get_or, subst, sym, ◌∙◌}
use Rattle.stream_model.specs.Network.{Network, State, node_at, handed_at, role_at, is_source, readers_of, taken_by}
use Rattle.stream_model.specs.Machine.{Capacities, Call, next}
use Rattle.stream_laws.specs.CanRun.{CanRun}
use Rattle.machine_laws.specs.Sound.{Sound, fired}
use Rattle.machine_laws.proofs.Following.{what_is_shown_stays}
use Rattle.recordings.specs.Recent.{SettingsState}
use Rattle.plant_laws.specs.Stored.{Tape, Stored, no_tape, settings_from, buffer_at, sink_at}
use Rattle.plant_laws.specs.Holds.{IsTape, IsTimeline, Holds}
use Rattle.plant_laws.specs.Calls.{StaysPut}
use Rattle.plant_laws.proofs.Staying.{stored-stays}

module _ (net : Network) (can : CanRun net) (caps : Capacities) (st : State) (sound : Sound net caps st) (stored : Stored) (holds : Holds net caps st stored) (call : Call) where
  abbrev after : State
  after = (next net caps st call).1

  pub all-put : ((c : ℕ) → StaysPut st (after) c) → (tapes : List Tape) (timelines : List (Option SettingsState)) → length tapes ≡ length net.nodes → length timelines ≡ length net.nodes →
      ((c : ℕ) → c < length net.nodes → is_source (role_at net c) ≡ true → IsTape (node_at net c).meaning.outputs.item (handed_at (after).handed c) (get_or tapes c no_tape)) →
      ((c : ℕ) → c < length net.nodes → is_source (role_at net c) ≡ true → (get_or tapes c no_tape).from ≤ fired st c) →
      ((c : ℕ) → c < length net.nodes → IsTimeline (node_at net c).meaning.own (handed_at (after).handed c).settings (get_or timelines c None)) →
      ((c : ℕ) → c < length net.nodes → settings_from (get_or timelines c None) ≤ taken_by (node_at net c) 0 (fired st c)) →
      Holds net caps (after) (record stored { tapes = tapes; timelines = timelines })
  all-put puts tapes timelines tape_count timeline_count are_tapes are_kept are_timelines are_unread =
      let stay = λ (c : ℕ) (in1 : c < length net.nodes). stored-stays net can caps st (after) sound (λ d in2. (what_is_shown_stays net caps st can sound call d in2).firings) c in1 (puts c) in
      let places = holds.places in
      record {
        places = record { tapes = tape_count; timelines = timeline_count; words = places.words; buffers = places.buffers; outputs = places.outputs; sinks = places.sinks };
        tapes = are_tapes;
        kept = λ c in1 e. subst (λ (n : ℕ). (get_or tapes c no_tape).from ≤ n) (sym (puts c).firings) (are_kept c in1 e);
        timelines = are_timelines;
        unread = λ c in1. subst (λ (n : ℕ). settings_from (get_or timelines c None) ≤ taken_by (node_at net c) 0 n) (sym (puts c).firings) (are_unread c in1);
        words = λ c in1. holds.words c in1 ∙ sym (stay c in1).word;
        buffers = λ c p in1 used. (stay c in1).buffer p (buffer_at stored c p) used (λ k d lt. puts (get_or (readers_of net c p) k d).to) (holds.buffers c p in1 used);
        sinks = λ c in1 keeper. (stay c in1).sink (sink_at stored c) keeper (holds.sinks c in1 keeper);
      }
