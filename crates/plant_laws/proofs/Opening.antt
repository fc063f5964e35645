-- What a plant stores when it is opened is right.
use Rattle.std.proofs.Common.{◌≤◌, zero-le, ◌≡◌, ℕ, ℤ, zero, suc, ◌-◌, ◌*◌, ◌<◌, List, [], length, map, take, drop, Option, Some, None, refl, arith, ap, sym, ◌∙◌, subst, mul-zero, inl, inr, get_or}
use Rattle.std.proofs.lemmas.Bool.{cases_Bool}
use Rattle.std.proofs.lemmas.List.{length-map}
use Rattle.std.proofs.Math.ListN.{get_or-map}
use Rattle.std.proofs.lemmas.List as inside
use Rattle.std.proofs.lemmas.List.FromFn.{length-map-range_with_len, get_or-map-range_with_len}
use Rattle.stream_model.specs.Lists.{below}
use Rattle.stream_model.specs.Settings.{Value}
use Rattle.stream_model.specs.Tags.{sorted_tags, tags_within}
use Rattle.stream_model.specs.Network.{Network, Connection, Handed, Node, Progress, no_node, no_progress, nothing_handed, node_at, handed_at, progress_at, role_at, is_source, readers_of, used_outputs, taken_by, given_by, items_of, entering, tags_entering, nothing_within, opening_within}
use Rattle.stream_model.specs.Machine.{Capacities, capacity_at}
use Rattle.stream_model.proofs.Counts.{given-zero}
use Rattle.stream_model.proofs.Maps.{map-agree}
use Rattle.stream_model.proofs.Streams.{taken_by-zero, elim-true, elim-false}
use Rattle.stream_laws.specs.CanRun.{CanRun}
use Rattle.stream_laws.specs.Tags.{tags_in, brought}
use Rattle.stream_laws.proofs.InTime.{within-none, no_tag_is_late}
use Rattle.machine_laws.specs.Sound.{fired}
use Rattle.stream_model.specs.Meaning.{input}
use Rattle.circular_buffer.specs.Buffer.{keep_last}
use Rattle.std.specs.Option.{option_map_or}
use Rattle.tags.specs.TagList.{tags_from}
use Rattle.ring_readers.specs.State.{slowest_of, most_kept}
use Rattle.buffers.specs.Buffer.{wanted_tags}
use Rattle.plant_laws.specs.Stored.{Tape, settings_from, buffers_in, buffer_at, no_buffer, OutputBuffer}
use Rattle.recordings.specs.Recent.{SettingsState}
use Rattle.plant_laws.specs.Holds.{IsTape, IsTimeline, IsBuffer, HasCollected, HasPlaces, greatest_history, place_of, word_of, tags_given}
use Rattle.plant_laws.specs.Opening.{empty_tape, empty_sink, own_settings, first_place, empty_buffer, stored_opening, OpeningHolds}

-- no tags are wanted of none
pub wanted_none : (o : Option ℕ) → option_map_or (λ place. tags_from place []) o [] ≡ []
wanted_none None = refl
wanted_none (Some p) = refl

drop_none : (k : ℕ) → drop {A = ℤ} k [] ≡ []
drop_none zero = refl
drop_none (suc k) = refl

module _ (net : Network) (longest : ℕ) (can : CanRun net) where
  given_by-zero : (b : ℕ) → given_by (node_at net b) 0 ≡ 0
  given_by-zero b = rw (given_by, mul-zero) (given-zero (node_at net b).meaning (can.sound b).lawful)

  -- no firing brings no tags
  pub tags_given-zero : (hs : List Handed) (b p : ℕ) → b < length net.nodes → tags_given net hs b p 0 ≡ []
  tags_given-zero hs b p in' =
      elim (cases_Bool (is_source (role_at net b))) [
        | inl e ↦ elim-true (is_source (role_at net b)) (tags_within 0 0 (sorted_tags (handed_at hs b).tags)) (sorted_tags (brought (node_at net b) p 0 0 (tags_in net hs b))) e
            ∙ within-none 0 (sorted_tags (handed_at hs b).tags)
        | inr e ↦ elim-false (is_source (role_at net b)) (tags_within 0 0 (sorted_tags (handed_at hs b).tags)) (sorted_tags (brought (node_at net b) p 0 0 (tags_in net hs b))) e
            ∙ ap sorted_tags (no_tag_is_late net can hs b p in' e).none
      ]

  nothing-at : (b : ℕ) → b < length net.nodes → handed_at (opening_within longest net).handed b ≡ nothing_within longest
  nothing-at b in' = inside.get_or-map (λ (n : Node). nothing_within longest) net.nodes b no_node nothing_handed in'

  no_progress-at : (b : ℕ) → progress_at (opening_within longest net).progress b ≡ no_progress
  no_progress-at b = get_or-map (λ (n : Node). no_progress) net.nodes b no_node

  none-fired : (b : ℕ) → fired (opening_within longest net) b ≡ 0
  none-fired b = ap (λ (p : Progress). p.firings) (no_progress-at b)

  first_word : (b : ℕ) → word_of net (opening_within longest net) b ≡ (node_at net b).meaning.start
  first_word b =
      ap (λ k. (node_at net b).meaning.word (handed_at (opening_within longest net).handed b).settings (entering net (opening_within longest net).handed b) k) (ap (λ k. (node_at net b).multiple * k) (none-fired b) ∙ mul-zero (node_at net b).multiple)
      ∙ (can.sound b).lawful.starts (handed_at (opening_within longest net).handed b).settings (entering net (opening_within longest net).handed b)

  first_unread : {n : ℕ} (o : Option Value) → settings_from (own_settings o) ≤ n
  first_unread None = zero-le
  first_unread (Some own) = zero-le

  first_timeline : (o : Option Value) → IsTimeline o [] (own_settings o)
  first_timeline None = refl
  first_timeline (Some own) = (refl, refl)

  first_reader : (c : Connection) → first_place net c ≡ place_of net (opening_within longest net) c
  first_reader c =
      let fired_none = none-fired c.to in
      let done = ap (λ (p : Progress). p.done) (no_progress-at c.to) in
      let taken = taken_by-zero (node_at net c.to) (can.sound c.to) c.in_port in
      rw (fired_none, done, taken) refl

  module _ (caps : Capacities) (b p : ℕ) (in' : b < length net.nodes) where
    first_buffer : IsBuffer net caps (opening_within longest net) b p (empty_buffer net caps b p)
    first_buffer =
        record {
          type = refl;
          capacity = refl;
          greatest = refl;
          readers = map-agree (λ (c : Connection). Unit) (first_place net) (place_of net (opening_within longest net)) (readers_of net b p) (λ k d lt. tt) (λ c _. first_reader c);
          shows = λ _. record {
            written = sym (ap (given_by (node_at net b)) (none-fired b) ∙ given_by-zero b);
            items = sym (ap (λ k. keep_last (most_kept (capacity_at caps b p) (greatest_history net b p)) (take k (items_of net (opening_within longest net).handed b p))) (ap (given_by (node_at net b)) (none-fired b) ∙ given_by-zero b)
                ∙ drop_none (0 - most_kept (capacity_at caps b p) (greatest_history net b p)));
            tags = sym (ap (λ k. wanted_tags (empty_buffer net caps b p).ring (tags_given net (opening_within longest net).handed b p k)) (none-fired b)
                ∙ ap (wanted_tags (empty_buffer net caps b p).ring) (tags_given-zero (opening_within longest net).handed b p in')
                ∙ wanted_none (slowest_of (map (first_place net) (readers_of net b p))));
          };
        }

  module _ (caps : Capacities) where
    buffers-at : (b : ℕ) → b < length net.nodes → buffers_in (stored_opening net caps).buffers b ≡ map (empty_buffer net caps b) (below (used_outputs net b))
    buffers-at b in' = get_or-map-range_with_len (λ b'. map (empty_buffer net caps b') (below (used_outputs net b'))) 0 (length net.nodes) b b [] in' (omega arith)

    buffer-is : (b p : ℕ) → b < length net.nodes → p < used_outputs net b → buffer_at (stored_opening net caps) b p ≡ empty_buffer net caps b p
    buffer-is b p in' used =
        ap (λ (buffers : List OutputBuffer). get_or buffers p no_buffer) (buffers-at b in')
        ∙ get_or-map-range_with_len (empty_buffer net caps b) 0 (used_outputs net b) p p no_buffer used (omega arith)

    has_places : HasPlaces net (stored_opening net caps)
    has_places =
        record {
          tapes = length-map net.nodes empty_tape;
          timelines = length-map net.nodes (λ n. own_settings n.meaning.own);
          words = length-map net.nodes (λ n. n.meaning.start);
          buffers = length-map-range_with_len (λ b'. map (empty_buffer net caps b') (below (used_outputs net b'))) 0 (length net.nodes);
          outputs = λ b in'. ap length (buffers-at b in') ∙ length-map-range_with_len (empty_buffer net caps b) 0 (used_outputs net b);
          sinks = length-map net.nodes empty_sink;
        }

pub opening_holds : OpeningHolds
opening_holds net caps longest can =
    record {
      places = has_places net longest can caps;
      tapes = λ b in' e.
          subst (IsTape (node_at net b).meaning.outputs.item (handed_at (opening_within longest net).handed b)) (sym (get_or-map empty_tape net.nodes b no_node))
          (subst (λ h. IsTape (node_at net b).meaning.outputs.item h (empty_tape (node_at net b))) (sym (nothing-at net longest can b in')) (record { type = refl; items = refl; tags = refl; closed = refl }));
      kept = λ b in' e. subst (λ (t : Tape). t.from ≤ fired (opening_within longest net) b) (sym (get_or-map empty_tape net.nodes b no_node)) zero-le;
      timelines = λ b in'.
          subst (λ s. IsTimeline (node_at net b).meaning.own (handed_at (opening_within longest net).handed b).settings s) (sym (get_or-map (λ (n : Node). own_settings n.meaning.own) net.nodes b no_node))
          (subst (λ (h : Handed). IsTimeline (node_at net b).meaning.own h.settings (own_settings (node_at net b).meaning.own)) (sym (nothing-at net longest can b in')) (first_timeline net longest can (node_at net b).meaning.own));
      unread = λ b in'.
          subst (λ (o : Option SettingsState). settings_from o ≤ taken_by (node_at net b) 0 (fired (opening_within longest net) b)) (sym (get_or-map (λ (n : Node). own_settings n.meaning.own) net.nodes b no_node))
          (first_unread net longest can (node_at net b).meaning.own);
      words = λ b in'. get_or-map (λ (n : Node). n.meaning.start) net.nodes b no_node ∙ sym (first_word net longest can b);
      buffers = λ b p in' used. subst (IsBuffer net caps (opening_within longest net) b p) (sym (buffer-is net longest can caps b p in' used)) (first_buffer net longest can caps b p in');
      sinks = λ b in' e.
          subst (HasCollected net (opening_within longest net) b) (sym (get_or-map empty_sink net.nodes b no_node))
          (record {
            type = refl;
            items = sym (ap (λ k. take k (input (entering net (opening_within longest net).handed b) 0)) (none-fired net longest can b));
            tags = sym (ap (λ k. tags_within 0 k (tags_entering net (opening_within longest net).handed b 0)) (none-fired net longest can b) ∙ within-none 0 (tags_entering net (opening_within longest net).handed b 0));
            kept = zero-le;
          });
    }
