-- What calls hand to blocks comes behind what is committed and claimed.
use Rattle.std.proofs.Common.{◌≡◌, ℕ, ◌+◌, ◌<◌, ◌≤◌, true, not, List, [], length, map, set, Option, Some, None, refl, sym, arith, ltb-true, ltb-false, append-nil, ℤ}
use Rattle.std.specs.Prelude.{nat_lt, nat_le, ◌&&◌}
use Rattle.std.proofs.lemmas.Bool.{and_parts, leb-true}
use Rattle.std.proofs.lemmas.List.Elements.{All-nil, All-map, All-weaker}
use Rattle.std.proofs.lemmas.List.Sums.{AllPass-from_list_all}
use Rattle.stream_model.specs.declared.vocabulary.ItemType.{ItemType}
use Rattle.stream_model.specs.declared.vocabulary.Wanted.{Wanted}
use Rattle.stream_model.specs.Settings.{Value, put_setting}
use Rattle.stream_model.specs.Tags.{Tag, Mark}
use Rattle.stream_model.specs.Network.{Network, Handed, State, node_at, handed_at, progress_at, role_at, is_source, taken_by}
use Rattle.stream_model.specs.Numbers.{types_agree}
use Rattle.stream_model.specs.Machine.{Capacities, Reply, with_tape, tag_of, marks_fit, close_of, feed_of, set_of, set_wanted, place_setting, is_wanted, floor_of}
use Rattle.stream_model.proofs.Putting.{put-below}
use Rattle.stream_laws.specs.Past.{HasLater}
use Rattle.machine_laws.specs.Sound.{reached, Sound}
use Rattle.machine_laws.proofs.Choices.{if_both, not_false}
use Rattle.machine_laws.proofs.Handing.{each}

-- nothing comes later than it may
pub later_same : (floor : ℕ) (h : Handed) → HasLater floor h h
later_same floor h =
    record {
      more = record { tape = record { rest = []; is = sym (append-nil h.tape) }; tags = record { rest = []; is = sym (append-nil h.tags) }; on_new = All-nil (λ (t : Tag). length h.tape ≤ t.offset) };
      settings = λ own a below. refl;
    }

module _ (net : Network) (caps : Capacities) (st : State) (sound : Sound net caps st) where
  -- what a call hands to blocks comes behind what is committed and claimed, and changes no progress
  abbrev pub HandsLater : Reply × State → Type 0
  HandsLater r =
      (c : ℕ) → HasLater (taken_by (node_at net c) 0 (reached st c)) (handed_at st.handed c) (handed_at r.1.handed c) × (progress_at r.1.progress c ≡ progress_at st.progress c)

  pub nothing : (c : ℕ) → HasLater (taken_by (node_at net c) 0 (reached st c)) (handed_at st.handed c) (handed_at st.handed c) × (progress_at st.progress c ≡ progress_at st.progress c)
  nothing c = (later_same (taken_by (node_at net c) 0 (reached st c)) (handed_at st.handed c), refl)

  module _ (b : ℕ) (in' : b < length net.nodes) where
    hands : (h : Handed) → HasLater (taken_by (node_at net b) 0 (reached st b)) (handed_at st.handed b) h → (c : ℕ) →
        HasLater (taken_by (node_at net c) 0 (reached st c)) (handed_at st.handed c) (handed_at (set st.handed b h) c) × (progress_at st.progress c ≡ progress_at st.progress c)
    hands h later c = (each net caps st sound b in' h (λ c f g. HasLater (taken_by (node_at net c) 0 (reached st c)) f g) (λ c g. later_same (taken_by (node_at net c) 0 (reached st c)) g) later c, refl)

    fed_later : (xs : List ℤ) (ms : List Mark) → marks_fit (handed_at st.handed b).tape xs ms ≡ true → HasLater (taken_by (node_at net b) 0 (reached st b)) (handed_at st.handed b) (with_tape (handed_at st.handed b) b xs ms)
    fed_later xs ms fit =
        record {
          more = record {
            tape = record { rest = xs; is = refl };
            tags = record { rest = map (tag_of b) ms; is = refl };
            on_new = All-map (λ (t : Tag). length (handed_at st.handed b).tape ≤ t.offset) (tag_of b) ms
                (All-weaker (λ (m : Mark). (nat_le (length (handed_at st.handed b).tape) m.offset && nat_lt m.offset (length (handed_at st.handed b).tape + length xs)) ≡ true)
                (λ (m : Mark). length (handed_at st.handed b).tape ≤ m.offset)
                (λ m e. leb-true _ _ (and_parts (nat_le (length (handed_at st.handed b).tape) m.offset) (nat_lt m.offset (length (handed_at st.handed b).tape + length xs)) e).0) ms
                (AllPass-from_list_all (λ (m : Mark). nat_le (length (handed_at st.handed b).tape) m.offset && nat_lt m.offset (length (handed_at st.handed b).tape + length xs)) ms fit));
          };
          settings = λ own a below. refl;
        }

    closed_later : HasLater (taken_by (node_at net b) 0 (reached st b)) (handed_at st.handed b) (record (handed_at st.handed b) { closed = true })
    closed_later = let same = later_same (taken_by (node_at net b) 0 (reached st b)) (handed_at st.handed b) in
        record { more = record { tape = same.more.tape; tags = same.more.tags; on_new = same.more.on_new }; settings = same.settings }

    set_later : (at : ℕ) (v : Value) → taken_by (node_at net b) 0 (reached st b) ≤ at →
        HasLater (taken_by (node_at net b) 0 (reached st b)) (handed_at st.handed b) (record (handed_at st.handed b) { settings = put_setting (record { at = at; value = v }) (handed_at st.handed b).settings })
    set_later at v behind = let same = later_same (taken_by (node_at net b) 0 (reached st b)) (handed_at st.handed b) in
        record {
          more = record { tape = same.more.tape; tags = same.more.tags; on_new = same.more.on_new };
          settings = λ own a below. sym (put-below (record { at = 0; value = own }) (record { at = at; value = v }) (handed_at st.handed b).settings a (omega arith));
        }

    placed : (at : ℕ) (v : Value) → HandsLater (place_setting (floor_of net st b) st b at v)
    placed at v =
        if_both (nat_lt at (floor_of net st b)) _ _ HandsLater (λ _. nothing)
        (λ late. hands (record (handed_at st.handed b) { settings = put_setting (record { at = at; value = v }) (handed_at st.handed b).settings })
        (set_later at v (ltb-false at (floor_of net st b) late)))

    sets : (o : Option Wanted) (at : Option ℕ) (v : Value) → HandsLater (set_wanted net st b at v o)
    sets None at v = nothing
    sets (Some w) None v = if_both (not (is_wanted w v)) _ _ HandsLater (λ _. nothing) (λ _. placed (floor_of net st b) v)
    sets (Some w) (Some a) v = if_both (not (is_wanted w v)) _ _ HandsLater (λ _. nothing) (λ _. placed a v)

  pub feeds : (b : ℕ) (t : ItemType) (xs : List ℤ) (ms : List Mark) → HandsLater (feed_of net st b t xs ms)
  unfolding feed_of
  feeds b t xs ms =
      let s = handed_at st.handed b in
      if_both (not (nat_lt b (length net.nodes))) _ _ HandsLater (λ _. nothing)
      (λ member. if_both (not (is_source (role_at net b))) _ _ HandsLater (λ _. nothing)
      (λ _. if_both (not (types_agree t (node_at net b).meaning.outputs.item)) _ _ HandsLater (λ _. nothing)
      (λ _. if_both s.closed _ _ HandsLater (λ _. nothing)
      (λ _. if_both (not (marks_fit s.tape xs ms)) _ _ HandsLater (λ _. nothing)
      (λ fit. if_both (nat_lt s.longest (length s.tape + length xs)) _ _ HandsLater (λ _. nothing)
      (λ _. hands b (ltb-true b (length net.nodes) (not_false _ member)) (with_tape s b xs ms) (fed_later b (ltb-true b (length net.nodes) (not_false _ member)) xs ms (not_false _ fit))))))))

  pub closes : (b : ℕ) → HandsLater (close_of net st b)
  unfolding close_of
  closes b =
      let s = handed_at st.handed b in
      if_both (not (nat_lt b (length net.nodes))) _ _ HandsLater (λ _. nothing)
      (λ member. if_both (not (is_source (role_at net b))) _ _ HandsLater (λ _. nothing)
      (λ _. if_both s.closed _ _ HandsLater (λ _. nothing)
      (λ _. hands b (ltb-true b (length net.nodes) (not_false _ member)) (record s { closed = true }) (closed_later b (ltb-true b (length net.nodes) (not_false _ member))))))

  pub sets_at : (b : ℕ) (at : Option ℕ) (v : Value) → HandsLater (set_of net st b at v)
  unfolding set_of
  sets_at b at v =
      if_both (not (nat_lt b (length net.nodes))) _ _ HandsLater (λ _. nothing)
      (λ member. sets b (ltb-true b (length net.nodes) (not_false _ member)) (node_at net b).meaning.setting at v)
