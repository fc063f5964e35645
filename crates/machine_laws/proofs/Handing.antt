-- Feeding, closing and setting keep a state sound.
use Rattle.std.proofs.Common.{◌≡◌, ◌≢◌, ℕ, ◌+◌, ◌<◌, ◌≤◌, true, false, not, List, ◌++◌, length, map, set, refl, arith, ap, sym, ◌∙◌, subst, inl, inr, get_or-set_same, get_or-set_other, length-set, length-append, T, Option, Some, None, MatchOption, ltb-false, ltb-true, eqb-true, ℤ}
use Rattle.std.specs.Prelude.{nat_lt, nat_le, ◌&&◌, IsNone}
use Rattle.std.specs.Bool.{⊤}
use Rattle.std.specs.List.{All}
use Rattle.std.specs.Int.Signed.{le_z_yes}
use Rattle.std.proofs.lemmas.Bool.{cases_eq, and_parts}
use Rattle.std.proofs.lemmas.List.Elements.{All-append, All-weaker, All-map}
use Rattle.std.proofs.lemmas.List.Sums.{AllPass-from_list_all}
use Rattle.stream_model.specs.declared.vocabulary.ItemType.{ItemType}
use Rattle.stream_model.specs.declared.vocabulary.Wanted.{Wanted}
use Rattle.stream_model.specs.declared.vocabulary.Wanted.TheVariants as wanted
use Rattle.stream_model.specs.Lists.{IsBeginning}
use Rattle.stream_model.specs.Meaning.{IsWanted, AreWanted}
use Rattle.stream_model.specs.Settings.{Value, Number, Taps, Held, put_setting}
use Rattle.stream_model.specs.Tags.{Tag, Mark}
use Rattle.stream_model.specs.Network.{Network, Handed, State, nothing_handed, node_at, handed_at, role_at, is_source}
use Rattle.stream_model.specs.Numbers.{types_agree}
use Rattle.stream_model.specs.Machine.{Capacities, Reply, with_handed, with_tape, tag_of, marks_fit, feed_of, close_of, set_of, set_wanted, place_setting, is_wanted, floor_of}
use Rattle.stream_model.proofs.Putting.{put-all, put-rises}
use Rattle.stream_model.proofs.Streams.{beginning_refl}
use Rattle.machine_laws.specs.Sound.{IsHandedWell, Sound}
use Rattle.machine_laws.proofs.Choices.{if_both, not_false}
use Rattle.machine_laws.proofs.Frames.{sound-fed}

-- what one block may become: all other blocks stay as they are
pub record MayTurn (g h : Handed) : Type 0 where
  pub tape : IsBeginning g.tape h.tape
  pub stays_closed : g.closed ≡ true → h.closed ≡ true
  pub ended : g.closed ≡ true → h.tape ≡ g.tape

module _ (net : Network) (caps : Capacities) (st : State) (sound : Sound net caps st) (b : ℕ) (in' : b < length net.nodes) where
  there : b < length st.handed
  there = rw sound.handed_count in'

  module _ (h : Handed) where
    at_same : (c : ℕ) → c ≡ b → handed_at (set st.handed b h) c ≡ h
    at_same c e = ap (handed_at (set st.handed b h)) e ∙ get_or-set_same st.handed b h nothing_handed there

    at_other : (c : ℕ) → c ≢ b → handed_at (set st.handed b h) c ≡ handed_at st.handed c
    at_other c ne = get_or-set_other st.handed b c h nothing_handed ne

    -- a fact of each block's two hands
    pub each : (P : ℕ → Handed → Handed → Type 0) → ((c : ℕ) (g : Handed) → P c g g) → P b (handed_at st.handed b) h → (c : ℕ) → P c (handed_at st.handed c) (handed_at (set st.handed b h) c)
    each P same here c =
        elim (cases_eq c b) [
          | inl e ↦ subst (λ k. P k (handed_at st.handed k) (handed_at (set st.handed b h) k)) (sym e) (subst (P b (handed_at st.handed b)) (sym (at_same b refl)) here)
          | inr ne ↦ subst (P c (handed_at st.handed c)) (sym (at_other c ne)) (same c (handed_at st.handed c))
        ]

    pub sound-handed : MayTurn (handed_at st.handed b) h → IsHandedWell (node_at net b) h → Sound net caps (with_handed st b h)
    sound-handed turn well =
        sound-fed net caps st sound (set st.handed b h)
        (record {
          tapes = each (λ c f g. IsBeginning f.tape g.tape) (λ c g. beginning_refl g.tape) turn.tape;
          stay_closed = each (λ c f g. f.closed ≡ true → g.closed ≡ true) (λ c g e. e) turn.stays_closed;
          ended = each (λ c f g. f.closed ≡ true → g.tape ≡ f.tape) (λ c g e. refl) turn.ended;
        })
        (length-set st.handed b h ∙ sound.handed_count)
        (λ c in1. elim (cases_eq c b) [
          | inl e ↦ subst (λ k. IsHandedWell (node_at net k) (handed_at (set st.handed b h) k)) (sym e) (subst (IsHandedWell (node_at net b)) (sym (at_same b refl)) well)
          | inr ne ↦ subst (IsHandedWell (node_at net c)) (sym (at_other c ne)) (sound.handed c in1)
        ])

  -- feeding
  marks_on : (xs : List ℤ) (ms : List Mark) → marks_fit (handed_at st.handed b).tape xs ms ≡ true → All (λ (t : Tag). t.offset < length (handed_at st.handed b).tape + length xs) (map (tag_of b) ms)
  marks_on xs ms fit =
      All-map (λ (t : Tag). t.offset < length (handed_at st.handed b).tape + length xs) (tag_of b) ms
      (All-weaker (λ (m : Mark). (nat_le (length (handed_at st.handed b).tape) m.offset && nat_lt m.offset (length (handed_at st.handed b).tape + length xs)) ≡ true)
      (λ (m : Mark). m.offset < length (handed_at st.handed b).tape + length xs) (λ m e. ltb-true _ _ (and_parts _ _ e).1) ms
      (AllPass-from_list_all (λ (m : Mark). nat_le (length (handed_at st.handed b).tape) m.offset && nat_lt m.offset (length (handed_at st.handed b).tape + length xs)) ms fit))

  fed_well : (xs : List ℤ) (ms : List Mark) → is_source (role_at net b) ≡ true → marks_fit (handed_at st.handed b).tape xs ms ≡ true → length (handed_at st.handed b).tape + length xs ≤ (handed_at st.handed b).longest →
      IsHandedWell (node_at net b) (with_tape (handed_at st.handed b) b xs ms)
  fed_well xs ms source fit short =
      let well = sound.handed b in' in
      record {
        tape = λ e. absurd (cc);
        short = rw length-append short;
        tags = subst (λ n. All (λ (t : Tag). t.offset < n) ((handed_at st.handed b).tags ++ map (tag_of b) ms)) (sym (length-append (handed_at st.handed b).tape xs))
            (All-append (λ (t : Tag). t.offset < length (handed_at st.handed b).tape + length xs) (handed_at st.handed b).tags (map (tag_of b) ms)
            (All-weaker (λ (t : Tag). t.offset < length (handed_at st.handed b).tape) (λ (t : Tag). t.offset < length (handed_at st.handed b).tape + length xs) (λ t low. omega arith) (handed_at st.handed b).tags well.tags)
            (marks_on xs ms fit));
        settings = well.settings;
        rising = well.rising;
        unset = well.unset;
      }

  feeds : (xs : List ℤ) (ms : List Mark) → is_source (role_at net b) ≡ true → (handed_at st.handed b).closed ≡ false → marks_fit (handed_at st.handed b).tape xs ms ≡ true →
      length (handed_at st.handed b).tape + length xs ≤ (handed_at st.handed b).longest → Sound net caps (with_handed st b (with_tape (handed_at st.handed b) b xs ms))
  feeds xs ms source live fit short =
      sound-handed (with_tape (handed_at st.handed b) b xs ms)
      (record { tape = record { rest = xs; is = refl }; stays_closed = λ e. e; ended = λ e. absurd (cc) })
      (fed_well xs ms source fit short)

  closes : Sound net caps (with_handed st b (record (handed_at st.handed b) { closed = true }))
  closes =
      let well = sound.handed b in' in
      sound-handed (record (handed_at st.handed b) { closed = true })
      (record { tape = beginning_refl (handed_at st.handed b).tape; stays_closed = λ e. refl; ended = λ e. refl })
      (record { tape = well.tape; short = well.short; tags = well.tags; settings = well.settings; rising = well.rising; unset = well.unset })

  -- setting
  wanted_is : (w : Wanted) (v : Value) → is_wanted w v ≡ true → IsWanted w v
  wanted_is (wanted.Number least most) (Number z) e = let parts = and_parts _ _ e in (le_z_yes (subst T (sym parts.0) tt), le_z_yes (subst T (sym parts.1) tt))
  wanted_is (wanted.Number least most) (Taps h) e = cc
  wanted_is (wanted.Taps count) (Number z) e = cc
  wanted_is (wanted.Taps count) (Taps h) e = eqb-true (length h) count e

  placed_well : (w : Wanted) (at : ℕ) (v : Value) → (node_at net b).meaning.setting ≡ Some w → is_wanted w v ≡ true →
      AreWanted (node_at net b).meaning (put_setting (record { at = at; value = v }) (handed_at st.handed b).settings)
  placed_well w at v some e =
      let well = (sound.handed b in').settings in
      subst (λ (o : Option Wanted). MatchOption o ⊤ (λ w. All (λ (h : Held). IsWanted w h.value) (put_setting (record { at = at; value = v }) (handed_at st.handed b).settings))) (sym some)
      (put-all (λ (h : Held). IsWanted w h.value) (record { at = at; value = v }) (handed_at st.handed b).settings (wanted_is w v e)
      (subst (λ (o : Option Wanted). MatchOption o ⊤ (λ w. All (λ (h : Held). IsWanted w h.value) (handed_at st.handed b).settings)) some well))

  places : (w : Wanted) (floor at : ℕ) (v : Value) → (node_at net b).meaning.setting ≡ Some w → is_wanted w v ≡ true → Sound net caps (place_setting floor st b at v).1
  places w floor at v some e =
      let well = sound.handed b in' in
      let g : Held = record { at = at; value = v } in
      let h : Handed = record (handed_at st.handed b) { settings = put_setting g (handed_at st.handed b).settings } in
      if_both (nat_lt at floor) _ _ (λ (r : Reply × State). Sound net caps r.1) (λ _. sound)
      (λ _. sound-handed h (record { tape = beginning_refl (handed_at st.handed b).tape; stays_closed = λ e. e; ended = λ e. refl })
      (record {
        tape = well.tape;
        short = well.short;
        tags = well.tags;
        settings = placed_well w at v some e;
        rising = put-rises g (handed_at st.handed b).settings well.rising;
        unset = λ none. absurd (let is = subst (λ (o : Option Wanted). IsNone o) some none in cc);
      }))

  sets : (o : Option Wanted) (at : Option ℕ) (v : Value) → (node_at net b).meaning.setting ≡ o → Sound net caps (set_wanted net st b at v o).1
  sets None at v e = sound
  sets (Some w) None v e =
      if_both (not (is_wanted w v)) _ _ (λ (r : Reply × State). Sound net caps r.1) (λ _. sound)
      (λ f. places w (floor_of net st b) (floor_of net st b) v e (not_false (is_wanted w v) f))
  sets (Some w) (Some a) v e =
      if_both (not (is_wanted w v)) _ _ (λ (r : Reply × State). Sound net caps r.1) (λ _. sound)
      (λ f. places w (floor_of net st b) a v e (not_false (is_wanted w v) f))

module _ (net : Network) (caps : Capacities) (st : State) (sound : Sound net caps st) (b : ℕ) where
  abbrev Stays : Reply × State → Type 0
  Stays r = Sound net caps r.1

  pub feed-keeps : (t : ItemType) (xs : List ℤ) (ms : List Mark) → Sound net caps (feed_of net st b t xs ms).1
  unfolding feed_of
  feed-keeps t xs ms =
      let s = handed_at st.handed b in
      if_both (not (nat_lt b (length net.nodes))) _ _ Stays (λ _. sound)
      (λ member. if_both (not (is_source (role_at net b))) _ _ Stays (λ _. sound)
      (λ source. if_both (not (types_agree t (node_at net b).meaning.outputs.item)) _ _ Stays (λ _. sound)
      (λ _. if_both s.closed _ _ Stays (λ _. sound)
      (λ live. if_both (not (marks_fit s.tape xs ms)) _ _ Stays (λ _. sound)
      (λ fit. if_both (nat_lt s.longest (length s.tape + length xs)) _ _ Stays (λ _. sound)
      (λ short. feeds net caps st sound b (ltb-true b (length net.nodes) (not_false _ member)) xs ms (not_false _ source) live (not_false _ fit) (ltb-false s.longest (length s.tape + length xs) short)))))))

  pub close-keeps : Sound net caps (close_of net st b).1
  unfolding close_of
  close-keeps =
      let s = handed_at st.handed b in
      if_both (not (nat_lt b (length net.nodes))) _ _ Stays (λ _. sound)
      (λ member. if_both (not (is_source (role_at net b))) _ _ Stays (λ _. sound)
      (λ source. if_both s.closed _ _ Stays (λ _. sound)
      (λ live. closes net caps st sound b (ltb-true b (length net.nodes) (not_false _ member)))))

  pub set-keeps : (at : Option ℕ) (v : Value) → Sound net caps (set_of net st b at v).1
  unfolding set_of
  set-keeps at v =
      if_both (not (nat_lt b (length net.nodes))) _ _ Stays (λ _. sound)
      (λ member. sets net caps st sound b (ltb-true b (length net.nodes) (not_false _ member)) (node_at net b).meaning.setting at v refl)
