-- Feeding, closing and setting keep what is stored right, and so do claims that fire and abandons.
use Rattle.std.proofs.Common.{◌≤◌, ◌≡◌, ◌≢◌, ℕ, ℤ, ◌+◌, ◌<◌, Bool, true, not, List, ◌++◌, length, map, set, Option, Some, None, MatchOption, IsSome, get_or, refl, ap, sym, ◌∙◌, subst, inl, inr, ltb-true, get_or-set_same, get_or-set_other, length-set}
use Rattle.std.specs.Prelude.{nat_lt}
use Rattle.std.proofs.lemmas.Bool.{cases_eq}
use Rattle.stream_model.specs.declared.vocabulary.ItemType.{ItemType}
use Rattle.stream_model.specs.declared.vocabulary.Wanted.{Wanted}
use Rattle.stream_model.specs.Numbers.{types_agree}
use Rattle.stream_model.specs.Settings.{Value, Held, put_setting}
use Rattle.stream_model.specs.Tags.{Mark}
use Rattle.stream_model.specs.Meaning.{IsWanted}
use Rattle.stream_model.specs.Network.{Network, Handed, Progress, State, nothing_handed, no_progress, node_at, handed_at, progress_at, role_at, is_source, taken_by}
use Rattle.stream_model.specs.Claims.{Decision, IsDone, IsBusy, Ends, Fires, LacksItems, LacksRoom, decide}
use Rattle.stream_model.specs.Machine.{Capacities, Call, Feed, Close, Set, Claim, Abandon, Reply, Fed, Closed, Taken, Claimed, Abandoned, Job, with_handed, with_progress, with_tape, tag_of, marks_fit, feed_of, close_of, set_of, set_wanted, place_setting, is_wanted, floor_of, claimed_by, claim_of, counts_of, is_in_flight, abandon_of, next}
use Rattle.stream_laws.specs.CanRun.{CanRun}
use Rattle.machine_laws.specs.Sound.{Sound, fired}
use Rattle.machine_laws.proofs.Choices.{if_both, not_false}
use Rattle.machine_laws.proofs.Sounds as sounds
use Rattle.settings.specs.Timelines.{held_at}
use Rattle.recordings.specs.Recent.{SettingsState}
use Rattle.tags.specs.TagList.{insert_tags}
use Rattle.plant_laws.specs.Stored.{Tape, Stored, no_tape, tape_at, timeline_at, settings_from}
use Rattle.plant_laws.specs.Holds.{IsTape, IsTimeline, Holds}
use Rattle.plant_laws.specs.Changes.{with_settings}
use Rattle.plant_laws.specs.Calls.{StaysPut, TakesOneMore, FeedingHolds, ClosingHolds, SettingHolds, ClaimingHolds, AbandoningHolds}
use Rattle.plant_laws.proofs.Inserting.{inserted_behind}
use Rattle.plant_laws.proofs.Keeping.{all-put}

-- block b was handed h instead of what it had
pub record IsHanded (net : Network) (st : State) (b : ℕ) (h : Handed) (next_state : State) : Type 0 where
  pub inside : b < length net.nodes
  pub is : next_state ≡ with_handed st b h

module _ (net : Network) (can : CanRun net) (caps : Capacities) (st : State) (sound : Sound net caps st) (stored : Stored) (holds : Holds net caps st stored) (call : Call) where
  abbrev after : State
  after = (next net caps st call).1

  module _ (b : ℕ) (h : Handed) (handed : IsHanded net st b h (after)) where
    puts : (c : ℕ) → StaysPut st (after) c
    puts c = let same = ap (λ (s : State). progress_at s.progress c) handed.is in record { firings = ap (λ (p : Progress). p.firings) same; done = ap (λ (p : Progress). p.done) same }

    handed-here : handed_at (after).handed b ≡ h
    handed-here = ap (λ (s : State). handed_at s.handed b) handed.is ∙ get_or-set_same st.handed b h nothing_handed (let i = handed.inside in rw sound.handed_count i)

    handed-other : (c : ℕ) → c ≢ b → handed_at (after).handed c ≡ handed_at st.handed c
    handed-other c ne = ap (λ (s : State). handed_at s.handed c) handed.is ∙ get_or-set_other st.handed b c h nothing_handed ne

    tapes-other : (c : ℕ) → c ≢ b → c < length net.nodes → is_source (role_at net c) ≡ true → IsTape (node_at net c).meaning.outputs.item (handed_at (after).handed c) (tape_at stored c)
    tapes-other c ne in1 e = subst (λ g. IsTape (node_at net c).meaning.outputs.item g (tape_at stored c)) (sym (handed-other c ne)) (holds.tapes c in1 e)

    timelines-other : (c : ℕ) → c ≢ b → c < length net.nodes → IsTimeline (node_at net c).meaning.own (handed_at (after).handed c).settings (timeline_at stored c)
    timelines-other c ne in1 = subst (λ (g : Handed). IsTimeline (node_at net c).meaning.own g.settings (timeline_at stored c)) (sym (handed-other c ne)) (holds.timelines c in1)

    -- a tape is stored anew
    pub new_tape : h.settings ≡ (handed_at st.handed b).settings → (tape : Tape) → (is_source (role_at net b) ≡ true → IsTape (node_at net b).meaning.outputs.item h tape) → tape.from ≡ (tape_at stored b).from → Holds net caps (after) (record stored { tapes = set stored.tapes b tape })
    new_tape settings tape is from =
        all-put net can caps st sound stored holds call (puts) (set stored.tapes b tape) stored.timelines (length-set stored.tapes b tape ∙ holds.places.tapes) holds.places.timelines
        (λ c in1 e. elim (cases_eq c b) [
          | inl same ↦ subst (λ k. is_source (role_at net k) ≡ true → IsTape (node_at net k).meaning.outputs.item (handed_at (after).handed k) (get_or (set stored.tapes b tape) k no_tape)) (sym same)
              (λ e'. subst (λ t. IsTape (node_at net b).meaning.outputs.item (handed_at (after).handed b) t) (sym (get_or-set_same stored.tapes b tape no_tape (let i = handed.inside in rw holds.places.tapes i))) (subst (λ g. IsTape (node_at net b).meaning.outputs.item g tape) (sym (handed-here)) (is e'))) e
          | inr ne ↦ subst (λ t. IsTape (node_at net c).meaning.outputs.item (handed_at (after).handed c) t) (sym (get_or-set_other stored.tapes b c tape no_tape ne)) (tapes-other c ne in1 e)
        ])
        (λ c in1 e. elim (cases_eq c b) [
          | inl same ↦ subst (λ k. is_source (role_at net k) ≡ true → (get_or (set stored.tapes b tape) k no_tape).from ≤ fired st k) (sym same)
              (λ e'. subst (λ (t : Tape). t.from ≤ fired st b) (sym (get_or-set_same stored.tapes b tape no_tape (let i = handed.inside in rw holds.places.tapes i))) (subst (λ (n : ℕ). n ≤ fired st b) (sym from) (holds.kept b handed.inside e'))) e
          | inr ne ↦ subst (λ (t : Tape). t.from ≤ fired st c) (sym (get_or-set_other stored.tapes b c tape no_tape ne)) (holds.kept c in1 e)
        ])
        (λ c in1. elim (cases_eq c b) [
          | inl same ↦ subst (λ (ts : List Held). IsTimeline (node_at net c).meaning.own ts (timeline_at stored c)) (sym (ap (λ (g : Handed). g.settings) (ap (handed_at (after).handed) same ∙ handed-here) ∙ settings ∙ ap (λ k. (handed_at st.handed k).settings) (sym same))) (holds.timelines c in1)
          | inr ne ↦ timelines-other c ne in1
        ])
        holds.unread

    -- and so is a timeline
    pub new_timeline : ((tape : Tape) → IsTape (node_at net b).meaning.outputs.item (handed_at st.handed b) tape → IsTape (node_at net b).meaning.outputs.item h tape) → (s : SettingsState) → IsTimeline (node_at net b).meaning.own h.settings (Some s) → s.from ≡ settings_from (timeline_at stored b) → Holds net caps (after) (with_settings stored b s)
    new_timeline tape s is from =
        all-put net can caps st sound stored holds call (puts) stored.tapes (set stored.timelines b (Some s)) holds.places.tapes (length-set stored.timelines b (Some s) ∙ holds.places.timelines)
        (λ c in1 e. elim (cases_eq c b) [
          | inl same ↦ subst (λ k. IsTape (node_at net k).meaning.outputs.item (handed_at st.handed k) (tape_at stored k) → IsTape (node_at net k).meaning.outputs.item (handed_at (after).handed k) (tape_at stored k)) (sym same)
              (λ was. subst (λ g. IsTape (node_at net b).meaning.outputs.item g (tape_at stored b)) (sym (handed-here)) (tape (tape_at stored b) was)) (holds.tapes c in1 e)
          | inr ne ↦ tapes-other c ne in1 e
        ])
        holds.kept
        (λ c in1. elim (cases_eq c b) [
          | inl same ↦ subst (λ k. IsTimeline (node_at net k).meaning.own (handed_at (after).handed k).settings (get_or (set stored.timelines b (Some s)) k None)) (sym same)
              (subst (λ o. IsTimeline (node_at net b).meaning.own (handed_at (after).handed b).settings o) (sym (get_or-set_same stored.timelines b (Some s) None (let i = handed.inside in rw holds.places.timelines i)))
              (subst (λ (g : Handed). IsTimeline (node_at net b).meaning.own g.settings (Some s)) (sym (handed-here)) is))
          | inr ne ↦ subst (λ o. IsTimeline (node_at net c).meaning.own (handed_at (after).handed c).settings o) (sym (get_or-set_other stored.timelines b c (Some s) None ne)) (timelines-other c ne in1)
        ])
        (λ c in1. elim (cases_eq c b) [
          | inl same ↦ subst (λ k. settings_from (get_or (set stored.timelines b (Some s)) k None) ≤ taken_by (node_at net k) 0 (fired st k)) (sym same)
              (subst (λ o. settings_from o ≤ taken_by (node_at net b) 0 (fired st b)) (sym (get_or-set_same stored.timelines b (Some s) None (let i = handed.inside in rw holds.places.timelines i)))
              (subst (λ (n : ℕ). n ≤ taken_by (node_at net b) 0 (fired st b)) (sym from) (holds.unread b handed.inside)))
          | inr ne ↦ subst (λ o. settings_from o ≤ taken_by (node_at net c) 0 (fired st c)) (sym (get_or-set_other stored.timelines b c (Some s) None ne)) (holds.unread c in1)
        ])

  -- nothing is stored anew where the progress of one block is written over, its committed firings and whether it is done as they were
  pub nothing_new : (b : ℕ) (s : Progress) → b < length net.nodes → (after) ≡ with_progress st b s → s.firings ≡ fired st b → s.done ≡ (progress_at st.progress b).done → Holds net caps (after) stored
  nothing_new b s in' is firings done =
      let handed = ap (λ (t : State). t.handed) is in
      all-put net can caps st sound stored holds call put stored.tapes stored.timelines holds.places.tapes holds.places.timelines
      (λ c in1 e. subst (λ hs. IsTape (node_at net c).meaning.outputs.item (handed_at hs c) (tape_at stored c)) (sym handed) (holds.tapes c in1 e))
      holds.kept
      (λ c in1. subst (λ hs. IsTimeline (node_at net c).meaning.own (handed_at hs c).settings (timeline_at stored c)) (sym handed) (holds.timelines c in1))
      holds.unread
    where
      at : (c : ℕ) → progress_at (after).progress c ≡ progress_at (with_progress st b s).progress c
      at c = ap (λ (t : State). progress_at t.progress c) is

      put : (c : ℕ) → StaysPut st (after) c
      put c =
          elim (cases_eq c b) [
            | inl same ↦ (let new = at c ∙ ap (progress_at (with_progress st b s).progress) same ∙ get_or-set_same st.progress b s no_progress (rw sound.progress_count in') in
                let old = ap (λ k. progress_at st.progress k) same in
                record { firings = ap (λ (p : Progress). p.firings) new ∙ firings ∙ sym (ap (λ (p : Progress). p.firings) old); done = ap (λ (p : Progress). p.done) new ∙ done ∙ sym (ap (λ (p : Progress). p.done) old) })
            | inr ne ↦ (let same = at c ∙ get_or-set_other st.progress b c s no_progress ne in
                record { firings = ap (λ (p : Progress). p.firings) same; done = ap (λ (p : Progress). p.done) same })
          ]

-- where feeding is answered, it is done
fed_is : (net : Network) (st : State) (b : ℕ) (t : ItemType) (xs : List ℤ) (ms : List Mark) (total : ℕ) → (feed_of net st b t xs ms).0 ≡ Fed total → IsHanded net st b (with_tape (handed_at st.handed b) b xs ms) (feed_of net st b t xs ms).1
unfolding feed_of
fed_is net st b t xs ms total =
    let s = handed_at st.handed b in
    let P : Reply × State → Type 0 = λ r. r.0 ≡ Fed total → IsHanded net st b (with_tape s b xs ms) r.1 in
    if_both (not (nat_lt b (length net.nodes))) _ _ P (λ _ e. absurd (cc))
    (λ member. if_both (not (is_source (role_at net b))) _ _ P (λ _ e. absurd (cc))
    (λ _. if_both (not (types_agree t (node_at net b).meaning.outputs.item)) _ _ P (λ _ e. absurd (cc))
    (λ _. if_both s.closed _ _ P (λ _ e. absurd (cc))
    (λ _. if_both (not (marks_fit s.tape xs ms)) _ _ P (λ _ e. absurd (cc))
    (λ _. if_both (nat_lt s.longest (length s.tape + length xs)) _ _ P (λ _ e. absurd (cc))
    (λ _ e. record { inside = ltb-true b (length net.nodes) (not_false _ member); is = refl }))))))

closed_is : (net : Network) (st : State) (b total : ℕ) → (close_of net st b).0 ≡ Closed total → IsHanded net st b (record (handed_at st.handed b) { closed = true }) (close_of net st b).1
unfolding close_of
closed_is net st b total =
    let s = handed_at st.handed b in
    let P : Reply × State → Type 0 = λ r. r.0 ≡ Closed total → IsHanded net st b (record s { closed = true }) r.1 in
    if_both (not (nat_lt b (length net.nodes))) _ _ P (λ _ e. absurd (cc))
    (λ member. if_both (not (is_source (role_at net b))) _ _ P (λ _ e. absurd (cc))
    (λ _. if_both s.closed _ _ P (λ _ e. absurd (cc))
    (λ _ e. record { inside = ltb-true b (length net.nodes) (not_false _ member); is = refl })))

pub feeding_holds : FeedingHolds
feeding_holds net caps st stored can sound holds b t xs ms total e =
    let s = handed_at st.handed b in
    new_tape net can caps st sound stored holds (Feed b t xs ms) b (with_tape s b xs ms) (fed_is net st b t xs ms total e) refl
    (record (tape_at stored b) { items = (tape_at stored b).items ++ xs; tags = insert_tags (map (tag_of b) ms) (tape_at stored b).tags })
    (λ source. let is = holds.tapes b (fed_is net st b t xs ms total e).inside source in record {
      type = is.type;
      items = ap (λ l. l ++ xs) is.items;
      tags = ap (insert_tags (map (tag_of b) ms)) is.tags ∙ inserted_behind s.tags (map (tag_of b) ms);
      closed = is.closed;
    })
    refl

pub closing_holds : ClosingHolds
closing_holds net caps st stored can sound holds b total e =
    let s = handed_at st.handed b in
    new_tape net can caps st sound stored holds (Close b) b (record s { closed = true }) (closed_is net st b total e) refl
    (record (tape_at stored b) { closed = true })
    (λ source. let is = holds.tapes b (closed_is net st b total e).inside source in record { type = is.type; items = is.items; tags = is.tags; closed = refl })
    refl

-- where a setting is taken, the block has one, and it is put among the others
pub record IsSet (net : Network) (st : State) (b place : ℕ) (v : Value) (next_state : State) : Type 0 where
  pub handed : let s = handed_at st.handed b in IsHanded net st b (record s { settings = put_setting (held_at place v) s.settings }) next_state
  pub some : IsSome (node_at net b).meaning.setting

module _ (net : Network) (st : State) (b place : ℕ) (v : Value) (in' : b < length net.nodes) where
  abbrev Sets : Reply × State → Type 0
  Sets r = r.0 ≡ Taken place → IsSet net st b place v r.1

  placed_is : (w : Wanted) → (node_at net b).meaning.setting ≡ Some w → (floor at : ℕ) → Sets (place_setting floor st b at v)
  placed_is w some floor at =
      let s = handed_at st.handed b in
      if_both (nat_lt at floor) _ _ (Sets) (λ _ e. absurd (cc))
      (λ _ e. let same : at ≡ place = cc in record {
        handed = record { inside = in'; is = ap (λ a. with_handed st b (record s { settings = put_setting (held_at a v) s.settings })) same };
        some = subst IsSome (sym some) refl;
      })

  set_is : (o : Option Wanted) → (node_at net b).meaning.setting ≡ o → (at : Option ℕ) → Sets (set_wanted net st b at v o)
  set_is None none at = λ e. absurd (cc)
  set_is (Some w) some None = if_both (not (is_wanted w v)) _ _ (Sets) (λ _ e. absurd (cc)) (λ _. placed_is w some (floor_of net st b) (floor_of net st b))
  set_is (Some w) some (Some a) = if_both (not (is_wanted w v)) _ _ (Sets) (λ _ e. absurd (cc)) (λ _. placed_is w some (floor_of net st b) a)

taken_is : (net : Network) (st : State) (b : ℕ) (at : Option ℕ) (v : Value) (place : ℕ) → (set_of net st b at v).0 ≡ Taken place → IsSet net st b place v (set_of net st b at v).1
unfolding set_of
taken_is net st b at v place =
    if_both (not (nat_lt b (length net.nodes))) _ _ (λ (r : Reply × State). r.0 ≡ Taken place → IsSet net st b place v r.1) (λ _ e. absurd (cc))
    (λ member. set_is net st b place v (ltb-true b (length net.nodes) (not_false _ member)) (node_at net b).meaning.setting refl at)

-- a timeline with one more setting, where there is a setting and so a value of the block's own
one_more : (setting : Option Wanted) (own : Option Value) → IsSome setting → MatchOption setting (own ≡ None) (λ w. MatchOption own ⊥ (IsWanted w)) → (ts : List Held) (h : Held) (o : Option SettingsState) → IsTimeline own ts o →
    (old : SettingsState) × (o ≡ Some old) × ((new : SettingsState) → TakesOneMore old new h → IsTimeline own (put_setting h ts) (Some new))
one_more None own some has ts h o is = absurd (cc)
one_more (Some w) None some has ts h o is = absurd (has)
one_more (Some w) (Some v) some has ts h None is = absurd (is)
one_more (Some w) (Some v) some has ts h (Some old) is = (old, refl, λ new takes. (takes.0 ∙ is.0, takes.1 ∙ ap (put_setting h) is.1))

pub setting_holds : SettingHolds
setting_holds net caps st stored can sound holds b at v place e =
    let s = handed_at st.handed b in
    let set' = taken_is net st b at v place e in
    let more = one_more (node_at net b).meaning.setting (node_at net b).meaning.own set'.some (can.sound b).lawful.own s.settings (held_at place v) (timeline_at stored b) (holds.timelines b set'.handed.inside) in (
      more.0,
      more.1,
      λ new takes. new_timeline net can caps st sound stored holds (Set b at v) b (record s { settings = put_setting (held_at place v) s.settings }) set'.handed
          (λ tape is. record { type = is.type; items = is.items; tags = is.tags; closed = is.closed }) new (more.2 new takes)
          (takes.2 ∙ sym (ap settings_from more.1)),
    )

-- a claim that fires
claimed_is : (net : Network) (st : State) (b : ℕ) (d : Decision) (job : Job) → (claimed_by net st b d).0 ≡ Claimed job → (count : ℕ) × ((claimed_by net st b d).1 ≡ with_progress st b (record (progress_at st.progress b) { claimed = count }))
claimed_is net st b IsDone job e = absurd (cc)
claimed_is net st b IsBusy job e = absurd (cc)
claimed_is net st b Ends job e = absurd (cc)
claimed_is net st b (Fires count) job e = (count, refl)
claimed_is net st b (LacksItems p) job e = absurd (cc)
claimed_is net st b (LacksRoom p) job e = absurd (cc)

claim_is : (net : Network) (caps : Capacities) (st : State) (b max : ℕ) (job : Job) → (next net caps st (Claim b max)).0 ≡ Claimed job →
    (b < length net.nodes) × ((count : ℕ) × ((next net caps st (Claim b max)).1 ≡ with_progress st b (record (progress_at st.progress b) { claimed = count })))
unfolding claim_of
claim_is net caps st b max job =
    if_both (nat_lt b (length net.nodes)) _ _ (λ (r : Reply × State). r.0 ≡ Claimed job → (b < length net.nodes) × ((count : ℕ) × (r.1 ≡ with_progress st b (record (progress_at st.progress b) { claimed = count }))))
    (λ member e. (ltb-true b (length net.nodes) member, claimed_is net st b (decide (node_at net b) (counts_of net caps st b) max) job e)) (λ _ e. absurd (cc))

pub claiming_holds : ClaimingHolds
claiming_holds net caps st stored can sound holds b max job e =
    let is = claim_is net caps st b max job e in
    nothing_new net can caps st sound stored holds (Claim b max) b (record (progress_at st.progress b) { claimed = is.1.0 }) is.0 is.1.1 refl refl

abandon_is : (net : Network) (can : CanRun net) (caps : Capacities) (st : State) (sound : Sound net caps st) (own : Bool) (job : Job) → (abandon_of net st own job).0 ≡ Abandoned →
    (job.block < length net.nodes) × ((abandon_of net st own job).1 ≡ with_progress st job.block (record (progress_at st.progress job.block) { claimed = 0 }))
unfolding abandon_of
abandon_is net can caps st sound own job =
    if_both (is_in_flight net st own job) _ _ (λ (r : Reply × State). r.0 ≡ Abandoned → (job.block < length net.nodes) × (r.1 ≡ with_progress st job.block (record (progress_at st.progress job.block) { claimed = 0 })))
    (λ e _. ((sounds.in_flight net can caps st sound own job e).member, refl)) (λ _ e. absurd (cc))

pub abandoning_holds : AbandoningHolds
abandoning_holds net caps st stored can sound holds own job e =
    let is = abandon_is net can caps st sound own job e in
    nothing_new net can caps st sound stored holds (Abandon own job) job.block (record (progress_at st.progress job.block) { claimed = 0 }) is.0 is.1 refl refl
