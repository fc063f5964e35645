-- How much is in memory of what is kept.
use Rattle.std.proofs.Common.{◌≡◌, ℕ, ◌+◌, ◌-◌, ◌<◌, ◌≤◌, ◌∙◌, true, List, [], ◌∷◌, length, map, get_or, refl, sym, ap, subst, arith, zero-le, nat_le, nat_lt, inl, inr}
use Rattle.std.specs.Prelude.{Option, Some, None}
use Rattle.plant_storage.specs.SourceTapes.{tape_in}
use Rattle.std.proofs.lemmas.Bool.{cases_Bool, le-leb, ltb-true}
use Rattle.std.proofs.lemmas.List.{get_or-map, length-map}
use Rattle.stream_model.specs.Tags.{Tag, sorted_tags, tags_within}
use Rattle.stream_model.specs.Network.{Network, Progress, Handed, handed_at, nothing_handed, node_at, role_at, is_keeper, is_source}
use Rattle.stream_model.specs.Machine.{Capacities}
use Rattle.stream_laws.specs.CanRun.{CanRun}
use Rattle.stream_laws.proofs.Sorting.{filter-sorted}
use Rattle.machine_laws.specs.Sound.{fired}
use Rattle.tags.specs.TagList.{tags_from}
use Rattle.tags.proofs.Kept.{length-insert_tag}
use Rattle.recordings.specs.Recording.{RecordingState}
use Rattle.recordings.specs.Recent.{SettingsState}
use Rattle.settings.specs.Timelines.{kept_from}
use Rattle.stream_model.specs.Settings.{Value, Held, setting_at}
use Rattle.plant_laws.specs.Holds.{IsTimeline}
use Rattle.plant_laws.specs.Stored.{Collected, Tape, no_tape, nothing_collected, settings_from, sink_at, tape_at, timeline_at}
use Rattle.plant_storage.specs.declared.intake.Intake.{Intake}
use Rattle.plant_storage.specs.declared.stores.Stores.{Stores}
use Rattle.plant_storage.specs.Stores.{collected_of, handed_of, settings_in, state_of, stored_in, tape_of}
use Rattle.plant.specs.Plant.{Keeps}
use Rattle.streaming.specs.Streaming.{tags_into}
use Rattle.streaming.proofs.Pieces.{collected_all, drained_at, drains}

-- tags that are put in order are as many
as_many : (ts : List Tag) → length (sorted_tags ts) ≡ length ts
as_many [] = refl
as_many (t ∷ ts) = let one = length-insert_tag t (sorted_tags ts) in let rest = as_many ts in omega (arith, one, rest)

as_many_from : (k : ℕ) (ts : List Tag) → length (tags_from k (sorted_tags ts)) ≡ length (tags_from k ts)
as_many_from k ts = ap length (filter-sorted (λ t. nat_le k t.offset) ts) ∙ as_many (tags_from k ts)

-- of the tags before an item, those from another on lie between them
from_within : (k f : ℕ) (ts : List Tag) → tags_from k (tags_within 0 f ts) ≡ tags_within k f ts
from_within k f [] = refl
from_within k f (t ∷ ts) =
    let rest = from_within k f ts in
    elim (cases_Bool (nat_lt t.offset f)) [
      | inl below ↦ elim (cases_Bool (nat_le k t.offset)) [
        | inl kept ↦ rw (le-leb 0 t.offset zero-le, below, kept) (ap (λ us. t ∷ us) rest)
        | inr gone ↦ rw (le-leb 0 t.offset zero-le, below, gone) rest
      ]
      | inr above ↦ elim (cases_Bool (nat_le k t.offset)) [
        | inl kept ↦ rw (le-leb 0 t.offset zero-le, above, kept) rest
        | inr gone ↦ rw (le-leb 0 t.offset zero-le, above, gone) rest
      ]
    ]

module _ (net : Network) (caps : Capacities) (s : Stores) (ps : List Progress) (keeps : Keeps net caps s ps) (b : ℕ) (in' : b < length net.nodes) where
  -- of a tape, the tags from the first item on that is kept
  pub tags_of_tape : is_source (role_at net b) ≡ true → (h : Intake) → h ≡ get_or s.handed.items b h →
      length (tags_from (tape_in h.tape).from (tape_in h.tape).tags) ≡ length (tags_from (get_or (map (λ (t : Tape). t.from) (map tape_of s.handed.items)) b 0) (handed_at (state_of s.handed.items ps).handed b).tags)
  tags_of_tape source h h_is =
      let places = keeps.stored.places.tapes in
      let inside : b < length s.handed.items = omega (arith, in', places, length-map s.handed.items tape_of) in
      let wide : b < length (map tape_of s.handed.items) = omega (arith, in', places) in
      let tape : tape_at (stored_in s) b ≡ tape_of h = get_or-map tape_of s.handed.items b h no_tape inside ∙ ap tape_of (sym h_is) in
      let from : get_or (map (λ (t : Tape). t.from) (map tape_of s.handed.items)) b 0 ≡ (tape_of h).from = get_or-map (λ (t : Tape). t.from) (map tape_of s.handed.items) b no_tape 0 wide ∙ ap (λ (t : Tape). t.from) tape in
      let tags : (tape_of h).tags ≡ sorted_tags (handed_at (state_of s.handed.items ps).handed b).tags = ap (λ (t : Tape). t.tags) (sym tape) ∙ (keeps.stored.tapes b in' source).tags in
      ap (λ ts. length (tags_from (tape_of h).from ts)) tags
      ∙ as_many_from (tape_of h).from (handed_at (state_of s.handed.items ps).handed b).tags
      ∙ ap (λ k. length (tags_from k (handed_at (state_of s.handed.items ps).handed b).tags)) (sym from)

  -- of what a sink has taken, those from the first item on that was not drained
  pub tags_of_sink : is_keeper (role_at net b) ≡ true → (r : RecordingState) → r ≡ get_or s.sinks.items b r →
      length (tags_from r.from r.tags) ≡ length (tags_within (get_or (drains s.sinks.items) b 0) (fired (state_of s.handed.items ps) b) (tags_into net (state_of s.handed.items ps) b))
  tags_of_sink keeper r r_is =
      let places = keeps.stored.places.sinks in
      let inside : b < length s.sinks.items = omega (arith, in', places, length-map s.sinks.items collected_of) in
      let sink : sink_at (stored_in s) b ≡ collected_of r = get_or-map collected_of s.sinks.items b r nothing_collected inside ∙ ap collected_of (sym r_is) in
      let tags : r.tags ≡ tags_within 0 (fired (state_of s.handed.items ps) b) (tags_into net (state_of s.handed.items ps) b) = ap (λ (c : Collected). c.tags) (sym sink) ∙ (keeps.stored.sinks b in' keeper).tags in
      ap (λ ts. length (tags_from r.from ts)) tags
      ∙ ap length (from_within r.from (fired (state_of s.handed.items ps) b) (tags_into net (state_of s.handed.items ps) b))
      ∙ ap (λ k. length (tags_within k (fired (state_of s.handed.items ps) b) (tags_into net (state_of s.handed.items ps) b))) (sym (drained_at s b r inside r_is))

  -- and as many items as a sink has taken and were not drained
  pub items_of_sink : CanRun net → is_keeper (role_at net b) ≡ true → (r : RecordingState) → r ≡ get_or s.sinks.items b r → (n : ℕ) → length r.items - r.from ≤ n →
      fired (state_of s.handed.items ps) b - get_or (drains s.sinks.items) b 0 ≤ n
  items_of_sink can keeper r r_is n few =
      let places = keeps.stored.places.sinks in
      let inside : b < length s.sinks.items = omega (arith, in', places, length-map s.sinks.items collected_of) in
      let sink : sink_at (stored_in s) b ≡ collected_of r = get_or-map collected_of s.sinks.items b r nothing_collected inside ∙ ap collected_of (sym r_is) in
      let all : length r.items ≡ fired (state_of s.handed.items ps) b = ap (λ (x : Collected). length x.items) (sym sink) ∙ collected_all net caps can s ps keeps b 0 0 in' keeper zero-le in
      omega (arith, all, drained_at s b r inside r_is, few)

-- of the settings of a block, those that were made from the first item on that may read them
pub settings_from_first : (hs xs : List Intake) (b : ℕ) (h : Intake) (s : SettingsState) (n : ℕ) → xs ≡ hs → (true ≡ nat_lt b (length xs)) × (h ≡ get_or xs b h) → h.timeline ≡ Some s →
    n ≤ 1 + length (kept_from s.from s.settings) →
    n ≤ 1 + length (kept_from (get_or (map settings_from (map (λ (x : Intake). x.timeline) hs)) b 0) (handed_at (map handed_of hs) b).settings)
settings_from_first hs xs b h s n same there is few =
    let inside : b < length hs = subst (λ (ys : List Intake). b < length ys) same (ltb-true b (length xs) (sym there.0)) in
    let here : get_or hs b h ≡ h = sym (subst (λ (ys : List Intake). h ≡ get_or ys b h) same there.1) in
    let wide : b < length (map (λ (x : Intake). x.timeline) hs) = rw (length-map hs (λ (x : Intake). x.timeline)) inside in
    let from : get_or (map settings_from (map (λ (x : Intake). x.timeline) hs)) b 0 ≡ s.from =
    get_or-map settings_from (map (λ (x : Intake). x.timeline) hs) b None 0 wide
    ∙ ap settings_from (get_or-map (λ (x : Intake). x.timeline) hs b h None inside ∙ ap (λ (x : Intake). x.timeline) here ∙ is) in
    let made : (handed_at (map handed_of hs) b).settings ≡ s.settings =
    ap (λ (x : Handed). x.settings) (get_or-map handed_of hs b h nothing_handed inside ∙ ap handed_of here) ∙ ap settings_in is in
    rw (from, made) few

-- the parameter of its own that a block's settings begin with
own_of : (o : Option Value) (hs : List Held) (t : Option SettingsState) (own : Value) (s : SettingsState) → IsTimeline o hs t → o ≡ Some own → t ≡ Some s → s.own ≡ own
own_of None hs t own s is e there = absurd (cc)
own_of (Some o) hs None own s is e there = absurd is
own_of (Some o) hs (Some x) own s is e there = let first = is.0 in cc

some_of : (o : Option Value) (hs : List Held) (own : Value) → IsTimeline o hs None → o ≡ Some own → ⊥
some_of None hs own is e = absurd (cc)
some_of (Some o) hs own is e = is

-- and of the settings of a block those that may still be read
module _ (net : Network) (caps : Capacities) (s : Stores) (ps : List Progress) (keeps : Keeps net caps s ps) (b : ℕ) (in' : b < length net.nodes) (own : Value) (has : (node_at net b).meaning.own ≡ Some own)
    (h : Intake) (there : (true ≡ nat_lt b (length s.handed.items)) × (h ≡ get_or s.handed.items b h)) where
  timeline_here : timeline_at (stored_in s) b ≡ h.timeline
  timeline_here = get_or-map (λ (x : Intake). x.timeline) s.handed.items b h None (ltb-true b (length s.handed.items) (sym there.0)) ∙ ap (λ (x : Intake). x.timeline) (sym there.1)

  is_timeline : IsTimeline (node_at net b).meaning.own (handed_at (state_of s.handed.items ps).handed b).settings h.timeline
  is_timeline = subst (IsTimeline (node_at net b).meaning.own (handed_at (state_of s.handed.items ps).handed b).settings) timeline_here (keeps.stored.timelines b in')

  pub no_timeline : h.timeline ≡ None → ⊥
  no_timeline none = some_of (node_at net b).meaning.own (handed_at (state_of s.handed.items ps).handed b).settings own (subst (IsTimeline (node_at net b).meaning.own (handed_at (state_of s.handed.items ps).handed b).settings) none is_timeline) has

  pub settings_read : (t : SettingsState) (n : ℕ) → h.timeline ≡ Some t → length (kept_from (setting_at t.own t.settings t.from).at t.settings) ≤ n →
      (let made = (handed_at (map handed_of s.handed.items) b).settings in length (kept_from (setting_at own made (get_or (map settings_from (map (λ (x : Intake). x.timeline) s.handed.items)) b 0)).at made) ≤ n)
  settings_read t n is few =
      let inside : b < length s.handed.items = ltb-true b (length s.handed.items) (sym there.0) in
      let wide : b < length (map (λ (x : Intake). x.timeline) s.handed.items) = rw (length-map s.handed.items (λ (x : Intake). x.timeline)) inside in
      let from : get_or (map settings_from (map (λ (x : Intake). x.timeline) s.handed.items)) b 0 ≡ t.from =
      get_or-map settings_from (map (λ (x : Intake). x.timeline) s.handed.items) b None 0 wide ∙ ap settings_from (timeline_here ∙ is) in
      let made : (handed_at (map handed_of s.handed.items) b).settings ≡ t.settings =
      ap (λ (x : Handed). x.settings) (get_or-map handed_of s.handed.items b h nothing_handed inside ∙ ap handed_of (sym there.1)) ∙ ap settings_in is in
      let first : t.own ≡ own = own_of (node_at net b).meaning.own (handed_at (state_of s.handed.items ps).handed b).settings h.timeline own t is_timeline has is in
      rw (from, made) (subst (λ o. length (kept_from (setting_at o t.settings t.from).at t.settings) ≤ n) first few)
