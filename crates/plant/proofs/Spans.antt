-- What is kept, and how long tapes may come to be.
use Rattle.std.proofs.Common.{◌≡◌, ℕ, ℤ, ◌<◌, ◌≤◌, Bool, true, false, None, List, [], length, map, set, get_or, ap, sym, ◌∙◌, subst, All, refl, inl, inr}
use Rattle.std.specs.Prelude.{nat_lt, if◌then◌else◌, Vec}
use Rattle.std.specs.Global.{Global}
use Rattle.std.proofs.lemmas.Bool.{cases_Bool, ltb-true, ltb-false}
use Rattle.std.proofs.Math.Seq.{map-set_same}
use Rattle.std.proofs.lemmas.List.{get_or-map, length-map, map-set}
use Rattle.std.proofs.Math.ListN.{get_or-eq_default}
use Rattle.stream_model.specs.Tags.{Tag, tags_within}
use Rattle.stream_model.specs.Meaning.{input}
use Rattle.stream_model.specs.Network.{Network, longest_tape, role_at, is_keeper}
use Rattle.plant_laws.specs.Stored.{Tape, Collected, Stored, firsts_of, no_tape, nothing_collected, settings_from, sink_at}
use Rattle.plant_laws.specs.Changes.{collected, tags_waiting}
use Rattle.plant_laws.proofs.Forgetting.{firsts-sink}
use Rattle.plant_storage.specs.declared.intake.Intake.{Intake}
use Rattle.plant_storage.specs.declared.stores.Stores.{Stores}
use Rattle.plant_storage.specs.Stores.{IsWhole, rows_in, stored_in, stored_of, tape_of}
use Rattle.plant_storage.specs.Delivery.{delivered}
use Rattle.plant_storage.specs.SourceTapes.{is_own}
use Rattle.plant.specs.Plant.{Spans, ForgetsNone, KeepsAll, spans_of}

-- no tape of a plant grows beyond the usual
pub limit_few : (spans : Spans) → KeepsAll spans → (hs : List Intake) → spans.longest ≡ map (λ (h : Intake). h.longest) hs → (b : ℕ) (h : Intake) → h ≡ get_or hs b h → b < length hs → h.longest ≤ longest_tape
limit_few spans keeps hs is b h h_is in' =
    let long = ap length is ∙ length-map hs (λ (x : Intake). x.longest) in
    let there = keeps.short b 0 (rw long in') in
    let here : get_or spans.longest b 0 ≡ h.longest = ap (λ ns. get_or ns b 0) is ∙ get_or-map (λ (x : Intake). x.longest) hs b h 0 in' ∙ ap (λ (x : Intake). x.longest) (sym h_is) in
    subst (λ n. n ≤ longest_tape) here there

-- and nothing of it is forgotten
zero_at : {X : Type 0} (from : X → ℕ) (xs : List X) (d : X) → from d ≡ 0 → All (λ k. k ≡ 0) (map from xs) → (b : ℕ) → from (get_or xs b d) ≡ 0
zero_at from xs d none zero b =
    elim (cases_Bool (nat_lt b (length xs))) [
      | inl e ↦ let in' = ltb-true b (length xs) e in sym (get_or-map from xs b d 0 in') ∙ zero b 0 (rw (length-map xs from) in')
      | inr e ↦ ap from (get_or-eq_default xs d (ltb-false b (length xs) e)) ∙ none
    ]

pub sink_whole : (stored : Stored) → ForgetsNone (firsts_of stored) → (b : ℕ) → (sink_at stored b).from ≡ 0
sink_whole stored none b = zero_at (λ (s : Collected). s.from) stored.sinks nothing_collected refl none.sinks b

-- what hands a block something, and forgets nothing of its tape and of its settings
pub spans_handed : (s : Stores) (b : ℕ) (h h' : Intake) → h ≡ get_or s.handed.items b h → b < length s.handed.items → (tape_of h').from ≡ (tape_of h).from → settings_from h'.timeline ≡ settings_from h.timeline → h'.longest ≡ h.longest → is_own h'.tape ≡ is_own h.tape →
    ◌≡◌ {A = Spans} (record { firsts = firsts_of (stored_of (set s.handed.items b h') s.words.items (rows_in s) s.sinks.items); longest = map (λ (x : Intake). x.longest) (set s.handed.items b h'); own = map (λ (x : Intake). is_own x.tape) (set s.handed.items b h') }) (spans_of s)
spans_handed s b h h' h_is in' from unread longest alone =
    let here : tape_of h ≡ get_or (map tape_of s.handed.items) b no_tape = ap tape_of h_is ∙ sym (get_or-map tape_of s.handed.items b h no_tape in') in
    let tapes : map (λ (t : Tape). t.from) (map tape_of (set s.handed.items b h')) ≡ map (λ (t : Tape). t.from) (map tape_of s.handed.items) =
    ap (map (λ (t : Tape). t.from)) (map-set tape_of s.handed.items b h') ∙ map-set_same (λ (t : Tape). t.from) (map tape_of s.handed.items) b (tape_of h') no_tape (from ∙ ap (λ (t : Tape). t.from) here) in
    let limits : map (λ (x : Intake). x.longest) (set s.handed.items b h') ≡ map (λ (x : Intake). x.longest) s.handed.items =
    map-set_same (λ (x : Intake). x.longest) s.handed.items b h' h (longest ∙ ap (λ (x : Intake). x.longest) h_is) in
    let owners : map (λ (x : Intake). is_own x.tape) (set s.handed.items b h') ≡ map (λ (x : Intake). is_own x.tape) s.handed.items =
    map-set_same (λ (x : Intake). is_own x.tape) s.handed.items b h' h (alone ∙ ap (λ (x : Intake). is_own x.tape) h_is) in
    let timelines : map settings_from (map (λ (x : Intake). x.timeline) (set s.handed.items b h')) ≡ map settings_from (map (λ (x : Intake). x.timeline) s.handed.items) =
    ap (map settings_from) (map-set (λ (x : Intake). x.timeline) s.handed.items b h')
    ∙ map-set_same settings_from (map (λ (x : Intake). x.timeline) s.handed.items) b h'.timeline None
    (unread ∙ ap settings_from (ap (λ (x : Intake). x.timeline) h_is ∙ sym (get_or-map (λ (x : Intake). x.timeline) s.handed.items b h None in'))) in
    rw (tapes, limits, owners, timelines) refl

-- a commit forgets nothing
collected_keeps : (stored : Stored) (b : ℕ) (xs : List ℤ) (ts : List Tag) (t : Bool) → firsts_of (record stored { sinks = if t then set stored.sinks b (collected (sink_at stored b) xs ts) else stored.sinks }) ≡ firsts_of stored
collected_keeps stored b xs ts true = firsts-sink stored b (collected (sink_at stored b) xs ts) refl
collected_keeps stored b xs ts false = refl

pub spans_delivered : (net : Network) (s s' : Stores) (b k next : ℕ) (windows outputs : List (List ℤ)) (word : ℕ) → stored_in s' ≡ delivered net (stored_in s) b k next windows outputs word → s'.handed ≡ s.handed →
    spans_of s' ≡ spans_of s
spans_delivered net s s' b k next windows outputs word stored handed =
    let firsts : firsts_of (stored_in s') ≡ firsts_of (stored_in s) = ap firsts_of stored ∙ collected_keeps (stored_in s) b (input windows 0) (tags_within k next (get_or (tags_waiting net (stored_in s) b) 0 [])) (is_keeper (role_at net b)) in
    let limits : map (λ (x : Intake). x.longest) s'.handed.items ≡ map (λ (x : Intake). x.longest) s.handed.items = ap (λ (v : Vec Intake Global). map (λ (x : Intake). x.longest) v.items) handed in
    let owners : map (λ (x : Intake). is_own x.tape) s'.handed.items ≡ map (λ (x : Intake). is_own x.tape) s.handed.items = ap (λ (v : Vec Intake Global). map (λ (x : Intake). is_own x.tape) v.items) handed in
    (λ i. record { firsts = firsts i; longest = limits i; own = owners i })

-- nothing of what blocks were handed is forgotten
pub handed_whole : (s : Stores) → ForgetsNone (firsts_of (stored_in s)) → (hs : List Intake) → hs ≡ s.handed.items → All IsWhole hs
handed_whole s none hs is = λ k d lt.
    let timelines : All (λ n. n ≡ 0) (map settings_from (map (λ (h : Intake). h.timeline) hs)) = subst (λ xs. All (λ n. n ≡ 0) (map settings_from (map (λ (h : Intake). h.timeline) xs))) (sym is) none.settings in
    let many : k < length (map (λ (h : Intake). h.timeline) hs) = rw (length-map hs (λ (h : Intake). h.timeline)) lt in
    let tapes : All (λ n. n ≡ 0) (map (λ (t : Tape). t.from) (map tape_of hs)) = subst (λ xs. All (λ n. n ≡ 0) (map (λ (t : Tape). t.from) (map tape_of xs))) (sym is) none.tapes in
    let wide : k < length (map tape_of hs) = rw (length-map hs tape_of) lt in
    record {
      tape = sym (ap (λ (t : Tape). t.from) (get_or-map tape_of hs k d no_tape lt))
          ∙ sym (get_or-map (λ (t : Tape). t.from) (map tape_of hs) k no_tape 0 wide)
          ∙ tapes k 0 (rw (length-map (map tape_of hs) (λ (t : Tape). t.from)) wide);
      settings = sym (ap settings_from (get_or-map (λ (h : Intake). h.timeline) hs k d None lt))
          ∙ sym (get_or-map settings_from (map (λ (h : Intake). h.timeline) hs) k None 0 many)
          ∙ timelines k 0 (rw (length-map (map (λ (h : Intake). h.timeline) hs) settings_from) many);
    }
