-- A block's setting: why it is refused, what it makes, and that what a plant keeps stays true.
use Rattle.std.proofs.Common.{◌≡◌, ℕ, ◌<◌, ◌≤◌, ◌+◌, ◌*◌, List, map, length, get_or, set, refl, ap, sym, ◌∙◌, subst, true, false, Bool, Option, Some, None, not, nat_lt, lt-ltb, le-ltb, ltb-true, if◌then◌else◌, arith}
use Rattle.std.proofs.lemmas.List.{map-set}
use Rattle.std.specs.Option.{unwrap_or}
use Rattle.std.specs.Prelude.{IsSome}
use Rattle.stream_model.specs.declared.vocabulary.Wanted.{Wanted}
use Rattle.stream_model.specs.declared.vocabulary.Role.{Role}
use Rattle.stream_model.specs.declared.vocabulary.Role.TheVariants.{Source, Work, Keep, Discard}
use Rattle.stream_model.specs.Settings.{Value, Held, put_setting}
use Rattle.stream_model.specs.Meaning.{Meaning, KeepsRole}
use Rattle.stream_model.specs.Network as model
use Rattle.stream_model.specs.Network.{Network, Progress, State, node_at, role_at, is_source, handed_at, progress_at, writers_of, taken_by}
use Rattle.stream_model.specs.Machine as machine
use Rattle.stream_model.specs.Machine.{Capacities, Reply, Refused, is_wanted, floor_of, place_setting, set_wanted, set_of, with_handed, next}
use Rattle.graph_model.specs.Graphs.{IsValidGraph}
use Rattle.stream_laws.specs.CanRun.{CanRun}
use Rattle.machine_laws.specs.Sound.{fired}
use Rattle.stream_model.proofs.Streams.{taken_by-rises}
use Rattle.machine_laws.specs.Bounds.{IsSmall}
use Rattle.machine_laws.proofs.Bounding.{counts_are_small}
use Rattle.std.specs.List.{Any}
use Rattle.settings.specs.Timelines.{held_at}
use Rattle.recordings.specs.Recent.{SettingsState}
use Rattle.plant_laws.specs.Stored.{timeline_at, settings_from}
use Rattle.plant_laws.specs.Calls.{TakesOneMore}
use Rattle.plant_laws.specs.Changes.{with_settings}
use Rattle.plant_laws.specs.Holds.{Holds}
use Rattle.plant_laws.proofs.Handing.{setting_holds}
use Rattle.plant_storage.specs.declared.intake.Intake.{Intake}
use Rattle.plant_storage.specs.declared.stores.Stores.{Stores}
use Rattle.plant_storage.specs.Stores.{handed_of, settings_in, state_of, stored_in, rows_in, IsSet}
use Rattle.plant_storage.proofs.Handing.{timeline_before, setting_before, stored_setting}
use Rattle.plant_faults.specs.declared.fault.PlantFault.{PlantFault}
use Rattle.plant_faults.specs.declared.fault.PlantFault.TheVariants.{NoSuchBlock, NotSource, NotSink, Closed, ItemRange, TagPlace, TapeFull, Late, NoSetting, WrongSetting, BeyondEnd, NoSuchPort, Memory}
use Rattle.plant.specs.Plant.{Keeps}
use Rattle.plant.specs.Answers.{refusal_of, takes_memory}
use Rattle.plant.specs.Setting.{unwanted, setting_fault}
use Rattle.plant.proofs.Moves.{IsHanded, keeps_moved, handed_here, handed_long}

pub same_product : (m m' f f' k k' : ℕ) → m ≡ m' → f ≡ f' → k ≡ k' → m * (f + k) ≡ m' * (f' + k')
same_product m m' f f' k k' em ef ek = rw (em, ef, ek) refl

-- a value that the block takes
pub record IsTaken (net : Network) (b : ℕ) (v : Value) : Type 0 where
  pub inside : b < length net.nodes
  pub wanted : Wanted
  pub has : (node_at net b).meaning.setting ≡ Some wanted
  pub fits : is_wanted wanted v ≡ true

fits_it : (yes : Bool) → ◌≡◌ {A = Option PlantFault} (if yes then None else Some WrongSetting) None → yes ≡ true
fits_it true h = refl
fits_it false h = absurd (cc)

wanted_by : (o : Option Wanted) (v : Value) → unwanted o v ≡ None → (w : Wanted) × (o ≡ Some w) × (is_wanted w v ≡ true)
wanted_by None v h = absurd (cc)
wanted_by (Some w) v h = (w, refl, fits_it (is_wanted w v) h)

accepted : (in' : Bool) (o : Option Wanted) (v : Value) → ◌≡◌ {A = Option PlantFault} (if not in' then Some NoSuchBlock else unwanted o v) None → (in' ≡ true) × (unwanted o v ≡ None)
accepted true o v h = (refl, h)
accepted false o v h = absurd (cc)

pub taken_there : (net : Network) (b : ℕ) (v : Value) → setting_fault net b v ≡ None → IsTaken net b v
taken_there net b v h =
    let is = accepted (nat_lt b (length net.nodes)) (node_at net b).meaning.setting v h in
    let w = wanted_by (node_at net b).meaning.setting v is.1 in
    record { inside = ltb-true b (length net.nodes) is.0; wanted = w.0; has = w.1; fits = w.2 }

wrong : (yes : Bool) (e : PlantFault) (st : State) (rest : Reply × State) → ◌≡◌ {A = Option PlantFault} (if yes then None else Some WrongSetting) (Some e) →
    let now = if not yes then (Refused machine.wrong_setting, st) else rest in
    (refusal_of e ≡ Some now.0) × (now.1 ≡ st)
wrong true e st rest h = absurd (cc)
wrong false e st rest h = let is : WrongSetting ≡ e = cc in rw (← is) (refl, refl)

refused : (in' : Bool) (o : Option Wanted) (e : PlantFault) (net : Network) (st : State) (b : ℕ) (at : Option ℕ) (v : Value) → ◌≡◌ {A = Option PlantFault} (if not in' then Some NoSuchBlock else unwanted o v) (Some e) →
    let now = if not in' then (Refused machine.no_such_block, st) else set_wanted net st b at v o in
    (refusal_of e ≡ Some now.0) × (now.1 ≡ st)
refused false o e net st b at v h = let is : NoSuchBlock ≡ e = cc in rw (← is) (refl, refl)
refused true None e net st b at v h = let is : NoSetting ≡ e = cc in rw (← is) (refl, refl)
refused true (Some w) e net st b at v h = wrong (is_wanted w v) e st _ h

module _ (net : Network) (st : State) (b : ℕ) (v : Value) where
  pub set-refused : (at : Option ℕ) (e : PlantFault) → setting_fault net b v ≡ Some e → (refusal_of e ≡ Some (set_of net st b at v).0) × ((set_of net st b at v).1 ≡ st)
  unfolding set_of
  set-refused at e h = refused (nat_lt b (length net.nodes)) (node_at net b).meaning.setting e net st b at v h

  module _ (is : IsTaken net b v) where
    set_is : (at : Option ℕ) (place : ℕ) → place ≡ unwrap_or at (floor_of net st b) → set_of net st b at v ≡ place_setting (floor_of net st b) st b place v
    unfolding set_of
    set_is None place e = let member = lt-ltb b (length net.nodes) is.inside in rw (e, member, is.has, is.fits) refl
    set_is (Some a) place e = let member = lt-ltb b (length net.nodes) is.inside in rw (e, member, is.has, is.fits) refl

    pub set-late : (at : Option ℕ) (place : ℕ) → place ≡ unwrap_or at (floor_of net st b) → place < floor_of net st b → set_of net st b at v ≡ (machine.Late (floor_of net st b), st)
    set-late at place e late = let below = lt-ltb place (floor_of net st b) late in set_is at place e ∙ rw below refl

    pub set-now : (at : Option ℕ) (place : ℕ) → place ≡ unwrap_or at (floor_of net st b) → floor_of net st b ≤ place →
        set_of net st b at v ≡ (machine.Taken place, with_handed st b (let s = handed_at st.handed b in record s { settings = put_setting (held_at place v) s.settings }))
    set-now at place e open' = let above = le-ltb place (floor_of net st b) open' in set_is at place e ∙ rw above refl

-- a block with a setting is no source
no_source : (m : Meaning) (r : Role) (w : Wanted) → KeepsRole m r → m.setting ≡ Some w → is_source r ≡ false
no_source m Source w keeps has = let none = keeps.plain.2 in absurd (cc)
no_source m Work w keeps has = refl
no_source m Keep w keeps has = refl
no_source m Discard w keeps has = refl

-- so it has an input
pub input_there : (net : Network) → CanRun net → (b : ℕ) (v : Value) → IsTaken net b v → 0 < length (writers_of net b)
input_there net can b v is = can.fed b is.inside (no_source (node_at net b).meaning (role_at net b) is.wanted (can.sound b).lawful.role is.has)

module _ (net : Network) (caps : Capacities) (can : CanRun net) (s : Stores) (ps : List Progress) (keeps : Keeps net caps s ps) where
  pub small : (names : List (List ℕ)) → IsValidGraph names net → (b : ℕ) → b < length net.nodes → IsSmall net (state_of s.handed.items ps) b
  small names valid b in' = counts_are_small names net caps (state_of s.handed.items ps) can valid keeps.gain keeps.sound b in'

  module _ (b : ℕ) (v : Value) (is : IsTaken net b v) (at : Option ℕ) (place : ℕ) (place_is : place ≡ unwrap_or at (floor_of net (state_of s.handed.items ps) b)) (open' : floor_of net (state_of s.handed.items ps) b ≤ place) where
    set_now : set_of net (state_of s.handed.items ps) b at v
        ≡ (machine.Taken place, with_handed (state_of s.handed.items ps) b (let h = handed_at (map handed_of s.handed.items) b in record h { settings = put_setting (held_at place v) h.settings }))
    set_now = set-now net (state_of s.handed.items ps) b v is at place place_is open'

    pub takes : takes_memory (set_of net (state_of s.handed.items ps) b at v).0 ≡ true
    takes = ap (λ (now : Reply × State). takes_memory now.0) set_now

    law : (old : SettingsState) × (timeline_at (stored_in s) b ≡ Some old)
        × ((new : SettingsState) → TakesOneMore old new (held_at place v) → Holds net caps (next net caps (state_of s.handed.items ps) (machine.Set b at v)).1 (with_settings (stored_in s) b new))
    law = setting_holds net caps (state_of s.handed.items ps) (stored_in s) can keeps.sound keeps.stored b at v place (ap (λ (now : Reply × State). now.0) set_now)

    in-handed : b < length s.handed.items
    in-handed = rw (handed_long net caps can s ps keeps) is.inside

    module _ (h : Intake) (h_is : h ≡ get_or s.handed.items b h) where
      pub has_timeline : IsSome h.timeline
      has_timeline = let there : h.timeline ≡ Some law.0 = sym (timeline_before s.handed.items b h in-handed h_is s.words.items (rows_in s) s.sinks.items) ∙ law.1 in rw there refl

      -- no item from the place on was read
      pub unread_there : settings_from h.timeline ≤ place
      unread_there =
          let before = timeline_before s.handed.items b h in-handed h_is s.words.items (rows_in s) s.sinks.items in
          let low : settings_from (timeline_at (stored_in s) b) ≤ taken_by (node_at net b) 0 (fired (state_of s.handed.items ps) b) = keeps.stored.unread b is.inside in
          let rises : taken_by (node_at net b) 0 (fired (state_of s.handed.items ps) b) ≤ floor_of net (state_of s.handed.items ps) b =
          taken_by-rises (node_at net b) (can.sound b) 0 (progress_at ps b).firings ((progress_at ps b).firings + (progress_at ps b).claimed) (omega arith) in
          subst (λ o. settings_from o ≤ place) before (omega (arith, low, rises, open'))

      -- where there is a setting of the place already, the block's timeline has it
      pub has_place : (other : ℕ) → (set_of net (state_of s.handed.items ps) b at v).0 ≡ machine.Taken other → Any (λ (x : Held). x.at ≡ other) (handed_at (map handed_of s.handed.items) b).settings →
          Any (λ (x : Held). x.at ≡ place) (settings_in h.timeline)
      has_place other is_taken has =
          let same : place ≡ other = the_place (sym (ap (λ (now : Reply × State). now.0) set_now) ∙ is_taken) in
          let here : (handed_at (map handed_of s.handed.items) b).settings ≡ settings_in h.timeline = ap (λ (x : model.Handed). x.settings) (handed_here net caps can s ps keeps b is.inside h ∙ ap handed_of (sym h_is)) in
          subst (λ n. Any (λ (x : Held). x.at ≡ n) (settings_in h.timeline)) (sym same) (subst (Any (λ (x : Held). x.at ≡ other)) here has)
        where
          the_place : {m n : ℕ} → machine.Taken m ≡ machine.Taken n → m ≡ n
          the_place e = cc

      module _ (h' : Intake) (made : IsSet (held_at place v) h h') where
        moves : with_handed (state_of s.handed.items ps) b (let x = handed_at (map handed_of s.handed.items) b in record x { settings = put_setting (held_at place v) x.settings }) ≡ with_handed (state_of s.handed.items ps) b (handed_of h')
        moves =
            ap (λ (x : model.Handed). with_handed (state_of s.handed.items ps) b (record x { settings = put_setting (held_at place v) x.settings }))
            (handed_here net caps can s ps keeps b is.inside h ∙ ap handed_of (sym h_is))
            ∙ ap (with_handed (state_of s.handed.items ps) b) (sym made.handed)

        pub sets : set_of net (state_of s.handed.items ps) b at v ≡ (machine.Taken place, state_of (set s.handed.items b h') ps)
        sets =
            set_now ∙ ap (λ (st : State). (let now : Reply × State = (machine.Taken place, st) in now)) (moves ∙ sym there)
          where
            there : state_of (set s.handed.items b h') ps ≡ with_handed (state_of s.handed.items ps) b (handed_of h')
            there = rw (map-set handed_of s.handed.items b h') refl

        own_is : law.0 ≡ made.timeline.before
        own_is =
            let one : timeline_at (stored_in s) b ≡ Some law.0 = law.1 in
            let other : timeline_at (stored_in s) b ≡ Some made.timeline.before = setting_before s.handed.items b h in-handed h_is s.words.items (rows_in s) s.sinks.items (held_at place v) h' made in
            cc

        pub keeps_set : (s' : Stores) → IsHanded s s' b h' → Keeps net caps s' ps
        keeps_set s' handed =
            keeps_moved net caps can s ps keeps b is.inside (machine.Set b at v) h' s' _ (ap (λ (now : Reply × State). now.1) set_now ∙ moves)
            (law.2 made.timeline.after (subst (λ x. TakesOneMore x made.timeline.after (held_at place v)) (sym own_is) made.timeline.more))
            (sym (stored_setting s.handed.items b h in-handed h_is s.words.items (rows_in s) s.sinks.items (held_at place v) h' made)) handed

-- a refusal is no setting that was made
pub refusal_sets_nothing : (e : PlantFault) (place : ℕ) → refusal_of e ≡ Some (machine.Taken place) → ⊥
refusal_sets_nothing NoSuchBlock place e = cc
refusal_sets_nothing NotSource place e = cc
refusal_sets_nothing NotSink place e = cc
refusal_sets_nothing Closed place e = cc
refusal_sets_nothing ItemRange place e = cc
refusal_sets_nothing TagPlace place e = cc
refusal_sets_nothing TapeFull place e = cc
refusal_sets_nothing (Late floor) place e = cc
refusal_sets_nothing NoSetting place e = cc
refusal_sets_nothing WrongSetting place e = cc
refusal_sets_nothing BeyondEnd place e = cc
refusal_sets_nothing NoSuchPort place e = cc
refusal_sets_nothing Memory place e = cc
