-- What a plant keeps stays true as a block is handed something.
use Rattle.std.proofs.Common.{◌≡◌, ℕ, ℤ, zero, suc, ◌<◌, ◌≤◌, ◌+◌, List, ◌++◌, [], ◌∷◌, map, length, get_or, set, refl, arith, ap, sym, ◌∙◌, subst, true, false, Some, Ok, Err}
use Rattle.plant_storage.specs.SourceTapes.{tape_in}
use Rattle.std.proofs.lemmas.List.{map-set, length-map}
use Rattle.std.proofs.Math.Seq.{map-set_same}
use Rattle.stream_model.specs.Network as model
use Rattle.stream_model.specs.Network.{Network, Progress, State, handed_at, is_source, progress_at, nothing_handed, role_at}
use Rattle.stream_model.specs.Machine as machine
use Rattle.stream_model.specs.declared.vocabulary.ItemType.{ItemType}
use Rattle.stream_model.specs.Numbers.{types_agree}
use Rattle.stream_model.specs.Tags.{Mark}
use Rattle.stream_model.specs.Machine.{Capacities, Call, Reply, next, with_handed, with_tape, close_of, feed_of}
use Rattle.plant_laws.proofs.Handing.{feeding_holds, closing_holds}
use Rattle.stream_laws.specs.CanRun.{CanRun}
use Rattle.graph_model.specs.Gains.{AreWithinGain, most_grown}
use Rattle.machine_laws.specs.Sound.{Sound}
use Rattle.machine_laws.proofs.Bounding.{alone_fits}
use Rattle.machine_laws.proofs.Sounds.{calls_keep_sound}
use Rattle.firing_rules.specs.declared.progress.Tape.{Tape}
use Rattle.firing_rules.specs.State as firings
use Rattle.plant_laws.specs.Stored as stored
use Rattle.plant_laws.specs.Stored.{Stored}
use Rattle.tags.specs.TagList.{insert_tags}
use Rattle.plant_laws.specs.Holds.{Holds}
use Rattle.plant_storage.specs.declared.intake.Intake.{Intake}
use Rattle.plant_storage.specs.Stores.{handed_of, tape_of, state_of, stored_in, rows_in, IsFed, IsAsBefore}
use Rattle.plant_storage.specs.declared.stores.Stores.{Stores}
use Rattle.plant_storage.specs.Stores.{stored_of}
use Rattle.stream_model.specs.Tags.{tags_within}
use Rattle.plant_laws.specs.Changes.{tags_waiting}
use Rattle.plant_storage.specs.Lending.{HasRoom, KeepsAllRoom, sink_state}
use Rattle.plant_storage.proofs.Rooms.{room_stays}
use Rattle.plant_laws.proofs.Flying.{flights_keep_tags}
use Rattle.plant.specs.Plant.{PlantState, Keeps}
use Rattle.plant.specs.Answers.{refusal_of}
use Rattle.plant.specs.Feeding.{length_with}
use Rattle.plant_faults.specs.declared.fault.PlantFault.{PlantFault}
use Rattle.plant.proofs.Limits.{gain_stays}
use Rattle.plant.proofs.Refusals.{IsSource, close-again, close-open, feed-stopped, feed-fits}

-- of all that is stored, only what block b was handed is another
pub record IsHanded (s s' : Stores) (b : ℕ) (h : Intake) : Type 0 where
  pub handed : s'.handed.items ≡ set s.handed.items b h
  pub words : s'.words ≡ s.words
  pub buffers : s'.buffers ≡ s.buffers
  pub sinks : s'.sinks ≡ s.sinks
  pub brought : s'.brought ≡ s.brought

-- then this is stored
pub stored_then : (s s' : Stores) (b : ℕ) (h : Intake) → IsHanded s s' b h → stored_in s' ≡ stored_of (set s.handed.items b h) s.words.items (rows_in s) s.sinks.items
stored_then s s' b h is = rw (is.handed, is.words, is.buffers, is.sinks) refl

pub room_handed : (s s' : Stores) (b : ℕ) (h : Intake) → IsHanded s s' b h → KeepsAllRoom s s'
room_handed s s' b h is = record {
  buffers = λ a p. rw is.buffers (omega arith);
  brought = rw is.brought (omega arith);
  sinks = λ a. rw is.sinks (omega arith, omega arith);
}

-- there is as much room as before
pub room_same : (net : Network) (s s' : Stores) (b : ℕ) (h : Intake) → IsHanded s s' b h → stored_in s' ≡ stored_in s → (a k c : ℕ) → HasRoom net s a k c → HasRoom net s' a k c
room_same net s s' b h is same a k c room = record {
  tags = λ p used. rw (same, is.buffers) (room.tags p used);
  brought = λ p used. rw (same, is.brought) (room.brought p used);
  sink_items = λ keeper. rw (is.sinks) (room.sink_items keeper);
  sink_tags = λ keeper. subst (λ x. length (tags_within k (k + c) (get_or (tags_waiting net x a) 0 [])) ≤ (sink_state s' a).spare_tags) (sym same) (rw is.sinks (room.sink_tags keeper));
}

-- answers that leave the plant as it is, and answers that move it
pub stays : {B : Type 0} (now : Reply × State) (x : PlantState B) (r : Reply) → now ≡ (r, x.state) → (r ≡ now.0) × (x ≡ record x { state = now.1 })
stays now x r e = rw e (refl, refl)

-- what each place of a mapped list reads as
pub mapped_at : {X Y : Type 0} (f : X → Y) (xs : List X) (k : ℕ) (x : X) (y : Y) → k < length xs → get_or (map f xs) k y ≡ f (get_or xs k x)
mapped_at f [] k x y lt = absurd (omega arith)
mapped_at f (z ∷ zs) zero x y lt = refl
mapped_at f (z ∷ zs) (suc k) x y lt = mapped_at f zs k x y (omega arith)

module _ (net : Network) (caps : Capacities) (can : CanRun net) (s : Stores) (ps : List Progress) (keeps : Keeps net caps s ps) where
  pub handed_long : length s.handed.items ≡ length net.nodes
  handed_long = sym (length-map s.handed.items handed_of) ∙ keeps.sound.handed_count

  module _ (b : ℕ) (in' : b < length net.nodes) where
    in-handed : b < length s.handed.items
    in-handed = rw handed_long in'

    pub handed_here : (d : Intake) → handed_at (map handed_of s.handed.items) b ≡ handed_of (get_or s.handed.items b d)
    handed_here d = mapped_at handed_of s.handed.items b d nothing_handed in-handed

    -- the tape that firings look at
    pub counted : (h : Intake) (t : Tape) → h ≡ get_or s.handed.items b h → t ≡ firings.tape_of (handed_of h) → t ≡ firings.tape_of (handed_at (map handed_of s.handed.items) b)
    counted h t h_is is = is ∙ ap firings.tape_of (ap handed_of h_is ∙ sym (handed_here h))

    pub state_with : (h : Intake) → state_of (set s.handed.items b h) ps ≡ with_handed (state_of s.handed.items ps) b (handed_of h)
    state_with h = rw (map-set handed_of s.handed.items b h) refl

    pub stored_here : (h : Intake) → h ≡ get_or s.handed.items b h → tape_of h ≡ stored.tape_at (stored_in s) b
    stored_here h h_is = ap tape_of h_is ∙ sym (mapped_at tape_of s.handed.items b h stored.no_tape in-handed)

    stored_with : (h d : Intake) → h.timeline ≡ (get_or s.handed.items b d).timeline →
        stored_of (set s.handed.items b h) s.words.items (rows_in s) s.sinks.items ≡ record (stored_in s) { tapes = set (map tape_of s.handed.items) b (tape_of h) }
    stored_with h d e = rw (map-set tape_of s.handed.items b h, map-set_same (λ (x : Intake). x.timeline) s.handed.items b h d e) refl

    -- after a call that handed the block something, where the law of the call speaks of what is stored now
    pub keeps_moved : (call : Call) (h : Intake) (s' : Stores) (after : Stored) → (next net caps (state_of s.handed.items ps) call).1 ≡ with_handed (state_of s.handed.items ps) b (handed_of h) →
        Holds net caps (next net caps (state_of s.handed.items ps) call).1 after → after ≡ stored_of (set s.handed.items b h) s.words.items (rows_in s) s.sinks.items → IsHanded s s' b h →
        Keeps net caps s' ps
    keeps_moved call h s' after moved holds is handed =
        let there : (next net caps (state_of s.handed.items ps) call).1 ≡ state_of s'.handed.items ps = moved ∙ sym (state_with h) ∙ ap (λ x. state_of x ps) (sym handed.handed) in
        let here : after ≡ stored_in s' = is ∙ sym (stored_then s s' b h handed) in
        record {
          sound = subst (Sound net caps) there (calls_keep_sound net caps (state_of s.handed.items ps) can keeps.sound call);
          gain = subst (λ (st : State). AreWithinGain net st.handed) there (gain_stays net caps (state_of s.handed.items ps) call keeps.gain);
          stored = subst (Holds net caps (state_of s'.handed.items ps)) here (subst (λ st. Holds net caps st after) there holds);
          room = λ a in'' claimed.
              room_stays net can s s' a (progress_at ps a).firings (progress_at ps a).claimed
              (flights_keep_tags net caps (state_of s.handed.items ps) (stored_in s) can keeps.sound keeps.stored call (stored_in s') a in'' claimed
              (ap (λ (st : State). (progress_at st.progress a).firings) there) (ap (λ (st : State). (progress_at st.progress a).claimed) there)
              (subst (Holds net caps (next net caps (state_of s.handed.items ps) call).1) here holds))
              (keeps.room a in'' claimed) (room_handed s s' b h handed);
        }

    -- and how long it may come to be
    pub limited : (h : Intake) → h ≡ get_or s.handed.items b h → h.longest ≡ (handed_at (map handed_of s.handed.items) b).longest
    limited h h_is = ap (λ (x : Intake). x.longest) h_is ∙ sym (ap (λ (x : model.Handed). x.longest) (handed_here h))

    -- the tape that firings look at is the block's
    module _ (t : Tape) (t_is : t ≡ firings.tape_of (handed_at (map handed_of s.handed.items) b)) where
      closed_is : (handed_at (map handed_of s.handed.items) b).closed ≡ t.closed
      closed_is = ap (λ (x : Tape). x.closed) (sym t_is)

      pub length_is : length (handed_at (map handed_of s.handed.items) b).tape ≡ t.length
      length_is = ap (λ (x : Tape). x.length) (sym t_is)

      pub tape_within : t.length ≤ (handed_at (map handed_of s.handed.items) b).longest
      tape_within = rw (← length_is) (keeps.sound.handed b in').short

      pub tape_short : is_source (role_at net b) ≡ true → t.length ≤ most_grown
      tape_short source =
          let few = alone_fits net can b (handed_at (map handed_of s.handed.items) b).longest in' (keeps.gain b in' source) in
          let within = tape_within in
          omega (arith, few, within)

      module _ (item : ItemType) (source : IsSource net b item) where
        pub close_again : t.closed ≡ true → close_of net (state_of s.handed.items ps) b ≡ (machine.Refused machine.already_closed, state_of s.handed.items ps)
        close_again closed = close-again net (state_of s.handed.items ps) b item source (closed_is ∙ closed)

        module _ (n : ℕ) (n_is : n ≡ (handed_at (map handed_of s.handed.items) b).longest) (ty : ItemType) (xs : List ℤ) (ms : List Mark) (typed : types_agree ty item ≡ true) where
          asked : length_with (firings.tape_of (handed_at (map handed_of s.handed.items) b)) (handed_at (map handed_of s.handed.items) b).longest (length xs) ms ≡ length_with t n (length xs) ms
          asked = ap (λ x. length_with x (handed_at (map handed_of s.handed.items) b).longest (length xs) ms) (sym t_is) ∙ ap (λ k. length_with t k (length xs) ms) (sym n_is)

          pub feed_stopped : (e : PlantFault) → length_with t n (length xs) ms ≡ Err e →
              (refusal_of e ≡ Some (feed_of net (state_of s.handed.items ps) b ty xs ms).0) × ((feed_of net (state_of s.handed.items ps) b ty xs ms).1 ≡ state_of s.handed.items ps)
          feed_stopped e h = feed-stopped net (state_of s.handed.items ps) b item source ty xs ms typed e (asked ∙ h)

          module _ (total : ℕ) (fits : length_with t n (length xs) ms ≡ Ok total) where
            pub feed_now : feed_of net (state_of s.handed.items ps) b ty xs ms ≡ (machine.Fed total, with_handed (state_of s.handed.items ps) b (with_tape (handed_at (map handed_of s.handed.items) b) b xs ms))
            feed_now = feed-fits net (state_of s.handed.items ps) b item source ty xs ms typed total (asked ∙ fits)

            module _ (h h' : Intake) (h_is : h ≡ get_or s.handed.items b h) (fed : IsFed b xs ms h h') where
              moves : with_tape (handed_at (map handed_of s.handed.items) b) b xs ms ≡ handed_of h'
              moves = ap (λ x. with_tape x b xs ms) (handed_here h ∙ ap handed_of (sym h_is)) ∙ sym fed.handed

              pub feeds : feed_of net (state_of s.handed.items ps) b ty xs ms ≡ (machine.Fed total, state_of (set s.handed.items b h') ps)
              feeds = feed_now ∙ ap (λ x. (machine.Fed total, with_handed (state_of s.handed.items ps) b x)) moves ∙ ap (λ x. (machine.Fed total, x)) (sym (state_with h'))

              pub keeps_fed : (s' : Stores) → IsHanded s s' b h' → Keeps net caps s' ps
              keeps_fed s' handed =
                  keeps_moved (machine.Feed b ty xs ms) h' s' _ (ap (λ (now : Reply × State). now.1) feeds ∙ state_with h')
                  (feeding_holds net caps (state_of s.handed.items ps) (stored_in s) can keeps.sound keeps.stored b ty xs ms total (ap (λ (now : Reply × State). now.0) feeds))
                  (sym (stored_with h' h (fed.timeline ∙ ap (λ (x : Intake). x.timeline) h_is)
                  ∙ ap (λ x. record (stored_in s) { tapes = set (map tape_of s.handed.items) b x })
                  (fed.tape ∙ ap (λ (x : stored.Tape). record x { items = x.items ++ xs; tags = insert_tags (map (machine.tag_of b) ms) x.tags }) (stored_here h h_is))))
                  handed

        module _ (h : Intake) (h_is : h ≡ get_or s.handed.items b h) (open' : t.closed ≡ false) where
          here : handed_at (map handed_of s.handed.items) b ≡ handed_of h
          here = handed_here h ∙ ap handed_of (sym h_is)

          pub closes : close_of net (state_of s.handed.items ps) b ≡ (machine.Closed t.length, state_of (set s.handed.items b (record h { closed = true })) ps)
          closes =
              close-open net (state_of s.handed.items ps) b item source (closed_is ∙ open')
              ∙ ap (λ n. (machine.Closed n, with_handed (state_of s.handed.items ps) b (record (handed_at (map handed_of s.handed.items) b) { closed = true }))) length_is
              ∙ ap (λ (x : model.Handed). (machine.Closed t.length, with_handed (state_of s.handed.items ps) b (record x { closed = true }))) here
              ∙ ap (λ x. (machine.Closed t.length, x)) (sym (state_with (record h { closed = true })))

          pub keeps_closed : (s' : Stores) → IsHanded s s' b (record h { closed = true }) → Keeps net caps s' ps
          keeps_closed s' handed =
              keeps_moved (machine.Close b) (record h { closed = true }) s' _ (ap (λ (now : Reply × State). now.1) closes ∙ state_with (record h { closed = true }))
              (closing_holds net caps (state_of s.handed.items ps) (stored_in s) can keeps.sound keeps.stored b t.length (ap (λ (now : Reply × State). now.0) closes))
              (sym (stored_with (record h { closed = true }) h (ap (λ (x : Intake). x.timeline) h_is)
              ∙ ap (λ (x : stored.Tape). record (stored_in s) { tapes = set (map tape_of s.handed.items) b (record x { closed = true }) }) (stored_here h h_is)))
              handed

    pub item_is : (h : Intake) (item : ItemType) → h ≡ get_or s.handed.items b h → IsSource net b item → (tape_in h.tape).item ≡ item
    item_is h item h_is source = ap (λ (x : stored.Tape). x.item) (stored_here h h_is) ∙ (keeps.stored.tapes b in' source.source).type ∙ source.type

    -- where nothing that was handed to the block changed
    module _ (h h' : Intake) (h_is : h ≡ get_or s.handed.items b h) (same : IsAsBefore h h') where
      pub state_same : state_of (set s.handed.items b h') ps ≡ state_of s.handed.items ps
      state_same = ap (λ x. (let y : State = record { handed = x; progress = ps } in y)) (map-set_same handed_of s.handed.items b h' h (same.handed ∙ ap handed_of h_is))

      stored_same : stored_of (set s.handed.items b h') s.words.items (rows_in s) s.sinks.items ≡ stored_in s
      stored_same =
          rw (map-set_same tape_of s.handed.items b h' h (same.tape ∙ ap tape_of h_is), map-set_same (λ (x : Intake). x.timeline) s.handed.items b h' h (same.timeline ∙ ap (λ (x : Intake). x.timeline) h_is)) refl

      pub keeps_same : (s' : Stores) → IsHanded s s' b h' → Keeps net caps s' ps
      keeps_same s' handed =
          let there : state_of s'.handed.items ps ≡ state_of s.handed.items ps = ap (λ x. state_of x ps) handed.handed ∙ state_same in
          let stays : stored_in s' ≡ stored_in s = stored_then s s' b h' handed ∙ stored_same in
          record {
            sound = subst (Sound net caps) (sym there) keeps.sound;
            gain = subst (λ (st : State). AreWithinGain net st.handed) (sym there) keeps.gain;
            stored = subst (λ x. Holds net caps (state_of s'.handed.items ps) x) (sym stays) (subst (λ st. Holds net caps st (stored_in s)) (sym there) keeps.stored);
            room = λ a in'' claimed. room_same net s s' b h' handed stays a (progress_at ps a).firings (progress_at ps a).claimed (keeps.room a in'' claimed);
          }
