-- What a plant keeps stays true as the claim in flight of a block is committed.
use Rattle.std.proofs.Common.{◌≡◌, ℕ, ℤ, ◌<◌, ◌+◌, List, map, length, refl, arith, ap, sym, ◌∙◌, subst, true, inl, inr, get_or-set_same, Vec, Global}
use Rattle.std.proofs.lemmas.Bool.{cases_eq, cond-true}
use Rattle.stream_model.specs.Network.{Network, Progress, State, no_progress, progress_at}
use Rattle.stream_model.specs.Machine as machine
use Rattle.stream_model.specs.Machine.{Capacities, Call, Reply, job_of, next, is_in_flight, commit_of}
use Rattle.graph_model.specs.Graphs.{IsValidGraph}
use Rattle.stream_laws.specs.CanRun.{CanRun}
use Rattle.graph_model.specs.Gains.{AreWithinGain}
use Rattle.machine_laws.specs.Sound.{Sound}
use Rattle.machine_laws.specs.Stays.{in_flight}
use Rattle.machine_laws.proofs.Sounds.{calls_keep_sound}
use Rattle.items.specs.declared.stream_items.Items.{Items}
use Rattle.items.specs.Items.{numbers_of}
use Rattle.firing_rules.specs.Firings.{committed}
use Rattle.plant_laws.specs.Holds.{Holds}
use Rattle.plant_laws.specs.Calls.{IsWorked}
use Rattle.plant_laws.proofs.Committing.{committing_holds}
use Rattle.plant_storage.specs.declared.intake.Intake.{Intake}
use Rattle.plant_storage.specs.declared.stores.Stores.{Stores}
use Rattle.plant_storage.specs.Stores.{state_of, stored_in}
use Rattle.plant_storage.specs.Lending.{HasRoom, KeepsRoom}
use Rattle.plant_storage.specs.Delivery.{CanDeliver, delivered}
use Rattle.plant_storage.proofs.Deliverable.{can_deliver}
use Rattle.plant_storage.proofs.Delivered.{delivered_is_committed}
use Rattle.plant_storage.proofs.Flights.{flight_was, flight_room-other}
use Rattle.plant.proofs.InFlight.{flight_decides}
use Rattle.plant.specs.Plant.{Keeps, IsFlight, IsItsWork, with_claim_done}
use Rattle.plant.proofs.Limits.{gain_stays}

module _ (net : Network) (caps : Capacities) (s : Stores) (ps : List Progress) (b : ℕ) (in' : b < length net.nodes) (some : 0 < (progress_at ps b).claimed) where
  abbrev st : State
  st = state_of s.handed.items ps

  -- the commit of the claim in flight
  abbrev call : Call
  call = machine.Commit true (in_flight net st b)

  pub commits : next net caps st call ≡ (machine.Did (progress_at ps b).claimed, with_claim_done st b)
  unfolding commit_of job_of
  commits =
      cond-true (is_in_flight net st true (in_flight net st b)) _ _
      ((flight_decides net s ps (in_flight net st b) true in' refl).1 (record { some = some; same = refl }))

  module _ (can : CanRun net) (sound : Sound net caps st) (holds : Holds net caps st (stored_in s)) (windows outputs : List (List ℤ)) (word : ℕ) (windows_are : windows ≡ (in_flight net st b).windows)
      (worked : IsWorked net st b outputs word) where
    -- what is stored after it
    delivered_holds : Holds net caps (next net caps st call).1 (delivered net (stored_in s) b (progress_at ps b).firings ((progress_at ps b).firings + (progress_at ps b).claimed) windows outputs word)
    unfolding job_of
    delivered_holds =
        let job = in_flight net st b in
        subst (Holds net caps (next net caps st call).1)
        (sym (delivered_is_committed net caps st (stored_in s) holds job b (progress_at ps b).firings (progress_at ps b).claimed windows outputs word in' refl refl refl (sym windows_are)))
        (committing_holds net caps st (stored_in s) can sound holds true job (progress_at ps b).claimed outputs word worked (ap (λ (r : Reply × State). r.0) commits))

module _ (net : Network) (caps : Capacities) (s : Stores) (ps : List Progress) (keeps : Keeps net caps s ps) (b first count : ℕ)
    (flight : IsFlight net (state_of s.handed.items ps) b first count) (windows outputs : List Items) (word : ℕ) (work : IsItsWork net (state_of s.handed.items ps) b windows outputs word) where
  abbrev before : State
  before = state_of s.handed.items ps

  abbrev own : Call
  own = machine.Commit true (in_flight net before b)

  some_claimed : 0 < (progress_at ps b).claimed
  some_claimed = let are = flight.count_is in let more = flight.some in omega arith

  -- the work of the claim can be stored
  pub can_commit : (names : List (List ℕ)) → CanRun net → IsValidGraph names net → CanDeliver net s b first count windows outputs
  can_commit names can valid =
      subst (λ k. CanDeliver net s b k count windows outputs) (sym flight.first_is)
      (subst (λ c. CanDeliver net s b (progress_at ps b).firings c windows outputs) (sym flight.count_is)
      (can_deliver names net can valid caps before keeps.sound keeps.gain b flight.inside some_claimed s keeps.stored outputs word work.worked work.given_types windows work.taken work.taken_types (keeps.room b flight.inside some_claimed)))

  module _ (can : CanRun net) (s' : Stores) (ps' : List Progress)
      (stored : stored_in s' ≡ delivered net (stored_in s) b first (first + count) (map numbers_of windows) (map numbers_of outputs) word) (handed : s'.handed ≡ s.handed) (room : KeepsRoom net b s s')
      (progress : ps' ≡ committed ps b) where
    handed_items : s'.handed.items ≡ s.handed.items
    handed_items = ap (λ (hs : Vec Intake Global). hs.items) handed

    there : (next net caps before own).1 ≡ state_of s'.handed.items ps'
    there =
        ap (λ (r : Reply × State). r.1) (commits net caps s ps b flight.inside some_claimed)
        ∙ ap (λ hs. state_of hs (committed ps b)) (sym handed_items)
        ∙ ap (state_of s'.handed.items) (sym progress)

    stored_then : Holds net caps (next net caps before own).1 (stored_in s')
    stored_then =
        subst (Holds net caps (next net caps before own).1)
        (sym (stored
        ∙ ap (λ k. delivered net (stored_in s) b k (k + count) (map numbers_of windows) (map numbers_of outputs) word) flight.first_is
        ∙ ap (λ c. delivered net (stored_in s) b (progress_at ps b).firings ((progress_at ps b).firings + c) (map numbers_of windows) (map numbers_of outputs) word) flight.count_is))
        (delivered_holds net caps s ps b flight.inside some_claimed can keeps.sound keeps.stored (map numbers_of windows) (map numbers_of outputs) word work.taken work.worked)

    -- block b has no claim any longer
    none_left : (a : ℕ) → a ≡ b → 0 < (progress_at ps' a).claimed → ⊥
    none_left a e claimed =
        let here : (progress_at ps' a).claimed ≡ 0 = ap (λ qs. (progress_at qs a).claimed) progress ∙ ap (λ c. (progress_at (committed ps b) c).claimed) e
        ∙ ap (λ (p : Progress). p.claimed) (get_or-set_same ps b _ no_progress (rw keeps.sound.progress_count flight.inside)) in
        omega arith

    -- and a claim of another has the room that it had
    room_left : (a : ℕ) → a < length net.nodes → (a ≡ b → ⊥) → 0 < (progress_at ps' a).claimed → HasRoom net s' a (progress_at ps' a).firings (progress_at ps' a).claimed
    room_left a in'' ne claimed =
        let now : (next net caps before own).1.progress ≡ ps' = ap (λ (x : State). x.progress) there in
        let later : 0 < (progress_at (next net caps before own).1.progress a).claimed = subst (λ qs. 0 < (progress_at qs a).claimed) (sym now) claimed in
        let was : 0 < (progress_at ps a).claimed = subst (λ (p : Progress). 0 < p.claimed) (flight_was net can caps before keeps.sound a own refl later) later in
        subst (λ qs. HasRoom net s' a (progress_at qs a).firings (progress_at qs a).claimed) now
        (flight_room-other net can caps before keeps.sound a in'' own refl later s s' keeps.stored stored_then b ne room (keeps.room a in'' was))

    pub keeps_committed : Keeps net caps s' ps'
    keeps_committed = record {
      sound = subst (Sound net caps) there (calls_keep_sound net caps before can keeps.sound own);
      gain = subst (λ (x : State). AreWithinGain net x.handed) there (gain_stays net caps before own keeps.gain);
      stored = subst (λ x. Holds net caps x (stored_in s')) there stored_then;
      room = λ a in'' claimed. elim (cases_eq a b) [
        | inl e ↦ absurd (none_left a e claimed)
        | inr ne ↦ room_left a in'' ne claimed
      ];
    }
