-- What a plant keeps stays true as the claim in flight of a block is given up.
use Rattle.std.proofs.Common.{◌≡◌, ℕ, ◌<◌, Bool, true, false, List, length, refl, ap, sym, ◌∙◌, subst, get_or-set_same, get_or-set_other, inl, inr, arith}
use Rattle.std.proofs.lemmas.Bool.{cases_eq, cond-true, cond-false}
use Rattle.stream_model.specs.Network.{Network, Progress, State, no_progress, progress_at}
use Rattle.stream_model.specs.Machine as machine
use Rattle.stream_model.specs.Machine.{Capacities, Job, Reply, next, is_in_flight, abandon_of, Refused}
use Rattle.stream_laws.specs.CanRun.{CanRun}
use Rattle.graph_model.specs.Gains.{AreWithinGain}
use Rattle.machine_laws.specs.Sound.{Sound}
use Rattle.machine_laws.proofs.Sounds.{calls_keep_sound}
use Rattle.firing_rules.specs.Firings.{abandoned}
use Rattle.plant_laws.specs.Holds.{Holds}
use Rattle.plant_laws.proofs.Handing.{abandoning_holds}
use Rattle.plant_storage.specs.declared.stores.Stores.{Stores}
use Rattle.plant_storage.specs.Stores.{state_of, stored_in}
use Rattle.plant_storage.specs.Lending.{HasRoom}
use Rattle.plant.specs.Plant.{PlantState, Keeps, without_claim}
use Rattle.plant.proofs.Limits.{gain_stays}

-- a job that is not in flight is refused
pub abandon_refused : {B J : Type 0} (x : PlantState B) (back : J) (net : Network) (own : Bool) (job : Job) → is_in_flight net x.state own job ≡ false →
    ((abandon_of net x.state own job).0 ≡ Refused machine.foreign) × (back ≡ back) × (x ≡ x)
unfolding abandon_of
abandon_refused x back net own job not = (ap (λ (r : Reply × State). r.0) (cond-false (is_in_flight net x.state own job) _ _ not), refl, refl)

-- the answer to one in flight
abandons : (net : Network) (st : State) (own : Bool) (job : Job) → is_in_flight net st own job ≡ true → abandon_of net st own job ≡ (machine.Abandoned, without_claim st job.block)
unfolding abandon_of
abandons net st own job is = cond-true (is_in_flight net st own job) _ _ is

pub abandon_taken : {B : Type 0} (old : PlantState B) (net : Network) (own : Bool) (job : Job) (b : ℕ) (ps : List Progress) → is_in_flight net old.state own job ≡ true → b ≡ job.block →
    ps ≡ abandoned old.state.progress b →
    ((abandon_of net old.state own job).0 ≡ machine.Abandoned) × ((let y : PlantState B = record old { state = record { handed = old.state.handed; progress = ps } } in y) ≡ record old { state = (abandon_of net old.state own job).1 })
abandon_taken {B} old net own job b ps is block progress =
    let answer = abandons net old.state own job is in (
      ap (λ (r : Reply × State). r.0) answer,
      ap (λ qs. (let y : PlantState B = record old { state = record { handed = old.state.handed; progress = qs } } in y)) (progress ∙ ap (abandoned old.state.progress) block)
          ∙ ap (λ (r : Reply × State). (let y : PlantState B = record old { state = r.1 } in y)) (sym answer),
    )

module _ (net : Network) (caps : Capacities) (s : Stores) (ps : List Progress) (keeps : Keeps net caps s ps) (can : CanRun net) (own : Bool) (job : Job)
    (is : is_in_flight net (state_of s.handed.items ps) own job ≡ true) (inside : job.block < length net.nodes) where
  abbrev st : State
  st = state_of s.handed.items ps

  there : (next net caps st (machine.Abandon own job)).1 ≡ without_claim st job.block
  there = ap (λ (r : Reply × State). r.1) (abandons net st own job is)

  stored : Holds net caps (without_claim st job.block) (stored_in s)
  stored =
      subst (λ x. Holds net caps x (stored_in s)) there
      (abandoning_holds net caps st (stored_in s) can keeps.sound keeps.stored own job (ap (λ (r : Reply × State). r.0) (abandons net st own job is)))

  none_left : (a : ℕ) → a ≡ job.block → 0 < (progress_at (abandoned ps job.block) a).claimed → ⊥
  none_left a e claimed =
      let here : (progress_at (abandoned ps job.block) a).claimed ≡ 0 = ap (λ c. (progress_at (abandoned ps job.block) c).claimed) e
      ∙ ap (λ (p : Progress). p.claimed) (get_or-set_same ps job.block _ no_progress (rw keeps.sound.progress_count inside)) in
      omega arith

  room_left : (a : ℕ) → a < length net.nodes → (a ≡ job.block → ⊥) → 0 < (progress_at (abandoned ps job.block) a).claimed →
      HasRoom net s a (progress_at (abandoned ps job.block) a).firings (progress_at (abandoned ps job.block) a).claimed
  room_left a in'' ne claimed =
      let was : progress_at (abandoned ps job.block) a ≡ progress_at ps a = get_or-set_other ps job.block a _ no_progress ne in
      subst (λ (p : Progress). HasRoom net s a p.firings p.claimed) (sym was) (keeps.room a in'' (subst (λ (p : Progress). 0 < p.claimed) was claimed))

  here : Keeps net caps s (abandoned ps job.block)
  here = record {
    sound = subst (Sound net caps) there (calls_keep_sound net caps st can keeps.sound (machine.Abandon own job));
    gain = subst (λ (x : State). AreWithinGain net x.handed) there (gain_stays net caps st (machine.Abandon own job) keeps.gain);
    stored = stored;
    room = λ a in'' claimed. elim (cases_eq a job.block) [
      | inl e ↦ absurd (none_left a e claimed)
      | inr ne ↦ room_left a in'' ne claimed
    ];
  }

  pub keeps_abandoned : (b : ℕ) (qs : List Progress) → b ≡ job.block → qs ≡ abandoned ps b → Keeps net caps s qs
  keeps_abandoned b qs block progress = subst (Keeps net caps s) (sym (progress ∙ ap (abandoned ps) block)) here
