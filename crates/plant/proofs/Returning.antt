-- A job that is brought back is refused, or it is the claim in flight.
use Rattle.std.proofs.Common.{◌≡◌, ℕ, ℤ, ◌<◌, Bool, true, false, List, All, map, length, refl, ap, sym, ◌∙◌, subst, vec_len, arith}
use Rattle.std.specs.Prelude.{◌&&◌, nat_lt}
use Rattle.std.proofs.lemmas.Bool.{cond-true, cond-false, and_parts}
use Rattle.std.proofs.lemmas.Bool.Decides.{Decides-ltb}
use Rattle.stream_model.specs.Meaning.{Meaning}
use Rattle.stream_model.specs.Network.{Network, Progress, State, progress_at}
use Rattle.stream_model.specs.Machine as machine
use Rattle.stream_model.specs.Machine.{Capacities, Job, Reply, job_of, jobs_agree, is_in_flight, commit_of, Refused}
use Rattle.stream_laws.specs.CanRun.{CanRun}
use Rattle.machine_laws.specs.Sound.{Sound}
use Rattle.items.specs.declared.stream_items.Items.{Items}
use Rattle.items.specs.Items.{type_of, numbers_of}
use Rattle.flowgraph.specs.Flowgraph.{Flowgraph, net_of}
use Rattle.claimed_work.specs.Jobs.{AreTaken, AreGiven, WasFed, IsDone}
use Rattle.plant_laws.specs.Calls.{IsWorked}
use Rattle.plant_storage.specs.declared.stores.Stores.{Stores}
use Rattle.plant_storage.specs.Stores.{state_of}
use Rattle.plant.specs.Flight.{IsClaim}
use Rattle.plant.specs.Own.{is_own}
use Rattle.plant.proofs.InFlight.{flight_decides, own_means}
use Rattle.plant.proofs.Multiples.{work_is}
use Rattle.plant.specs.declared.parts.Parts.{Parts}
use Rattle.plant.specs.Plant.{PlantState, IsRight, plant_of, IsFlight, IsItsWork, with_claim_done}

-- a question of equal things has the same answer
pub asked : {B : Type 0} (eq : B → B → Bool) (meaning : B → Meaning) (st : State) (g g' other other' : Flowgraph B) (job job' : Job) (r : Bool) → g' ≡ g → other ≡ other' → job ≡ job' →
    r ≡ is_in_flight (net_of meaning g) st (is_own eq g other job.block) job → r ≡ is_in_flight (net_of meaning g') st (is_own eq g' other' job'.block) job'
asked eq meaning st g g' other other' job job' r p q e is = is ∙ (λ i. is_in_flight (net_of meaning (sym p i)) st (is_own eq (sym p i) (q i) (e i).block) (e i))

-- a job that is not in flight is refused
pub commit_refused : {B J : Type 0} (x : PlantState B) (back : J) (net : Network) (own : Bool) (job : Job) → is_in_flight net x.state own job ≡ false →
    ((commit_of net x.state own job).0 ≡ Refused machine.foreign) × (back ≡ back) × (x ≡ x)
unfolding commit_of
commit_refused x back net own job not = (ap (λ (r : Reply × State). r.0) (cond-false (is_in_flight net x.state own job) _ _ not), refl, refl)

-- what the machine answers to one in flight
pub commit_taken : {B : Type 0} (old new : PlantState B) (net : Network) (own : Bool) (job : Job) (b count : ℕ) → is_in_flight net old.state own job ≡ true → b ≡ job.block →
    count ≡ (progress_at old.state.progress job.block).claimed → new ≡ record old { state = with_claim_done old.state b } →
    ((commit_of net old.state own job).0 ≡ machine.Did count) × (new ≡ record old { state = (commit_of net old.state own job).1 })
unfolding commit_of
commit_taken {B} old new net own job b count is block counts new_is =
    let answer = cond-true (is_in_flight net old.state own job) _ _ is in (
      ap (λ (r : Reply × State). r.0) answer ∙ ap machine.Did (sym counts),
      new_is ∙ ap (λ b. (let y : PlantState B = record old { state = with_claim_done old.state b } in y)) block ∙ ap (λ (r : Reply × State). (let y : PlantState B = record old { state = r.1 } in y)) (sym answer),
    )

-- each block of the graph has a place for what its jobs are lent
pub place_there : {B P : Type 0} (meaning : B → Meaning) (p : Parts B P) (old : PlantState B) (st : State) (b : ℕ) → IsRight meaning p → plant_of p ≡ record old { state = st } →
    b < length (net_of meaning old.graph).nodes → b < vec_len p.lent
place_there {B} meaning p old st b right is inside =
    let graphs = ap (λ (x : PlantState B). length (net_of meaning x.graph).nodes) is in
    let places = right.built.places in
    let long = p.lent.ok.0 in
    omega arith

-- a job that is in flight
module _ {B : Type 0} (eq : B → B → Bool) (meaning : B → Meaning) (same : (a b : B) → eq a b ≡ true → meaning a ≡ meaning b) (g other : Flowgraph B) (s : Stores) (ps : List Progress) (job : Job)
    (is : is_in_flight (net_of meaning g) (state_of s.handed.items ps) (is_own eq g other job.block) job ≡ true) where
  abbrev net : Network
  net = net_of meaning g

  abbrev st : State
  st = state_of s.handed.items ps

  abbrev own : Bool
  own = is_own eq g other job.block

  claims : own && nat_lt job.block (length net.nodes) && nat_lt 0 (progress_at ps job.block).claimed ≡ true
  claims = (and_parts (own && nat_lt job.block (length net.nodes) && nat_lt 0 (progress_at ps job.block).claimed) (jobs_agree job (job_of net st job.block (progress_at ps job.block).claimed)) is).0

  is_its : (own ≡ true) × (nat_lt job.block (length net.nodes) ≡ true)
  is_its = and_parts own (nat_lt job.block (length net.nodes)) (and_parts (own && nat_lt job.block (length net.nodes)) (nat_lt 0 (progress_at ps job.block).claimed) claims).0

  pub inside : job.block < length net.nodes
  inside = (Decides-ltb job.block (length net.nodes)).0 is_its.1

  claim : IsClaim net s ps job
  claim = (flight_decides net s ps job own inside is_its.0).0 is

  pub flight : IsFlight net st job.block job.first job.count
  unfolding job_of
  flight =
      let counts = ap (λ (j : Job). j.count) claim.same in
      record {
        inside = inside;
        some = (let more = claim.some in omega arith);
        first_is = ap (λ (j : Job). j.first) claim.same;
        count_is = counts;
      }

  -- and what was made of it is its work
  pub work : CanRun (net_of meaning other) → CanRun net → (caps : Capacities) → Sound net caps st → WasFed (net_of meaning other) job → (windows outputs : List Items) (given : List (List ℤ)) (word : ℕ) →
      IsDone (net_of meaning other) job given word → map numbers_of windows ≡ job.windows → map numbers_of outputs ≡ given → AreTaken (net_of meaning other) job.block windows →
      AreGiven (net_of meaning other) job.block outputs → IsItsWork net st job.block windows outputs word
  work runs can caps sound was windows outputs given word done windows_are outputs_are taken gives =
      let means = own_means eq meaning same g other job.block is_its.0 in
      record {
        taken = windows_are ∙ ap (λ (j : Job). j.windows) claim.same;
        taken_types = subst (λ (m : Meaning). All (λ w. type_of w ≡ m.inputs.item) windows) means taken;
        worked = subst (λ xs. IsWorked net st job.block xs word) (sym outputs_are) (work_is (net_of meaning other) net runs can caps st sound job inside claim.some means claim.same was given word done);
        given_types = subst (λ (m : Meaning). All (λ o. type_of o ≡ m.outputs.item) outputs) means gives;
      }
