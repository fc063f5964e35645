-- What a step of a block that there is may answer: it is refused only where memory runs out.
use Rattle.std.proofs.Common.{◌≡◌, ℕ, ◌<◌, ◌==◌, Bool, true, false, cond, length, refl, sym, subst, lt-ltb}
use Rattle.stream_model.specs.Network.{Network, State, node_at}
use Rattle.stream_model.specs.Claims.{Decision, IsDone, IsBusy, Ends, Fires, LacksItems, LacksRoom, decide}
use Rattle.stream_model.specs.Machine as machine
use Rattle.stream_model.specs.Machine.{Capacities, Reply, Job, counts_of, claimed_by, claim_of, commit_of, commit_claimed, is_in_flight, step_of}
use Rattle.plant_faults.specs.declared.fault.PlantFault.{PlantFault}
use Rattle.plant_faults.specs.declared.fault.PlantFault.TheVariants.{NoSuchBlock, NotSource, NotSink, Closed, ItemRange, TagPlace, TapeFull, Late, NoSetting, WrongSetting, BeyondEnd, NoSuchPort, Memory}
use Rattle.plant.specs.Plant.{PlantState}
use Rattle.plant.specs.Answers.{Answered, refusal_of}

-- a reply that a step of a block may have: no refusal that a fault of a plant is
abbrev pub is_of_step : Reply → Bool
is_of_step machine.Done = true
is_of_step machine.Busy = true
is_of_step (machine.WaitingItems p) = true
is_of_step (machine.WaitingRoom p) = true
is_of_step (machine.Did count) = true
is_of_step (machine.Refused code) = code == machine.foreign
is_of_step _ = false

module _ (net : Network) (caps : Capacities) (st : State) (b max : ℕ) where
  committed : (job : Job) (st' : State) → is_of_step (commit_of net st' true job).0 ≡ true
  unfolding commit_of
  committed job st' = by_flight (is_in_flight net st' true job) _ _ refl refl
    where
      by_flight : (x : Bool) (did given : Reply × State) → is_of_step did.0 ≡ true → is_of_step given.0 ≡ true → is_of_step (cond x did given).0 ≡ true
      by_flight true did given h k = h
      by_flight false did given h k = k

  decided : (d : Decision) → is_of_step (commit_claimed net (claimed_by net st b d)).0 ≡ true
  decided IsDone = refl
  decided IsBusy = refl
  decided Ends = refl
  decided (Fires count) = committed _ _
  decided (LacksItems p) = refl
  decided (LacksRoom p) = refl

  pub step_is_of_step : b < length net.nodes → is_of_step (step_of net caps st b max).0 ≡ true
  unfolding claim_of
  step_is_of_step in' = let there = lt-ltb b (length net.nodes) in' in rw there (decided (decide (node_at net b) (counts_of net caps st b) max))

-- so a step of a block that there is changes nothing where it is refused
module _ {B : Type 0} (now : Reply × State) (old new : PlantState B) (is : is_of_step now.0 ≡ true) where
  no_fault : (code : Reply) → is_of_step code ≡ false → code ≡ now.0 → new ≡ old
  no_fault code none same = absurd (let some = subst (λ r. is_of_step r ≡ true) (sym same) is in cc)

  pub refused_stays : (e : PlantFault) → Answered now old new (refusal_of e) → new ≡ old
  refused_stays Memory h = h.1
  refused_stays NoSuchBlock h = no_fault _ refl h.0
  refused_stays NotSource h = no_fault _ refl h.0
  refused_stays NotSink h = no_fault _ refl h.0
  refused_stays Closed h = no_fault _ refl h.0
  refused_stays ItemRange h = no_fault _ refl h.0
  refused_stays TagPlace h = no_fault _ refl h.0
  refused_stays TapeFull h = no_fault _ refl h.0
  refused_stays (Late floor) h = no_fault _ refl h.0
  refused_stays NoSetting h = no_fault _ refl h.0
  refused_stays WrongSetting h = no_fault _ refl h.0
  refused_stays BeyondEnd h = no_fault _ refl h.0
  refused_stays NoSuchPort h = no_fault _ refl h.0
