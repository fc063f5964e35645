-- Claims and commits lead a plant on: it comes nearer to its end, and nothing is handed to a block.
use Rattle.std.proofs.Common.{◌≡◌, ℕ, ◌≤◌, Bool, true, false, List, [], ◌∷◌, ◌++◌, length, refl, ap, sym, ◌∙◌, subst, arith, Some, None}
use Rattle.std.specs.Prelude.{nat_lt, Option, Result, Ok, Err}
use Rattle.std.specs.List.{list_all}
use Rattle.std.proofs.lemmas.Bool.{and_from, and_parts, le-leb, leb-true}
use Rattle.std.proofs.lemmas.List.Folds.{list_all-append}
use Rattle.stream_model.specs.Meaning.{Meaning}
use Rattle.stream_model.specs.Network.{Network, State, node_at}
use Rattle.stream_model.specs.Claims.{Decision, IsDone, IsBusy, Ends, Fires, LacksItems, LacksRoom, decide}
use Rattle.stream_model.specs.Machine as machine
use Rattle.stream_model.specs.Machine.{Capacities, Call, Feed, Close, Set, Claim, Commit, Abandon, Read, Job, Reply, abandon_of, claim_of, claimed_by, commit_claimed, commit_of, counts_of, is_in_flight, next, run_of, step_of}
use Rattle.stream_laws.specs.CanRun.{CanRun}
use Rattle.machine_laws.specs.Sound.{Sound}
use Rattle.machine_laws.specs.Steps.{is_feed, steps_left}
use Rattle.machine_laws.proofs.Choices.{if_both}
use Rattle.machine_laws.proofs.Ending.{calls_come_to_an_end}
use Rattle.machine_laws.proofs.Sounds.{calls_keep_sound}
use Rattle.flowgraph.specs.Flowgraph.{net_of}
use Rattle.plant.specs.Answers.{Answered, IsTaken}
use Rattle.plant.specs.declared.parts.Parts.{Parts}
use Rattle.plant.specs.Plant.{IsRight, PlantState, plant_of, spans_in}
use Rattle.plant.specs.Settling.{HasMoved, StepsLead, steps_of}
use Rattle.streaming.specs.Working.{is_work, WorkLeads, HasWorked, IsLedOn}

-- where claims of at most few firings are work, so they are of at most max
still : (few max : ℕ) → few ≤ max → (call : Call) → is_work few call ≡ true → is_work max call ≡ true
still few max low (Claim b most) work = let least = leb-true most few work in le-leb most max (omega (arith, least, low))
still few max low (Commit own job) work = refl
still few max low (Abandon own job) work = refl
still few max low (Feed b t xs ms) work = absurd (cc)
still few max low (Close b) work = absurd (cc)
still few max low (Set b at v) work = absurd (cc)
still few max low (Read b from count) work = absurd (cc)

all_still : (few max : ℕ) → few ≤ max → (calls : List Call) → list_all (is_work few) calls ≡ true → list_all (is_work max) calls ≡ true
all_still few max low [] work = refl
all_still few max low (call ∷ calls) work =
    let parts = and_parts (is_work few call) (list_all (is_work few) calls) work in
    and_from (is_work max call) (list_all (is_work max) calls) (still few max low call parts.0) (all_still few max low calls parts.1)

module _ (net : Network) (caps : Capacities) (max : ℕ) where
  run-append : (st : State) (calls more : List Call) → (run_of net caps st (calls ++ more)).1 ≡ (run_of net caps (run_of net caps st calls).1 more).1
  run-append st [] more = refl
  run-append st (call ∷ calls) more = run-append (next net caps st call).1 calls more

  pub leads_nowhere : (st : State) → WorkLeads net caps max st st
  leads_nowhere st = ([], refl, refl)

  pub leads_then : (old now new : State) → WorkLeads net caps max old now → WorkLeads net caps max now new → WorkLeads net caps max old new
  leads_then old now new first second = (
    first.0 ++ second.0,
    list_all-append (is_work max) first.0 second.0 ∙ and_from (list_all (is_work max) first.0) (list_all (is_work max) second.0) first.1 second.1,
    second.2 ∙ ap (λ st. (run_of net caps st second.0).1) first.2 ∙ sym (run-append old first.0 second.0),
  )

  pub leads_by : (st : State) (call : Call) → is_work max call ≡ true → WorkLeads net caps max st (next net caps st call).1
  leads_by st call work = (call ∷ [], and_from (is_work max call) true work refl, refl)

  -- a step is a claim, and the commit of what it hands out
  ends : (st : State) (now : Reply × State) → WorkLeads net caps max st now.1 → WorkLeads net caps max st (commit_claimed net now).1
  ends st (machine.Claimed job, now) work = leads_then st now (commit_of net now true job).1 work (leads_by now (Commit true job) refl)
  ends st (reply, now) work = work

  pub step_leads : (st : State) (b few : ℕ) → few ≤ max → WorkLeads net caps max st (step_of net caps st b few).1
  step_leads st b few low = ends st (next net caps st (Claim b few)) (leads_by st (Claim b few) (le-leb few max low))

  all_lead : (few : ℕ) → few ≤ max → (st : State) (bs : List ℕ) → WorkLeads net caps max st (steps_of net caps few st bs)
  all_lead few low st [] = leads_nowhere st
  all_lead few low st (b ∷ bs) = leads_then st (step_of net caps st b few).1 (steps_of net caps few st (b ∷ bs)) (step_leads st b few low) (all_lead few low (step_of net caps st b few).1 bs)

  pub steps_lead : (few : ℕ) → few ≤ max → (old new : State) → StepsLead net caps few old new → WorkLeads net caps max old new
  steps_lead few low old new steps = subst (WorkLeads net caps max old) (sym steps.2) (all_lead few low old steps.0)

  -- work hands nothing to a block
  abbrev Stays : State → Reply × State → Type 0
  Stays st r = r.1.handed ≡ st.handed

  decides : (st : State) (b : ℕ) (d : Decision) → Stays st (claimed_by net st b d)
  decides st b IsDone = refl
  decides st b IsBusy = refl
  decides st b Ends = refl
  decides st b (Fires count) = refl
  decides st b (LacksItems p) = refl
  decides st b (LacksRoom p) = refl

  claims : (st : State) (b most : ℕ) → Stays st (next net caps st (Claim b most))
  unfolding claim_of
  claims st b most = if_both (nat_lt b (length net.nodes)) _ _ (Stays st) (λ _. decides st b (decide (node_at net b) (counts_of net caps st b) most)) (λ _. refl)

  commits : (st : State) (own : Bool) (job : Job) → Stays st (commit_of net st own job)
  unfolding commit_of
  commits st own job = if_both (is_in_flight net st own job) _ _ (Stays st) (λ _. refl) (λ _. refl)

  abandons : (st : State) (own : Bool) (job : Job) → Stays st (abandon_of net st own job)
  unfolding abandon_of
  abandons st own job = if_both (is_in_flight net st own job) _ _ (Stays st) (λ _. refl) (λ _. refl)

  hands : (st : State) (call : Call) → is_work max call ≡ true → Stays st (next net caps st call)
  hands st (Claim b most) work = claims st b most
  hands st (Commit own job) work = commits st own job
  hands st (Abandon own job) work = abandons st own job
  hands st (Feed b t xs ms) work = absurd (cc)
  hands st (Close b) work = absurd (cc)
  hands st (Set b at v) work = absurd (cc)
  hands st (Read b from count) work = absurd (cc)

  all_hand : (st : State) (calls : List Call) → list_all (is_work max) calls ≡ true → (run_of net caps st calls).1.handed ≡ st.handed
  all_hand st [] work = refl
  all_hand st (call ∷ calls) work = let parts = and_parts (is_work max call) (list_all (is_work max) calls) work in all_hand (next net caps st call).1 calls parts.1 ∙ hands st call parts.0

  pub work_hands_nothing : (old new : State) → WorkLeads net caps max old new → new.handed ≡ old.handed
  work_hands_nothing old new work = rw work.2 (all_hand old work.0 work.1)

  -- it leaves no more steps than there were
  feeds_none : (call : Call) → is_work max call ≡ true → is_feed call ≡ false
  feeds_none (Claim b most) work = refl
  feeds_none (Commit own job) work = refl
  feeds_none (Abandon own job) work = refl
  feeds_none (Feed b t xs ms) work = absurd (cc)
  feeds_none (Close b) work = refl
  feeds_none (Set b at v) work = refl
  feeds_none (Read b from count) work = refl

  all_fewer : (st : State) → CanRun net → Sound net caps st → (calls : List Call) → list_all (is_work max) calls ≡ true → steps_left net (run_of net caps st calls).1 ≤ steps_left net st
  all_fewer st can sound [] work = omega arith
  all_fewer st can sound (call ∷ calls) work =
      let parts = and_parts (is_work max call) (list_all (is_work max) calls) work in
      let first = (calls_come_to_an_end net caps st can sound call (feeds_none call parts.0)).0 in
      let rest = all_fewer (next net caps st call).1 can (calls_keep_sound net caps st can sound call) calls parts.1 in
      omega arith

  pub work_leaves_fewer : CanRun net → (old new : State) → Sound net caps old → WorkLeads net caps max old new → steps_left net new ≤ steps_left net old
  work_leaves_fewer can old new sound work = rw work.2 (all_fewer old can sound work.0 work.1)

-- what calls of a plant make of it
module _ {B : Type 0} (meaning : B → Meaning) (max : ℕ) where
  abbrev net_in : PlantState B → Network
  net_in p = net_of meaning p.graph

  worked_none : (p q : PlantState B) → q ≡ p → HasWorked meaning max p q
  worked_none p q e = subst (HasWorked meaning max p) (sym e) (record { same = refl; work = leads_nowhere (net_in p) p.capacities max p.state })

  worked_to : (p q : PlantState B) (st : State) → q ≡ record p { state = st } → WorkLeads (net_in p) p.capacities max p.state st → HasWorked meaning max p q
  worked_to p q st e work = subst (HasWorked meaning max p) (sym e) (record { same = refl; work = work })

  pub worked_by : (p q : PlantState B) (call : Call) → is_work max call ≡ true → q ≡ record p { state = (next (net_in p) p.capacities p.state call).1 } → HasWorked meaning max p q
  worked_by p q call work e = worked_to p q _ e (leads_by (net_in p) p.capacities max p.state call work)

  pub answered_claim : (p q : PlantState B) (b : ℕ) (reply : Option Reply) → Answered (next (net_in p) p.capacities p.state (Claim b max)) p q reply → HasWorked meaning max p q
  answered_claim p q b None answered = worked_none p q answered.1
  answered_claim p q b (Some reply) answered = worked_by p q (Claim b max) (le-leb max max (omega arith)) answered.1

  pub answered_step : (p q : PlantState B) (b : ℕ) (reply : Option Reply) → Answered (step_of (net_in p) p.capacities p.state b max) p q reply → HasWorked meaning max p q
  answered_step p q b None answered = worked_none p q answered.1
  answered_step p q b (Some reply) answered = worked_to p q _ answered.1 (step_leads (net_in p) p.capacities max p.state b max (omega arith))

  pub taken_work : {R W : Type 0} (reply : R → Reply) (p q : PlantState B) (own : Bool) (job : Job) (work : W) (result : Result R W) → IsTaken reply (commit_of (net_in p) p.state own job) p q work result → HasWorked meaning max p q
  taken_work reply p q own job work (Ok r) taken = worked_by p q (Commit own job) refl taken.1
  taken_work reply p q own job work (Err back) taken = worked_none p q taken.2

  worked_then : (p q r : PlantState B) → HasWorked meaning max p q → HasWorked meaning max q r → HasWorked meaning max p r
  worked_then p q r first second = record {
    same = subst (λ (x : PlantState B). r ≡ record x { state = r.state }) first.same second.same;
    work = leads_then (net_in p) p.capacities max p.state q.state r.state first.work (subst (λ (x : PlantState B). WorkLeads (net_in x) x.capacities max q.state r.state) first.same second.work);
  }

  -- after a round that moved on, more work leaves it so
  pub moved_then : (p q r : PlantState B) → q ≡ record p { state = q.state } → CanRun (net_in p) → Sound (net_in q) q.capacities q.state → HasWorked meaning max q r →
      (moved : Bool) → moved ≡ true → HasMoved (net_in p) p.capacities p.state q.state moved → HasMoved (net_in p) p.capacities p.state r.state moved
  moved_then p q r same can sound worked false e has = absurd (cc)
  moved_then p q r same can sound worked true e less =
      let fewer = work_leaves_fewer (net_in p) p.capacities max can q.state r.state (subst (λ (x : PlantState B). Sound (net_in x) x.capacities q.state) same sound)
      (subst (λ (x : PlantState B). WorkLeads (net_in x) x.capacities max q.state r.state) same worked.work) in
      omega arith

  -- what they make of its parts
  pub led_none : {P : Type 0} (p q : Parts B P) → IsRight meaning p → q ≡ p → IsLedOn meaning max p q
  led_none p q right e = subst (IsLedOn meaning max p) (sym e) (record { right = right; spans = refl; worked = worked_none (plant_of p) (plant_of p) refl })

  pub led_steps : {P : Type 0} (p q : Parts B P) (few : ℕ) → few ≤ max → IsRight meaning q → spans_in q ≡ spans_in p → plant_of q ≡ record (plant_of p) { state = (plant_of q).state } →
      StepsLead (net_in (plant_of p)) (plant_of p).capacities few (plant_of p).state (plant_of q).state → IsLedOn meaning max p q
  led_steps p q few low right spans same steps = record {
    right = right;
    spans = spans;
    worked = record { same = same; work = steps_lead (net_in (plant_of p)) (plant_of p).capacities max few low (plant_of p).state (plant_of q).state steps };
  }

  pub led_then : {P : Type 0} (p q r : Parts B P) → IsLedOn meaning max p q → IsLedOn meaning max q r → IsLedOn meaning max p r
  led_then p q r first second = record {
    right = second.right;
    spans = second.spans ∙ first.spans;
    worked = worked_then (plant_of p) (plant_of q) (plant_of r) first.worked second.worked;
  }

  -- where claims are of fewer firings, they are of no more
  pub led_more : {P : Type 0} (few : ℕ) → few ≤ max → (p q : Parts B P) → IsLedOn meaning few p q → IsLedOn meaning max p q
  led_more few low p q led =
      let calls = led.worked.work in
      record {
        right = led.right;
        spans = led.spans;
        worked = record { same = led.worked.same; work = (calls.0, all_still few max low calls.0 calls.1, calls.2) };
      }
