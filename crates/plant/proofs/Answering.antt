-- What a claim and a step answer, once the claim is decided.
use Rattle.std.proofs.Common.{◌≡◌, ℕ, ◌<◌, Some, None, true, length, refl, ap, sym, ◌∙◌, subst}
use Rattle.std.proofs.lemmas.List.{length-map}
use Rattle.std.specs.Arc.{arc_value}
use Rattle.stream_model.specs.Meaning.{Meaning}
use Rattle.stream_model.specs.Network.{Network, State, node_at}
use Rattle.stream_model.specs.Claims as claims
use Rattle.stream_model.specs.Machine.{Claim, Job, Reply, Claimed, Did, counts_of, claim_of, next, step_of}
use Rattle.machine_laws.specs.Stays.{in_flight}
use Rattle.firing_rules.specs.Decision.{answer_of}
use Rattle.firing_rules.specs.declared.decision.Decision.{Decision}
use Rattle.firing_rules.specs.declared.decision.Decision.TheVariants as decision
use Rattle.flowgraph.specs.Flowgraph.{net_of}
use Rattle.rates.specs.Answer.{sizes_of}
use Rattle.plant.specs.declared.parts.Parts.{Parts}
use Rattle.plant.specs.Plant.{PlantState, IsFlight, IsRight, plant_of, with_claim_done, without_claim}
use Rattle.plant.specs.Answers.{Answered, takes_memory}
use Rattle.plant.proofs.GivingBack.{plain_reply, answered_now, step_answered, claimed_now, stepped_now, is_flight, back}

-- a call answered, or memory ran out
pub answers : {B : Type 0} (now : Reply × State) (old new : PlantState B) (r : Reply) (after : State) → now ≡ (r, after) → new ≡ record old { state = after } → Answered now old new (Some r)
answers now old new r after e f = (sym (ap (λ (x : Reply × State). x.0) e), f ∙ ap (λ (x : Reply × State). record old { state = x.1 }) (sym e))

pub runs_out : {B : Type 0} (now : Reply × State) (old new : PlantState B) (r : Reply) (after : State) → now ≡ (r, after) → takes_memory r ≡ true → new ≡ old → Answered now old new None
runs_out now old new r after e takes f = (ap (λ (x : Reply × State). takes_memory x.0) e ∙ takes, f)

-- the claim that was decided took a plant from the old state to the new one
module _ {B P : Type 0} (meaning : B → Meaning) (old new : Parts B P) (b max : ℕ) (right : IsRight meaning old) (inside : b < length (arc_value old.graph).blocks) (d : Decision)
    (is : let net = net_of meaning (arc_value old.graph) in let counts = counts_of net (sizes_of old.capacities) (plant_of old).state b in d ≡ answer_of counts.firings (claims.decide (node_at net b) counts max))
    (moved : plant_of new ≡ record (plant_of old) { state = (claim_of (net_of meaning (arc_value old.graph)) (sizes_of old.capacities) (plant_of old).state b max).1 }) where
  abbrev own : Network
  own = net_of meaning (arc_value old.graph)

  abbrev st : State
  st = (plant_of old).state

  abbrev after : State
  after = (claim_of (own) (sizes_of old.capacities) (st) b max).1

  abbrev claimed : Reply × State
  claimed = next (own) (sizes_of old.capacities) (st) (Claim b max)

  abbrev stepped : Reply × State
  stepped = step_of (own) (sizes_of old.capacities) (st) b max

  in' : b < length (own).nodes
  in' = rw length-map inside

  there : b < length old.firings
  there = rw right.keeps.sound.progress_count in'

  module _ (r : Reply) (plain : plain_reply d ≡ Some r) where
    pub claim_plain : Answered (claimed) (plant_of old) (plant_of new) (Some r)
    claim_plain = answers (claimed) (plant_of old) (plant_of new) r (after) (answered_now (own) (sizes_of old.capacities) (st) b max in' there d r is plain) moved

    pub step_plain : Answered (stepped) (plant_of old) (plant_of new) (Some r)
    step_plain = answers (stepped) (plant_of old) (plant_of new) r (after) (step_answered (own) (sizes_of old.capacities) (st) b max in' there d r is plain) moved

  module _ (first count : ℕ) (fires : d ≡ decision.Claimed first count) where
    is' : decision.Claimed first count ≡ answer_of (counts_of (own) (sizes_of old.capacities) (st) b).firings (claims.decide (node_at (own) b) (counts_of (own) (sizes_of old.capacities) (st) b) max)
    is' = sym fires ∙ is

    -- the claim that was made
    pub flight_made : IsFlight (net_of meaning (plant_of new).graph) (plant_of new).state b first count
    flight_made = subst (λ (p : PlantState B). IsFlight (net_of meaning p.graph) p.state b first count) (sym moved) (is_flight (own) (sizes_of old.capacities) (st) b max in' there first count is')

    module _ (last : PlantState B) where
      pub claim_made : (job : Job) → last ≡ plant_of new → job ≡ in_flight (net_of meaning (plant_of new).graph) (plant_of new).state b → Answered (claimed) (plant_of old) last (Some (Claimed job))
      claim_made job same made =
          answers (claimed) (plant_of old) last (Claimed job) (after)
          (claimed_now (own) (sizes_of old.capacities) (st) b max in' there first count is'
          ∙ ap (λ j. (Claimed j, after)) (sym (made ∙ ap (λ (p : PlantState B). in_flight (net_of meaning p.graph) p.state b) moved)))
          (same ∙ moved)

      pub step_made : last ≡ record (plant_of new) { state = with_claim_done (plant_of new).state b } → Answered (stepped) (plant_of old) last (Some (Did count))
      step_made done =
          answers (stepped) (plant_of old) last (Did count) (with_claim_done (after) b) (stepped_now (own) (sizes_of old.capacities) (st) b max in' there first count is')
          (done ∙ ap (λ (p : PlantState B). record p { state = with_claim_done p.state b }) moved)

      module _ (up : last ≡ record (plant_of new) { state = without_claim (plant_of new).state b }) where
        as_before : last ≡ plant_of old
        as_before =
            up ∙ ap (λ (p : PlantState B). record p { state = without_claim p.state b }) moved
            ∙ ap (λ (x : State). record (plant_of old) { state = x }) (back (own) (sizes_of old.capacities) (st) b max in' there first count is')

        pub claim_refused : Answered (claimed) (plant_of old) last None
        claim_refused = runs_out (claimed) (plant_of old) last (Claimed (in_flight (own) (after) b)) (after) (claimed_now (own) (sizes_of old.capacities) (st) b max in' there first count is') refl as_before

        pub step_refused : Answered (stepped) (plant_of old) last None
        step_refused = runs_out (stepped) (plant_of old) last (Did count) (with_claim_done (after) b) (stepped_now (own) (sizes_of old.capacities) (st) b max in' there first count is') refl as_before
