-- Steps of all blocks in turn lead on, and a round that moved nothing leaves the network quiet.
use Rattle.std.proofs.Common.{◌≡◌, ℕ, ◌<◌, ◌≤◌, ◌+◌, Bool, List, [], ◌∷◌, ◌++◌, length, take, get_or, refl, arith, ap, sym, ◌∙◌, subst, true, false}
use Rattle.std.specs.List.{All}
use Rattle.std.proofs.lemmas.List.{take_all}
use Rattle.std.proofs.lemmas.List.Elements.{All-append, All-more}
use Rattle.stream_model.specs.Network.{Network, State}
use Rattle.stream_model.specs.Machine.{Capacities, Claim, step_of, is_idle, is_quiet}
use Rattle.stream_laws.specs.CanRun.{CanRun}
use Rattle.machine_laws.specs.Sound.{Sound}
use Rattle.machine_laws.specs.Steps.{moves_on, steps_left}
use Rattle.machine_laws.proofs.Rounds.{idle_steps_stay, stuck_is_quiet}
use Rattle.machine_laws.proofs.Ending.{steps_come_to_an_end}
use Rattle.flowgraph.specs.declared.parts.BlockId.{BlockId}
use Rattle.flowgraph.specs.StepOrder.{IsOrderOf}
use Rattle.plant.specs.Settling.{steps_of, StepsLead, HasMoved}

-- what steps of the first k blocks of an order have brought
pub record AreStepped (net : Network) (caps : Capacities) (max : ℕ) (order : List BlockId) (old now : State) (k : ℕ) (moved : Bool) : Type 0 where
  pub idle : is_idle now ≡ true
  pub lead : StepsLead net caps max old now
  pub fewer : steps_left net now ≤ steps_left net old
  pub less : moved ≡ true → steps_left net now < steps_left net old
  pub same : moved ≡ false → now ≡ old
  pub still : moved ≡ false → All (λ b. moves_on old (Claim b.0 max) (step_of net caps old b.0 max).0 ≡ false) (take k order)

module _ (net : Network) (caps : Capacities) (max : ℕ) where
  -- steps after steps
  steps-append : (st : State) (bs cs : List ℕ) → steps_of net caps max st (bs ++ cs) ≡ steps_of net caps max (steps_of net caps max st bs) cs
  steps-append st [] cs = refl
  steps-append st (b ∷ bs) cs = steps-append (step_of net caps st b max).1 bs cs

  pub leads-further : (old now new : State) → StepsLead net caps max old now → StepsLead net caps max now new → StepsLead net caps max old new
  leads-further old now new lead more = (
    lead.0 ++ more.0,
    All-append (λ a. a < length net.nodes) lead.0 more.0 lead.1 more.1,
    more.2 ∙ ap (λ st. steps_of net caps max st more.0) lead.2 ∙ sym (steps-append old lead.0 more.0),
  )

  leads-on : (old now : State) (b : ℕ) → b < length net.nodes → StepsLead net caps max old now → StepsLead net caps max old (step_of net caps now b max).1
  leads-on old now b in' lead = leads-further old now (step_of net caps now b max).1 lead (b ∷ [], (λ i d lt. let first : i ≡ 0 = omega arith in rw first in'), refl)

  -- where no step of a round moved on, the state is the same, and the network is quiet
  stuck : (st : State) → CanRun net → Sound net caps st → is_idle st ≡ true → 0 < max →
      ((b : ℕ) → b < length net.nodes → moves_on st (Claim b max) (step_of net caps st b max).0 ≡ false) → is_quiet net caps st ≡ true
  stuck st can sound idle some still = stuck_is_quiet net caps st can sound idle (λ _. max) (λ b in'. (some, still b in'))

  step-idle : (st : State) → CanRun net → Sound net caps st → is_idle st ≡ true → 0 < max → (b : ℕ) → b < length net.nodes → is_idle (step_of net caps st b max).1 ≡ true
  step-idle st can sound idle some b in' = (idle_steps_stay net caps st can sound idle b max in' some).0

  step-still : (st : State) → CanRun net → Sound net caps st → is_idle st ≡ true → 0 < max → (b : ℕ) → b < length net.nodes →
      moves_on st (Claim b max) (step_of net caps st b max).0 ≡ false → (step_of net caps st b max).1 ≡ st
  step-still st can sound idle some b in' = (idle_steps_stay net caps st can sound idle b max in' some).1

-- one block after the other
module _ (net : Network) (caps : Capacities) (max : ℕ) (order : List BlockId) (old : State) where
  pub none-stepped : is_idle old ≡ true → AreStepped net caps max order old old 0 false
  none-stepped idle = record {
    idle = idle;
    lead = ([], (λ i d lt. absurd (omega (arith, lt))), refl);
    fewer = omega arith;
    less = λ h. absurd (cc);
    same = λ h. refl;
    still = λ h i d lt. absurd (omega (arith, lt));
  }

  module _ (can : CanRun net) (now : State) (sound : Sound net caps now) (some : 0 < max) (k : ℕ) (block : BlockId) (here : k < length order) (is_there : get_or order k block ≡ block) (in' : block.0 < length net.nodes)
      (moved : Bool) (is : AreStepped net caps max order old now k moved) where
    fewer-still : steps_left net (step_of net caps now block.0 max).1 ≤ steps_left net old
    fewer-still = let one = (steps_come_to_an_end net caps now can sound block.0 max in').0 in let so_far = is.fewer in omega arith

    -- a step that moved on
    pub stepped-on : moves_on now (Claim block.0 max) (step_of net caps now block.0 max).0 ≡ true → AreStepped net caps max order old (step_of net caps now block.0 max).1 (k + 1) true
    stepped-on on = record {
      idle = step-idle net caps max now can sound is.idle some block.0 in';
      lead = leads-on net caps max old now block.0 in' is.lead;
      fewer = fewer-still;
      less = λ h. (let one = (steps_come_to_an_end net caps now can sound block.0 max in').1 on in let so_far = is.fewer in omega arith);
      same = λ h. absurd (cc);
      still = λ h. absurd (cc);
    }

    -- and one that did not
    pub stepped-still : moves_on now (Claim block.0 max) (step_of net caps now block.0 max).0 ≡ false → AreStepped net caps max order old (step_of net caps now block.0 max).1 (k + 1) moved
    stepped-still off =
        let stays = step-still net caps max now can sound is.idle some block.0 in' off in
        record {
          idle = step-idle net caps max now can sound is.idle some block.0 in';
          lead = leads-on net caps max old now block.0 in' is.lead;
          fewer = fewer-still;
          less = λ h. (let one = (steps_come_to_an_end net caps now can sound block.0 max in').0 in let so_far = is.less h in omega arith);
          same = λ h. stays ∙ is.same h;
          still = λ h. All-more (λ (b : BlockId). moves_on old (Claim b.0 max) (step_of net caps old b.0 max).0 ≡ false) order k block here (is.still h)
              (subst (λ (b : BlockId). moves_on old (Claim b.0 max) (step_of net caps old b.0 max).0 ≡ false) (sym is_there) (subst (λ st. moves_on st (Claim block.0 max) (step_of net caps st block.0 max).0 ≡ false) (is.same h) off));
        }

  -- after all of them
  module _ (all : IsOrderOf (length net.nodes) order) (k : ℕ) (past : length order ≤ k) where
    each-still : All (λ b. moves_on old (Claim b.0 max) (step_of net caps old b.0 max).0 ≡ false) (take k order) → (b : ℕ) → b < length net.nodes → moves_on old (Claim b max) (step_of net caps old b max).0 ≡ false
    each-still still b in' =
        let there = all.all b in' in
        let at : moves_on old (Claim (get_or order there.0 there.1).0 max) (step_of net caps old (get_or order there.0 there.1).0 max).0 ≡ false = subst (All (λ (b : BlockId). moves_on old (Claim b.0 max) (step_of net caps old b.0 max).0 ≡ false)) (take_all k order past) still there.0 there.1 there.2 in
        subst (λ a. moves_on old (Claim a max) (step_of net caps old a max).0 ≡ false) (ap (λ (b : BlockId). b.0) there.3 ∙ there.4) at

    pub has_moved : CanRun net → (now : State) → Sound net caps old → is_idle old ≡ true → 0 < max → (moved : Bool) → AreStepped net caps max order old now k moved → HasMoved net caps old now moved
    has_moved can now sound idle some true is = is.less refl
    has_moved can now sound idle some false is =
        subst (λ st. is_quiet net caps st ≡ true) (sym (is.same refl)) (stuck net caps max old can sound idle some (each-still (is.still refl)))
