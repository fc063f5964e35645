-- Steps of the blocks in turn, of which some are held back.
use Rattle.std.proofs.Common.{◌≡◌, ℕ, ◌<◌, ◌≤◌, ◌+◌, Bool, true, false, List, length, get_or, refl, arith, ap, sym, ◌∙◌, subst, below_more, inl, inr}
use Rattle.std.proofs.lemmas.List.{get_or_default}
use Rattle.stream_model.specs.Meaning.{Meaning}
use Rattle.stream_model.specs.Network.{Network, State}
use Rattle.stream_model.specs.Machine.{Capacities, Claim, step_of, is_idle}
use Rattle.stream_laws.specs.CanRun.{CanRun}
use Rattle.machine_laws.specs.Sound.{Sound}
use Rattle.machine_laws.specs.Steps.{moves_on, steps_left}
use Rattle.machine_laws.proofs.Ending.{steps_come_to_an_end}
use Rattle.machine_laws.proofs.Rounds.{idle_steps_stay}
use Rattle.flowgraph.specs.declared.parts.BlockId.{BlockId}
use Rattle.flowgraph.specs.Flowgraph.{net_of}
use Rattle.flowgraph.specs.StepOrder.{IsOrderOf}
use Rattle.plant.specs.Plant.{PlantState}
use Rattle.streaming.specs.Beside.{HasMovedBeside, IsTurn, StaysAt, is_held}
use Rattle.streaming.specs.Working.{HasWorked, WorkLeads}
use Rattle.streaming.proofs.Working.{work_leaves_fewer}

-- the block at a place of an order
abbrev nobody : BlockId
nobody = record { 0 = 0 }

abbrev pub block_at : List BlockId → ℕ → ℕ
block_at order k = (get_or order k nobody).0

-- what steps of the first k blocks of an order have brought, but for those that are held back
pub record AreStepped (held : List Bool) (net : Network) (caps : Capacities) (max : ℕ) (order : List BlockId) (old now : State) (k : ℕ) (moved : Bool) : Type 0 where
  pub idle : is_idle now ≡ true
  pub fewer : steps_left net now ≤ steps_left net old
  pub less : moved ≡ true → steps_left net now < steps_left net old
  pub same : moved ≡ false → now ≡ old
  pub still : moved ≡ false → (j : ℕ) → j < k → is_held held (block_at order j) ≡ false → StaysAt net caps max old (block_at order j)

module _ (held : List Bool) (net : Network) (caps : Capacities) (max : ℕ) (order : List BlockId) (old : State) where
  pub none-stepped : is_idle old ≡ true → AreStepped held net caps max order old old 0 false
  none-stepped idle = record {
    idle = idle;
    fewer = omega arith;
    less = λ h. absurd (cc);
    same = λ h. refl;
    still = λ h j lt. absurd (omega (arith, lt));
  }

  module _ (now : State) (k : ℕ) (moved : Bool) (is : AreStepped held net caps max order old now k moved) where
    abbrev Still : ℕ → Type 0
    Still j = is_held held (block_at order j) ≡ false → StaysAt net caps max old (block_at order j)

    -- the next block is held back
    pub passed : is_held held (block_at order k) ≡ true → AreStepped held net caps max order old now (k + 1) moved
    passed is_back = record {
      idle = is.idle;
      fewer = is.fewer;
      less = is.less;
      same = is.same;
      still = λ h. below_more Still k (is.still h) (λ free. absurd (cc));
    }

    module _ (can : CanRun net) (sound : Sound net caps now) (some : 0 < max) (in' : block_at order k < length net.nodes) where
      abbrev stepped : State
      stepped = (step_of net caps now (block_at order k) max).1

      idle-still : is_idle stepped ≡ true
      idle-still = (idle_steps_stay net caps now can sound is.idle (block_at order k) max in' some).0

      fewer-still : steps_left net stepped ≤ steps_left net old
      fewer-still = let one = (steps_come_to_an_end net caps now can sound (block_at order k) max in').0 in let so_far = is.fewer in omega arith

      -- its step moves on
      pub stepped-on : moves_on now (Claim (block_at order k) max) (step_of net caps now (block_at order k) max).0 ≡ true → AreStepped held net caps max order old stepped (k + 1) true
      stepped-on on = record {
        idle = idle-still;
        fewer = fewer-still;
        less = λ h. (let one = (steps_come_to_an_end net caps now can sound (block_at order k) max in').1 on in let so_far = is.fewer in omega arith);
        same = λ h. absurd (cc);
        still = λ h. absurd (cc);
      }

      -- and does not
      pub stepped-still : moves_on now (Claim (block_at order k) max) (step_of net caps now (block_at order k) max).0 ≡ false → AreStepped held net caps max order old stepped (k + 1) moved
      stepped-still off =
          let stays = (idle_steps_stay net caps now can sound is.idle (block_at order k) max in' some).1 off in
          record {
            idle = idle-still;
            fewer = fewer-still;
            less = λ h. (let one = (steps_come_to_an_end net caps now can sound (block_at order k) max in').0 in let so_far = is.less h in omega arith);
            same = λ h. stays ∙ is.same h;
            still = λ h. below_more Still k (is.still h) (λ free. subst (λ st. StaysAt net caps max st (block_at order k)) (is.same h) off);
          }

    -- the turn of the next block
    module _ (can : CanRun net) (sound : Sound net caps now) (some : 0 < max) (in' : block_at order k < length net.nodes) (new : State) where
      as_new : (m : Bool) → new ≡ (step_of net caps now (block_at order k) max).1 → AreStepped held net caps max order old (step_of net caps now (block_at order k) max).1 (k + 1) m → AreStepped held net caps max order old new (k + 1) m
      as_new m e stepped-so = subst (λ s. AreStepped held net caps max order old s (k + 1) m) (sym e) stepped-so

      pub turned-on : (m : Bool) → m ≡ true → IsTurn held net caps max now new (block_at order k) m → AreStepped held net caps max order old new (k + 1) true
      turned-on m e (inl back) = absurd (let off = back.2 in cc)
      turned-on m e (inr step) = as_new true step.0 (stepped-on can sound some in' (sym step.1 ∙ e))

      pub turned-still : (m : Bool) → m ≡ false → IsTurn held net caps max now new (block_at order k) m → AreStepped held net caps max order old new (k + 1) moved
      turned-still m e (inl back) = subst (λ s. AreStepped held net caps max order old s (k + 1) moved) (sym back.1) (passed back.0)
      turned-still m e (inr step) = as_new moved step.0 (stepped-still can sound some in' (sym step.1 ∙ e))

  -- after all of them
  module _ (all : IsOrderOf (length net.nodes) order) (k : ℕ) (past : length order ≤ k) (now : State) where
    each-still : ((j : ℕ) → j < k → is_held held (block_at order j) ≡ false → StaysAt net caps max old (block_at order j)) →
        (b : ℕ) → b < length net.nodes → is_held held b ≡ false → StaysAt net caps max old b
    each-still still b in' free =
        let there = all.all b in' in
        let at : block_at order there.0 ≡ b = ap (λ (x : BlockId). x.0) (get_or_default order there.0 nobody there.1 there.2 ∙ there.3) ∙ there.4 in
        let low : there.0 < k = (let inside = there.2 in omega (arith, inside, past)) in
        subst (StaysAt net caps max old) at (still there.0 low (subst (λ a. is_held held a ≡ false) (sym at) free))

    pub has_moved : 1 ≤ max → (moved : Bool) → AreStepped held net caps max order old now k moved → HasMovedBeside held net caps max old now moved
    has_moved some true is = is.less refl
    has_moved some false is = (is.same refl, (max, some, omega arith, each-still (is.still refl)))

-- with more firings each, and after more work
module _ (held : List Bool) (net : Network) (caps : Capacities) (few max : ℕ) (old now : State) where
  pub moved_more : few ≤ max → (moved : Bool) → HasMovedBeside held net caps few old now moved → HasMovedBeside held net caps max old now moved
  moved_more low true has = has
  moved_more low false has = (has.0, (has.1.0, has.1.1, (let least = has.1.2 in omega arith), has.1.3))

module _ {B : Type 0} (meaning : B → Meaning) (held : List Bool) (few max : ℕ) where
  abbrev net_in : PlantState B → Network
  net_in p = net_of meaning p.graph

  pub moved_then : (p q r : PlantState B) → q ≡ record p { state = q.state } → CanRun (net_in p) → Sound (net_in q) q.capacities q.state → HasWorked meaning max q r →
      (moved : Bool) → moved ≡ true → HasMovedBeside held (net_in p) p.capacities few p.state q.state moved → HasMovedBeside held (net_in p) p.capacities max p.state r.state moved
  moved_then p q r same can sound worked false e has = absurd (cc)
  moved_then p q r same can sound worked true e less =
      let fewer = work_leaves_fewer (net_in p) p.capacities max can q.state r.state (subst (λ (x : PlantState B). Sound (net_in x) x.capacities q.state) same sound)
      (subst (λ (x : PlantState B). WorkLeads (net_in x) x.capacities max q.state r.state) same worked.work) in
      omega arith

  -- the plant after a step of a plant of which only the state is another
  module _ (p q : PlantState B) (same : q ≡ record p { state = q.state }) where
    pub as_first : (P : Network → Capacities → Type 0) → P (net_in q) q.capacities → P (net_in p) p.capacities
    as_first P h = subst (λ (x : PlantState B). P (net_in x) x.capacities) same h

  -- and after parts of it were forgotten
  pub moved_kept : (p q r : PlantState B) → q ≡ record p { state = q.state } → r ≡ q → (moved : Bool) →
      HasMovedBeside held (net_in p) p.capacities max p.state q.state moved → HasMovedBeside held (net_in r) r.capacities max p.state r.state moved
  moved_kept p q r same kept moved has =
      subst (λ (x : PlantState B). HasMovedBeside held (net_in x) x.capacities max p.state x.state moved) (sym kept)
      (subst (λ (x : PlantState B). HasMovedBeside held (net_in x) x.capacities max p.state q.state moved) (sym same) has)
