-- A step leaves nothing in flight where nothing was, and a feed of numbers leaves how far the blocks are.
use Rattle.std.proofs.Common.{◌≡◌, ℕ, ℤ, ◌≤◌, Bool, true, false, not, List, length, sym, subst, refl, ltb-true, Some, None}
use Rattle.std.specs.Prelude.{nat_lt, ◌&&◌, Option}
use Rattle.stream_model.specs.Tags.{Mark}
use Rattle.stream_model.specs.Network.{Network, State, role_at, is_source}
use Rattle.stream_model.specs.Machine.{Capacities, Reply, is_idle, step_of}
use Rattle.stream_laws.specs.CanRun.{CanRun}
use Rattle.machine_laws.specs.Sound.{Sound}
use Rattle.machine_laws.proofs.Choices.{if_both}
use Rattle.machine_laws.proofs.Rounds.{idle_steps_stay}
use Rattle.plant.specs.Answers.{Answered}
use Rattle.plant.specs.Feeding.{are_items, feed_numbers, given_type}
use Rattle.plant.specs.Plant.{PlantState}
use Rattle.plant.proofs.Idles.{feed-progress}

pub step-idle : (net : Network) (caps : Capacities) (st : State) → CanRun net → Sound net caps st → is_idle st ≡ true → (b max : ℕ) → 1 ≤ max → is_idle (step_of net caps st b max).1 ≡ true
step-idle net caps st can sound idle b max some = by_member (nat_lt b (length net.nodes)) refl
  where
    by_member : (m : Bool) → nat_lt b (length net.nodes) ≡ m → is_idle (step_of net caps st b max).1 ≡ true
    by_member true e = (idle_steps_stay net caps st can sound idle b max (ltb-true b (length net.nodes) e) some).0
    by_member false e = rw e idle

-- whatever was answered
pub stepped-idle : {B : Type 0} (now : Reply × State) (old new : PlantState B) (reply : Option Reply) → is_idle now.1 ≡ true → Answered now old new reply → is_idle old.state ≡ true → is_idle new.state ≡ true
stepped-idle now old new None then h idle = subst (λ (p : PlantState _). is_idle p.state ≡ true) (sym h.1) idle
stepped-idle now old new (Some reply) then h idle = subst (λ (p : PlantState _). is_idle p.state ≡ true) (sym h.1) then

pub feed_numbers-progress : (net : Network) (st : State) (b : ℕ) (xs : List ℤ) (ms : List Mark) → (feed_numbers net st b xs ms).1.progress ≡ st.progress
feed_numbers-progress net st b xs ms =
    if_both (nat_lt b (length net.nodes) && (is_source (role_at net b) && not (are_items (given_type net b) xs))) _ _ (λ (r : Reply × State). r.1.progress ≡ st.progress) (λ _. refl)
    (λ _. feed-progress net st b (given_type net b) xs ms)
