-- What a plant at rest has done.
use Rattle.std.proofs.Common.{◌≡◌, ℕ, ◌+◌, ◌-◌, List, Some, None, true, arith, subst, ◌∙◌, ap, not}
use Rattle.stream_model.specs.Lists.{greatest}
use Rattle.stream_model.specs.Network.{Network, State}
use Rattle.stream_model.specs.Machine.{Capacities, is_quiet}
use Rattle.graph_model.specs.Graphs.{IsValidGraph}
use Rattle.graph_model.specs.Rates.{Balance, Balanced, CanCount, count_limit, is_past_skips, past_skips, balance_of, capacities_of}
use Rattle.graph_model.proofs.Room.{past_from}
use Rattle.graph_model.proofs.Sizes.{capacities_suffice}
use Rattle.stream_model.proofs.Streams.{elim-true}
use Rattle.stream_laws.specs.CanRun.{CanRun}
use Rattle.graph_laws.specs.Running.{AreLawful}
use Rattle.graph_laws.proofs.Answering.{answers_are_right}
use Rattle.machine_laws.specs.Sound.{Sound}
use Rattle.machine_laws.proofs.Stalling.{quiet_is_done, quiet_is_whole}
use Rattle.plant.specs.Plant.{IsSettled}
use Rattle.plant.specs.declared.answers.Settled.TheVariants.{Quiet}
use Rattle.plant.specs.Settling.{HasSettled, HoldsSettled}

-- with the capacities of the balance that there is
pub quiet_settles : (names : List (List ℕ)) (net : Network) (bal : Balance) (caps : Capacities) (st : State) → IsValidGraph names net → AreLawful net → CanRun net → CanCount net →
    bal ≡ balance_of net → caps ≡ capacities_of net bal → Sound net caps st → is_quiet net caps st ≡ true → IsSettled net st
quiet_settles names net bal caps st valid lawful can counts is sizes sound quiet q balanced closed =
    let right = ((answers_are_right names net valid lawful).balanced q).0 balanced in
    let keeps = right.2 in
    let few = keeps.few in
    let whole : keeps.iterations + (count_limit - keeps.iterations) ≡ count_limit = omega arith in
    let past : is_past_skips net q count_limit ≡ true =
    subst (λ j. is_past_skips net q j ≡ true) whole (past_from net q can.level counts can.levels right.0.balanced keeps.iterations (count_limit - keeps.iterations) keeps.past) in
    let first : past_skips net q ≡ Some (greatest (λ n. not (is_past_skips net q (n - 1))) count_limit) = elim-true (is_past_skips net q count_limit) _ None past in
    let here : caps ≡ capacities_of net (Balanced q) = sizes ∙ ap (capacities_of net) (is ∙ balanced) in
    let sound' = subst (λ c. Sound net c st) here sound in
    let quiet' = subst (λ c. is_quiet net c st ≡ true) here quiet in
    let enough = capacities_suffice net q can.level counts can.levels right.0.balanced _ first in
    (quiet_is_done net q _ st can enough sound' closed quiet', quiet_is_whole net q _ st can right.0.balanced first sound' closed quiet')

-- so where a block is not done, the rates have no balance or a tape is open
pub quiet_misses : (names : List (List ℕ)) (net : Network) (bal : Balance) (caps : Capacities) (st : State) → IsValidGraph names net → AreLawful net → CanRun net → CanCount net →
    bal ≡ balance_of net → caps ≡ capacities_of net bal → Sound net caps st → HasSettled net caps st Quiet → HoldsSettled net st Quiet
quiet_misses names net bal caps st valid lawful can counts is sizes sound rests q balanced closed =
    let done = (quiet_settles names net bal caps st valid lawful can counts is sizes sound rests.1 q balanced closed).0 in
    let left = rests.0 in
    absurd (cc)
