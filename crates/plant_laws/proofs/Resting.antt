-- A call whose reply reports no change makes none.
use Rattle.std.proofs.Common.{◌≡◌, ℕ, ℤ, ◌+◌, Bool, false, not, List, length, Option, Some, None, refl}
use Rattle.std.specs.Prelude.{nat_lt}
use Rattle.std.proofs.lemmas.Bool.{lt-ltb}
use Rattle.stream_model.specs.declared.vocabulary.ItemType.{ItemType}
use Rattle.stream_model.specs.declared.vocabulary.Wanted.{Wanted}
use Rattle.stream_model.specs.Numbers.{types_agree}
use Rattle.stream_model.specs.Settings.{Value}
use Rattle.stream_model.specs.Tags.{Mark}
use Rattle.stream_model.specs.Network.{Network, State, node_at, handed_at, progress_at, role_at, is_source, is_keeper}
use Rattle.stream_model.specs.Claims.{Decision, IsDone, IsBusy, Ends, Fires, LacksItems, LacksRoom, decide}
use Rattle.stream_model.specs.Machine.{Capacities, Feed, Close, Set, Claim, Commit, Abandon, Read, Reply, Job, marks_fit, feed_of, close_of, set_of, set_wanted, place_setting, is_wanted, floor_of, claimed_by, claim_of, counts_of, is_in_flight, commit_of, abandon_of, read_of}
use Rattle.machine_laws.proofs.Choices.{if_both}
use Rattle.plant_laws.specs.Calls.{tells_change, OtherwiseNothingChanges, DoneBlocksStayDone}

module _ (st : State) where
  -- the state is as it was, unless the reply reports a change
  abbrev pub Rests : Reply × State → Type 0
  Rests r = tells_change r.0 ≡ false → r.1 ≡ st

  module _ (net : Network) where
    feeds : (b : ℕ) (t : ItemType) (xs : List ℤ) (ms : List Mark) → Rests (feed_of net st b t xs ms)
    unfolding feed_of
    feeds b t xs ms =
        let s = handed_at st.handed b in
        if_both (not (nat_lt b (length net.nodes))) _ _ Rests (λ _ e. refl)
        (λ _. if_both (not (is_source (role_at net b))) _ _ Rests (λ _ e. refl)
        (λ _. if_both (not (types_agree t (node_at net b).meaning.outputs.item)) _ _ Rests (λ _ e. refl)
        (λ _. if_both s.closed _ _ Rests (λ _ e. refl)
        (λ _. if_both (not (marks_fit s.tape xs ms)) _ _ Rests (λ _ e. refl)
        (λ _. if_both (nat_lt s.longest (length s.tape + length xs)) _ _ Rests (λ _ e. refl) (λ _ e. absurd (cc)))))))

    closes : (b : ℕ) → Rests (close_of net st b)
    unfolding close_of
    closes b =
        if_both (not (nat_lt b (length net.nodes))) _ _ Rests (λ _ e. refl)
        (λ _. if_both (not (is_source (role_at net b))) _ _ Rests (λ _ e. refl)
        (λ _. if_both (handed_at st.handed b).closed _ _ Rests (λ _ e. refl) (λ _ e. absurd (cc))))

    places : (floor b at : ℕ) (v : Value) → Rests (place_setting floor st b at v)
    places floor b at v = if_both (nat_lt at floor) _ _ Rests (λ _ e. refl) (λ _ e. absurd (cc))

    sets_wanted : (b : ℕ) (at : Option ℕ) (v : Value) (o : Option Wanted) → Rests (set_wanted net st b at v o)
    sets_wanted b at v None = λ e. refl
    sets_wanted b None v (Some w) = if_both (not (is_wanted w v)) _ _ Rests (λ _ e. refl) (λ _. places (floor_of net st b) b (floor_of net st b) v)
    sets_wanted b (Some a) v (Some w) = if_both (not (is_wanted w v)) _ _ Rests (λ _ e. refl) (λ _. places (floor_of net st b) b a v)

    sets : (b : ℕ) (at : Option ℕ) (v : Value) → Rests (set_of net st b at v)
    unfolding set_of
    sets b at v = if_both (not (nat_lt b (length net.nodes))) _ _ Rests (λ _ e. refl) (λ _. sets_wanted b at v (node_at net b).meaning.setting)

    decides : (b : ℕ) (d : Decision) → Rests (claimed_by net st b d)
    decides b IsDone e = absurd (cc)
    decides b IsBusy e = refl
    decides b Ends e = absurd (cc)
    decides b (Fires count) e = absurd (cc)
    decides b (LacksItems p) e = refl
    decides b (LacksRoom p) e = refl

    claims : (caps : Capacities) (b max : ℕ) → Rests (claim_of net caps st b max)
    unfolding claim_of
    claims caps b max = decides b (decide (node_at net b) (counts_of net caps st b) max)

    commits : (own : Bool) (job : Job) → Rests (commit_of net st own job)
    unfolding commit_of
    commits own job = if_both (is_in_flight net st own job) _ _ Rests (λ _ e. absurd (cc)) (λ _ e. refl)

    abandons : (own : Bool) (job : Job) → Rests (abandon_of net st own job)
    unfolding abandon_of
    abandons own job = if_both (is_in_flight net st own job) _ _ Rests (λ _ e. absurd (cc)) (λ _ e. refl)

    reads : (b from max : ℕ) → Rests (read_of net st b from max)
    unfolding read_of
    reads b from max =
        if_both (not (nat_lt b (length net.nodes))) _ _ Rests (λ _ e. refl)
        (λ _. if_both (not (is_keeper (role_at net b))) _ _ Rests (λ _ e. refl)
        (λ _. if_both (nat_lt (progress_at st.progress b).firings from) _ _ Rests (λ _ e. refl) (λ _ e. refl)))

pub otherwise_nothing_changes : OtherwiseNothingChanges
otherwise_nothing_changes net caps st (Feed b t xs ms) = feeds st net b t xs ms
otherwise_nothing_changes net caps st (Close b) = closes st net b
otherwise_nothing_changes net caps st (Set b at v) = sets st net b at v
otherwise_nothing_changes net caps st (Claim b max) = if_both (nat_lt b (length net.nodes)) _ _ (Rests st) (λ _. claims st net caps b max) (λ _ e. refl)
otherwise_nothing_changes net caps st (Commit own job) = commits st net own job
otherwise_nothing_changes net caps st (Abandon own job) = abandons st net own job
otherwise_nothing_changes net caps st (Read b from max) = reads st net b from max

pub done_blocks_stay_done : DoneBlocksStayDone
unfolding claim_of
done_blocks_stay_done net caps st b max in' e = let inside = lt-ltb b (length net.nodes) in' in rw (inside, e) refl
