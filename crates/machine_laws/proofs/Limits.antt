-- No call changes how long a tape may come to be, so what fits the graph at the opening fits it for good.
use Rattle.std.proofs.Common.{◌≡◌, ℕ, zero, suc, ◌+◌, ℤ, Bool, true, not, List, [], ◌∷◌, length, set, Option, Some, None, refl, sym, subst}
use Rattle.std.specs.Prelude.{nat_lt}
use Rattle.std.proofs.lemmas.List.{get_or-map}
use Rattle.stream_model.specs.declared.vocabulary.ItemType.{ItemType}
use Rattle.stream_model.specs.declared.vocabulary.Wanted.{Wanted}
use Rattle.stream_model.specs.Numbers.{types_agree}
use Rattle.stream_model.specs.Settings.{Value, put_setting}
use Rattle.stream_model.specs.Tags.{Mark}
use Rattle.stream_model.specs.Network.{Network, Node, Handed, State, no_node, nothing_handed, nothing_within, node_at, handed_at, progress_at, role_at, is_source, is_keeper, opening_within}
use Rattle.stream_model.specs.Claims.{Decision, IsDone, IsBusy, Ends, Fires, LacksItems, LacksRoom, decide}
use Rattle.stream_model.specs.Machine.{Capacities, Call, Feed, Close, Set, Claim, Commit, Abandon, Read, Job, Reply, with_tape, marks_fit, feed_of, close_of, set_of, set_wanted, place_setting, is_wanted, floor_of, counts_of, claimed_by, claim_of, is_in_flight, commit_of, abandon_of, read_of, next}
use Rattle.graph_model.specs.Gains.{IsWithinGain, AreWithinGain}
use Rattle.machine_laws.specs.Bounds.{CountsStaySmall}
use Rattle.machine_laws.specs.Runs.{state_after}
use Rattle.machine_laws.specs.Sound.{LimitsStay}
use Rattle.machine_laws.proofs.Bounding.{counts_are_small}
use Rattle.machine_laws.proofs.Choices.{if_both}
use Rattle.machine_laws.proofs.Running.{runs_are_right}

longest-set : (hs : List Handed) (b : ℕ) (h : Handed) → h.longest ≡ (handed_at hs b).longest → (c : ℕ) → (handed_at (set hs b h) c).longest ≡ (handed_at hs c).longest
longest-set [] b h e c = refl
longest-set (g ∷ gs) zero h e zero = e
longest-set (g ∷ gs) zero h e (suc c) = refl
longest-set (g ∷ gs) (suc b) h e zero = refl
longest-set (g ∷ gs) (suc b) h e (suc c) = longest-set gs b h e c

module _ (net : Network) (caps : Capacities) (st : State) where
  abbrev Stays : Reply × State → Type 0
  Stays r = (c : ℕ) → (handed_at r.1.handed c).longest ≡ (handed_at st.handed c).longest

  same : (c : ℕ) → (handed_at st.handed c).longest ≡ (handed_at st.handed c).longest
  same c = refl

  feeds : (b : ℕ) (t : ItemType) (xs : List ℤ) (ms : List Mark) → Stays (feed_of net st b t xs ms)
  unfolding feed_of
  feeds b t xs ms =
      let s = handed_at st.handed b in
      if_both (not (nat_lt b (length net.nodes))) _ _ Stays (λ _. same)
      (λ _. if_both (not (is_source (role_at net b))) _ _ Stays (λ _. same)
      (λ _. if_both (not (types_agree t (node_at net b).meaning.outputs.item)) _ _ Stays (λ _. same)
      (λ _. if_both s.closed _ _ Stays (λ _. same)
      (λ _. if_both (not (marks_fit s.tape xs ms)) _ _ Stays (λ _. same)
      (λ _. if_both (nat_lt s.longest (length s.tape + length xs)) _ _ Stays (λ _. same)
      (λ _. longest-set st.handed b (with_tape s b xs ms) refl))))))

  closes : (b : ℕ) → Stays (close_of net st b)
  unfolding close_of
  closes b =
      let s = handed_at st.handed b in
      if_both (not (nat_lt b (length net.nodes))) _ _ Stays (λ _. same)
      (λ _. if_both (not (is_source (role_at net b))) _ _ Stays (λ _. same)
      (λ _. if_both s.closed _ _ Stays (λ _. same)
      (λ _. longest-set st.handed b (record s { closed = true }) refl)))

  places : (floor b at : ℕ) (v : Value) → Stays (place_setting floor st b at v)
  places floor b at v =
      let s = handed_at st.handed b in
      if_both (nat_lt at floor) _ _ Stays (λ _. same)
      (λ _. longest-set st.handed b (record s { settings = put_setting (record { at = at; value = v }) s.settings }) refl)

  sets : (b : ℕ) (at : Option ℕ) (v : Value) (o : Option Wanted) → Stays (set_wanted net st b at v o)
  sets b at v None = same
  sets b None v (Some w) = if_both (not (is_wanted w v)) _ _ Stays (λ _. same) (λ _. places (floor_of net st b) b (floor_of net st b) v)
  sets b (Some a) v (Some w) = if_both (not (is_wanted w v)) _ _ Stays (λ _. same) (λ _. places (floor_of net st b) b a v)

  sets_at : (b : ℕ) (at : Option ℕ) (v : Value) → Stays (set_of net st b at v)
  unfolding set_of
  sets_at b at v = if_both (not (nat_lt b (length net.nodes))) _ _ Stays (λ _. same) (λ _. sets b at v (node_at net b).meaning.setting)

  decides : (b : ℕ) (d : Decision) → Stays (claimed_by net st b d)
  decides b IsDone = same
  decides b IsBusy = same
  decides b Ends = same
  decides b (Fires count) = same
  decides b (LacksItems p) = same
  decides b (LacksRoom p) = same

  claims : (b max : ℕ) → Stays (claim_of net caps st b max)
  unfolding claim_of
  claims b max = decides b (decide (node_at net b) (counts_of net caps st b) max)

  commits : (own : Bool) (job : Job) → Stays (commit_of net st own job)
  unfolding commit_of
  commits own job = if_both (is_in_flight net st own job) _ _ Stays (λ _. same) (λ _. same)

  abandons : (own : Bool) (job : Job) → Stays (abandon_of net st own job)
  unfolding abandon_of
  abandons own job = if_both (is_in_flight net st own job) _ _ Stays (λ _. same) (λ _. same)

  reads : (b from max : ℕ) → Stays (read_of net st b from max)
  unfolding read_of
  reads b from max =
      if_both (not (nat_lt b (length net.nodes))) _ _ Stays (λ _. same)
      (λ _. if_both (not (is_keeper (role_at net b))) _ _ Stays (λ _. same)
      (λ _. if_both (nat_lt (progress_at st.progress b).firings from) _ _ Stays (λ _. same) (λ _. same)))

  stays : (call : Call) → Stays (next net caps st call)
  stays (Feed b t xs ms) = feeds b t xs ms
  stays (Close b) = closes b
  stays (Set b at v) = sets_at b at v
  stays (Claim b max) = if_both (nat_lt b (length net.nodes)) _ _ Stays (λ _. claims b max) (λ _. same)
  stays (Commit own job) = commits own job
  stays (Abandon own job) = abandons own job
  stays (Read b from max) = reads b from max

pub limits_stay : LimitsStay
limits_stay = stays

-- what fits the graph at the opening
pub opening_fits : (net : Network) (longest : ℕ) → IsWithinGain net longest → AreWithinGain net (opening_within longest net).handed
opening_fits net longest within b in' e =
    subst (λ (h : Handed). IsWithinGain net h.longest) (sym (get_or-map (λ (n : Node). nothing_within longest) net.nodes b no_node nothing_handed in')) within

-- fits it after each call
pub fits_on : (net : Network) (caps : Capacities) (st : State) (call : Call) → AreWithinGain net st.handed → AreWithinGain net (next net caps st call).1.handed
fits_on net caps st call within b in' e = subst (IsWithinGain net) (sym (limits_stay net caps st call b)) (within b in' e)

fits_after : (net : Network) (caps : Capacities) (st : State) (calls : List Call) → AreWithinGain net st.handed → AreWithinGain net (state_after net caps st calls).handed
fits_after net caps st [] within = within
fits_after net caps st (call ∷ calls) within = fits_after net caps (next net caps st call).1 calls (fits_on net caps st call within)

pub counts_stay_small : CountsStaySmall
counts_stay_small names net caps longest can valid within calls =
    counts_are_small names net caps (state_after net caps (opening_within longest net) calls) can valid
    (fits_after net caps (opening_within longest net) calls (opening_fits net longest within)) (runs_are_right net caps longest can calls).sound
