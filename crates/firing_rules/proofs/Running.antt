-- What a claim does to a sound state.
use Rattle.std.proofs.Common.{◌≡◌, ℕ, zero, suc, ◌+◌, ◌*◌, ◌^◌, ◌<◌, ◌≤◌, Bool, true, false, List, [], ◌∷◌, map, length, get_or, refl, arith, ap, sym, ◌∙◌, subst, inl, inr, ◌&&◌, lt-ltb, pos, mul-le-mul_left, mul-le-mul_right}
use Rattle.std.specs.Prelude.{slice_set, ◌||◌, nat_lt}
use Rattle.std.specs.List.{list_all}
use Rattle.std.proofs.lemmas.Bool.{cases_Bool, and_left, ltb-true, ltb-false}
use Rattle.std.proofs.lemmas.List.{length-map, length-replicate, get_or-map, set-get_or, get_or-set_same}
use Rattle.stream_model.specs.Lists.{below}
use Rattle.stream_model.specs.Meaning.{Meaning}
use Rattle.stream_model.specs.Network as model
use Rattle.stream_model.specs.Network.{Network, Handed, State, node_at, handed_at, nothing_handed, progress_at, no_progress, role_at, is_source}
use Rattle.stream_model.specs.Claims as claims
use Rattle.stream_model.specs.Claims.{InputCounts, Counts, decide}
use Rattle.stream_model.specs.Machine as machine
use Rattle.stream_model.specs.Machine.{Capacities, Claim, is_waiting, counts_in, counts_out, counts_of, claim_of, is_quiet, is_idle}
use Rattle.stream_model.proofs.Streams.{given_by-rises, taken_by-rises}
use Rattle.graph_model.specs.Gains.{most_grown}
use Rattle.graph_model.specs.Graphs.{IsValidGraph}
use Rattle.stream_laws.specs.CanRun.{CanRun}
use Rattle.machine_laws.specs.Sound.{Sound, reached}
use Rattle.machine_laws.specs.Bounds as bounds
use Rattle.machine_laws.proofs.Bounding.{counts_are_small, alone_fits}
use Rattle.machine_laws.proofs.Sounds.{calls_keep_sound}
use Rattle.machine_laws.proofs.Moving as moving
use Rattle.machine_laws.proofs.Inputs.{below-at}
use Rattle.machine_laws.proofs.Looking.{inputs_source, inputs_other}
use Rattle.firing_rules.specs.declared.progress.Tape.{Tape}
use Rattle.firing_rules.specs.declared.decision.Decision.{Decision}
use Rattle.firing_rules.specs.State.{state_of, lent, zeros, tape_of, HasTapes, IsRunning, StaysRunning}
use Rattle.firing_rules.specs.Situation.{Seen, net_seen, node_seen, counts_seen}
use Rattle.firing_rules.specs.Small.{AreSmall}
use Rattle.firing_rules.specs.Firings.{committed, abandoned}
use Rattle.firing_rules.specs.Decision.{answer_of, claimed_by, waits, rests}
use Rattle.firing_rules.proofs.Looks.{no_tape}

-- lengths and marks are all of a tape that counts
tapes_at : (tapes : List Tape) (hs : List Handed) (b : ℕ) → HasTapes tapes hs → tape_of (handed_at hs b) ≡ get_or tapes b no_tape
tapes_at tapes hs b h = at_place hs b ∙ ap (λ ts. get_or ts b no_tape) h
  where
    at_place : (gs : List Handed) (k : ℕ) → tape_of (handed_at gs k) ≡ get_or (map tape_of gs) k no_tape
    at_place [] k = refl
    at_place (g ∷ gs) zero = refl
    at_place (g ∷ gs) (suc k) = at_place gs k

pub zeros_have : (tapes : List Tape) → HasTapes tapes (map zeros tapes)
zeros_have [] = refl
zeros_have (t ∷ ts) =
    let long : length (zeros t).tape ≡ t.length = length-replicate t.length (pos 0) in
    let here : tape_of (zeros t) ≡ t = ap (λ (k : ℕ). let u : Tape = record { length = k; closed = t.closed } in u) long in
    ap (λ u. u ∷ map tape_of (map zeros ts)) here ∙ ap (λ us. t ∷ us) (zeros_have ts)

module _ (net : Network) (caps : Capacities) (tapes : List Tape) (b : ℕ) where
  same_inputs : (hs gs : List Handed) (ps : List model.Progress) → HasTapes tapes hs → HasTapes tapes gs → counts_in net (state_of hs ps) b ≡ counts_in net (state_of gs ps) b
  same_inputs hs gs ps h g =
      elim (cases_Bool (is_source (role_at net b))) [
        | inl e ↦ inputs_source net (state_of hs ps) b e
            ∙ ap (λ (t : Tape). let i : InputCounts = record { written = t.length; ended = t.closed } in i ∷ []) (tapes_at tapes hs b h ∙ sym (tapes_at tapes gs b g))
            ∙ sym (inputs_source net (state_of gs ps) b e)
        | inr e ↦ inputs_other net (state_of hs ps) b e ∙ sym (inputs_other net (state_of gs ps) b e)
      ]

  pub same_counts : (hs : List Handed) (ps : List model.Progress) → HasTapes tapes hs → counts_of net caps (lent tapes ps) b ≡ counts_of net caps (state_of hs ps) b
  same_counts hs ps h =
      let p = progress_at ps b in
      ap (λ (is : List InputCounts). let c : Counts = record { firings = p.firings; claimed = p.claimed; done = p.done; inputs = is; outputs = counts_out net caps (lent tapes ps) b } in c)
      (same_inputs (map zeros tapes) hs ps (zeros_have tapes) h)

-- the state after a claim, and whether it waits
claimed_after : (net : Network) (st : State) (b first : ℕ) (d : claims.Decision) →
    (machine.claimed_by net st b d).1 ≡ state_of st.handed (slice_set st.progress b (claimed_by (progress_at st.progress b) (answer_of first d)))
claimed_after net st b first claims.IsDone = ap (state_of st.handed) (sym (set-get_or st.progress b no_progress))
claimed_after net st b first claims.IsBusy = ap (state_of st.handed) (sym (set-get_or st.progress b no_progress))
claimed_after net st b first claims.Ends = refl
claimed_after net st b first (claims.Fires count) = refl
claimed_after net st b first (claims.LacksItems p) = ap (state_of st.handed) (sym (set-get_or st.progress b no_progress))
claimed_after net st b first (claims.LacksRoom p) = ap (state_of st.handed) (sym (set-get_or st.progress b no_progress))

pub claim_after : (net : Network) (caps : Capacities) (st : State) (b max first : ℕ) →
    (claim_of net caps st b max).1 ≡ state_of st.handed (slice_set st.progress b (claimed_by (progress_at st.progress b) (answer_of first (decide (node_at net b) (counts_of net caps st b) max))))
unfolding claim_of
claim_after net caps st b max first = claimed_after net st b first (decide (node_at net b) (counts_of net caps st b) max)

waits_by : (net : Network) (st : State) (b first : ℕ) (d : claims.Decision) → waits (answer_of first d) ≡ is_waiting (machine.claimed_by net st b d).0
waits_by net st b first claims.IsDone = refl
waits_by net st b first claims.IsBusy = refl
waits_by net st b first claims.Ends = refl
waits_by net st b first (claims.Fires count) = refl
waits_by net st b first (claims.LacksItems p) = refl
waits_by net st b first (claims.LacksRoom p) = refl

pub claim_waits : (net : Network) (caps : Capacities) (st : State) (b max first : ℕ) →
    waits (answer_of first (decide (node_at net b) (counts_of net caps st b) max)) ≡ is_waiting (claim_of net caps st b max).0
unfolding claim_of
claim_waits net caps st b max first = waits_by net st b first (decide (node_at net b) (counts_of net caps st b) max)

-- in a valid graph all counts are small
module _ (names : List (List ℕ)) (net : Network) (caps : Capacities) (tapes : List Tape) (can : CanRun net) (valid : IsValidGraph names net) where
  module _ (ps : List model.Progress) (running : IsRunning net caps tapes ps) (b : ℕ) (in' : b < length net.nodes) where
    small_at : bounds.IsSmall net (state_of running.handed ps) b
    small_at = counts_are_small names net caps (state_of running.handed ps) can valid running.within running.sound b in'

    pub few_reached : (progress_at ps b).firings + (progress_at ps b).claimed < 2 ^ 62
    few_reached =
        let few : (node_at net b).multiple * ((progress_at ps b).firings + (progress_at ps b).claimed) < 2 ^ 62 = (small_at).firings in
        let each : 1 * ((progress_at ps b).firings + (progress_at ps b).claimed) ≤ (node_at net b).multiple * ((progress_at ps b).firings + (progress_at ps b).claimed) =
        mul-le-mul_right ((progress_at ps b).firings + (progress_at ps b).claimed) (can.sound b).some in
        omega arith

  pub running_small : (ps : List model.Progress) → IsRunning net caps tapes ps → AreSmall net tapes ps
  running_small ps running =
      let st : State = state_of running.handed ps in
      let handed : length tapes ≡ length running.handed = ap length (sym running.tapes_are) ∙ length-map running.handed tape_of in
      record {
        runs = can;
        blocks = running.sound.progress_count;
        taped = handed ∙ running.sound.handed_count;
        short = λ k d lt.
            let there : k < length net.nodes = rw (← running.sound.handed_count, ← handed) lt in
            let short : length (handed_at running.handed k).tape ≤ most_grown = tape_fits k (is_source (role_at net k)) there refl in
            let there' : k < length running.handed = rw (← handed) lt in
            let same : get_or tapes k d ≡ tape_of (handed_at running.handed k) = ap (λ ts. get_or ts k d) (sym running.tapes_are) ∙ get_or-map tape_of running.handed k nothing_handed d there' in
            rw same short;
        small = λ b in'.
            let small = small_at ps running b in' in
            let up : (progress_at ps b).firings ≤ reached st b = omega arith in
            let each = mul-le-mul_left (node_at net b).multiple up in
            record {
              firings = (let all = small.firings in omega arith);
              given = (let all = small.given in let rises = given_by-rises (node_at net b) (can.sound b) (progress_at ps b).firings (reached st b) up in omega arith);
              taken = λ p used. (let all = small.taken p used in let rises = taken_by-rises (node_at net b) (can.sound b) p (progress_at ps b).firings (reached st b) up in omega arith);
            };
      }
    where
      tape_fits : (k : ℕ) (s : Bool) → k < length net.nodes → is_source (role_at net k) ≡ s → length (handed_at running.handed k).tape ≤ most_grown
      tape_fits k true there e = let short = (running.sound.handed k there).short in let fits = alone_fits net can k (handed_at running.handed k).longest there (running.within k there e) in omega arith
      tape_fits k false there e = let none = (running.sound.handed k there).tape e in omega arith

-- a claim that was decided over a situation, here s, and made of the block's own progress another
module _ {B : Type 0} (meaning : B → Meaning) (looked s : Seen B) (same : looked ≡ s) (max : ℕ) (decision : Decision)
    (decided : decision ≡ answer_of (counts_seen meaning looked).firings (decide (node_seen meaning looked) (counts_seen meaning looked) max))
    (own claimed : model.Progress) (own_is : own ≡ progress_at s.progress s.block) (claimed_is : claimed ≡ claimed_by own decision) where
  abbrev net : Network
  net = net_seen meaning s

  abbrev next : List model.Progress
  next = slice_set s.progress s.block claimed

  is : decision ≡ answer_of (counts_seen meaning s).firings (decide (node_seen meaning s) (counts_seen meaning s) max)
  is = subst (λ (u : Seen B). decision ≡ answer_of (counts_seen meaning u).firings (decide (node_seen meaning u) (counts_seen meaning u) max)) same decided

  pub decision_is : (hs : List Handed) → HasTapes s.tapes hs → decision ≡ answer_of (counts_seen meaning s).firings (decide (node_seen meaning s) (counts_of net s.capacities (state_of hs s.progress) s.block) max)
  decision_is hs h = is ∙ ap (λ (c : Counts). answer_of (counts_seen meaning s).firings (decide (node_seen meaning s) c max)) (same_counts net s.capacities s.tapes s.block hs s.progress h)

  pub progress_after : (hs : List Handed) → HasTapes s.tapes hs → (claim_of net s.capacities (state_of hs s.progress) s.block max).1 ≡ state_of hs next
  progress_after hs h =
      claim_after net s.capacities (state_of hs s.progress) s.block max (counts_seen meaning s).firings
      ∙ ap (λ (d : Decision). state_of hs (slice_set s.progress s.block (claimed_by (progress_at s.progress s.block) d))) (sym (decision_is hs h))
      ∙ ap (λ (p : model.Progress). state_of hs (slice_set s.progress s.block p)) (ap (λ (p : model.Progress). claimed_by p decision) (sym own_is) ∙ sym claimed_is)

  module _ (can : CanRun net) (in' : s.block < length net.nodes) (running : IsRunning net s.capacities s.tapes s.progress) where
    pub running_after : IsRunning net s.capacities s.tapes next
    running_after =
        let kept = calls_keep_sound net s.capacities (state_of running.handed s.progress) can running.sound (Claim s.block max) in
        let inside = lt-ltb s.block (length net.nodes) in' in
        let there : Sound net s.capacities (claim_of net s.capacities (state_of running.handed s.progress) s.block max).1 = rw inside at kept in
        record { handed = running.handed; tapes_are = running.tapes_are; within = running.within; sound = subst (Sound net s.capacities) (progress_after running.handed running.tapes_are) there }

    pub claimed_small : (names : List (List ℕ)) → IsValidGraph names net → claimed.firings + claimed.claimed < 2 ^ 62
    claimed_small names valid =
        let there : s.block < length s.progress = rw running.sound.progress_count in' in
        subst (λ (p : model.Progress). p.firings + p.claimed < 2 ^ 62) (get_or-set_same s.progress s.block claimed no_progress there)
        (few_reached names net s.capacities s.tapes can valid next running_after s.block in')

-- a test of one more
pub one_more : (test : ℕ → Bool) (n : ℕ) → ((k : ℕ) → k < n → test k ≡ true) → test n ≡ true → (k : ℕ) → k < n + 1 → test k ≡ true
one_more test n all here =
    λ k lt.
    elim (cases_Bool (nat_lt k n)) [
      | inl e ↦ all k (ltb-true k n e)
      | inr e ↦ (let last = ltb-false k n e in let same : n ≡ k = omega (arith, last, lt) in subst (λ j. test j ≡ true) same here)
    ]

-- a test that fails for one fails for all
pub not_below : (test : ℕ → Bool) (n p : ℕ) → p < n → test p ≡ false → false ≡ list_all test (below n)
not_below test n p in' e =
    elim (cases_Bool (list_all test (below n))) [
      | inl all ↦ (let f = below-at test n all p in' in absurd (cc))
      | inr none ↦ sym none
    ]

-- whether blocks rest is a matter of counts too
list_all-agree : {A : Type 0} (f g : A → Bool) → ((x : A) → f x ≡ g x) → (xs : List A) → list_all f xs ≡ list_all g xs
list_all-agree f g same [] = refl
list_all-agree f g same (x ∷ xs) = ap (λ (b : Bool). b && list_all f xs) (same x) ∙ ap (λ (b : Bool). g x && b) (list_all-agree f g same xs)

module _ (net : Network) (caps : Capacities) (tapes : List Tape) (ps : List model.Progress) (hs : List Handed) (h : HasTapes tapes hs) where
  rests_same : (b : ℕ) → rests net caps (lent tapes ps) b ≡ rests net caps (state_of hs ps) b
  rests_same b =
      ap (λ (w : Bool). (progress_at ps b).done || w)
      (sym (claim_waits net caps (lent tapes ps) b 1 0)
      ∙ ap (λ (c : Counts). waits (answer_of 0 (decide (node_at net b) c 1))) (same_counts net caps tapes b hs ps h)
      ∙ claim_waits net caps (state_of hs ps) b 1 0)

  -- where no claim is in flight, the network is quiet when all rest
  pub quiet_is : is_idle (state_of hs ps) ≡ true → list_all (rests net caps (lent tapes ps)) (below (length net.nodes)) ≡ is_quiet net caps (state_of hs ps)
  quiet_is idle =
      list_all-agree (rests net caps (lent tapes ps)) (rests net caps (state_of hs ps)) rests_same (below (length net.nodes))
      ∙ if_idle (is_idle (state_of hs ps)) (list_all (rests net caps (state_of hs ps)) (below (length net.nodes))) idle
    where
      if_idle : (idle others : Bool) → idle ≡ true → others ≡ (idle && others)
      if_idle true others e = refl
      if_idle false others e = cc

  pub busy_is : is_idle (state_of hs ps) ≡ false → false ≡ is_quiet net caps (state_of hs ps)
  busy_is busy = sym (and_left (is_idle (state_of hs ps)) (list_all (rests net caps (state_of hs ps)) (below (length net.nodes))) busy)

-- a claim that is committed or given up
module _ (ps : List model.Progress) (b : ℕ) (there : b < length ps) (some : 0 < (progress_at ps b).claimed) where
  stays : (new : List model.Progress) →
      ((net : Network) → CanRun net → (caps : Capacities) (hs : List Handed) → Sound net caps (state_of hs ps) → b < length net.nodes → Sound net caps (state_of hs new)) → StaysRunning ps new
  stays new moved = λ net caps tapes can running.
      let in' : b < length net.nodes = rw (← running.sound.progress_count) there in
      record { handed = running.handed; tapes_are = running.tapes_are; within = running.within; sound = moved net can caps running.handed running.sound in' }

  pub commit_runs : StaysRunning ps (committed ps b)
  commit_runs = stays (committed ps b) (λ net can caps hs sound in'. moving.committed net can caps (state_of hs ps) sound b in' some)

  pub abandon_runs : StaysRunning ps (abandoned ps b)
  abandon_runs = stays (abandoned ps b) (λ net can caps hs sound in'. moving.abandoned net can caps (state_of hs ps) sound b in' some)
