-- What a plant keeps stays true as a claim is made, given up, and given room.
use Rattle.std.proofs.Common.{◌≡◌, ◌≢◌, ℕ, ◌<◌, ◌+◌, List, length, true, false, refl, arith, ap, sym, ◌∙◌, subst, inl, inr, lt-ltb, ne_eqb, get_or-set_same}
use Rattle.std.proofs.lemmas.Bool.{cases_eq, cond-true}
use Rattle.std.specs.Prelude.{nat_lt, Vec}
use Rattle.std.specs.Global.{Global}
use Rattle.stream_model.specs.Network.{Network, Progress, State, node_at, no_progress, progress_at}
use Rattle.stream_model.specs.Claims as claims
use Rattle.stream_model.specs.Claims.{IsDone, IsBusy, Ends, Fires, LacksItems, LacksRoom, decide}
use Rattle.stream_model.specs.Machine.{Capacities, Call, Claim, Reply, counts_of, claimed_by, claim_of, job_of, next}
use Rattle.stream_laws.specs.CanRun.{CanRun}
use Rattle.graph_model.specs.Gains.{AreWithinGain}
use Rattle.machine_laws.specs.Sound.{Sound}
use Rattle.machine_laws.proofs.Deciding.{Reason, decide-reason}
use Rattle.machine_laws.proofs.Sounds.{calls_keep_sound}
use Rattle.plant_laws.specs.Changes.{with_released}
use Rattle.plant_laws.specs.Flights.{BringsTheSame}
use Rattle.plant_laws.specs.Holds.{Holds}
use Rattle.plant_laws.proofs.Ending.{ending_holds}
use Rattle.plant_laws.proofs.Handing.{claiming_holds}
use Rattle.firing_rules.specs.Decision.{answer_of}
use Rattle.firing_rules.specs.declared.decision.Decision.TheVariants as decision
use Rattle.plant_storage.specs.declared.intake.Intake.{Intake}
use Rattle.plant_storage.specs.declared.stores.Stores.{Stores}
use Rattle.plant_storage.specs.Stores.{state_of, stored_in}
use Rattle.plant_storage.specs.Delivery.{CanRelease}
use Rattle.plant_storage.specs.Lending.{HasRoom, KeepsAllRoom}
use Rattle.plant_storage.proofs.Flights.{is_claim_of, flight_was, flight_room}
use Rattle.plant_storage.proofs.Releasable.{can_release}
use Rattle.plant_storage.proofs.Rooms.{room_stays}
use Rattle.plant.specs.Plant.{Keeps, KeepsBut}
use Rattle.plant.specs.Answers.{is_claimed}
use Rattle.plant.proofs.Limits.{gain_stays}

-- what is kept of all blocks is kept of all but one, and the other way about where this one has its room
pub but_from : (net : Network) (caps : Capacities) (s : Stores) (ps : List Progress) (b : ℕ) → Keeps net caps s ps → KeepsBut net caps s ps b
but_from net caps s ps b keeps = record { sound = keeps.sound; gain = keeps.gain; stored = keeps.stored; room = λ a in' ne some. keeps.room a in' some }

pub keeps_from : (net : Network) (caps : Capacities) (s : Stores) (ps : List Progress) (b : ℕ) → KeepsBut net caps s ps b →
    (0 < (progress_at ps b).claimed → HasRoom net s b (progress_at ps b).firings (progress_at ps b).claimed) → Keeps net caps s ps
keeps_from net caps s ps b keeps here = record {
  sound = keeps.sound;
  gain = keeps.gain;
  stored = keeps.stored;
  room = λ a in' some. elim (cases_eq a b) [
    | inl e ↦ subst (λ k. HasRoom net s k (progress_at ps k).firings (progress_at ps k).claimed) (sym e) (here (subst (λ k. 0 < (progress_at ps k).claimed) e some))
    | inr ne ↦ keeps.room a in' ne some
  ];
}

pub all_room : (s : Stores) → KeepsAllRoom s s
all_room s = record { buffers = λ a p. omega arith; brought = omega arith; sinks = λ a. (omega arith, omega arith) }

-- where no block's tape or settings change, and what is stored stays, there is room as before
module _ (net : Network) (caps : Capacities) (can : CanRun net) (s s' : Stores) (ps : List Progress) (b : ℕ) (keeps : KeepsBut net caps s ps b)
    (stored : stored_in s' ≡ stored_in s) (handed : s'.handed ≡ s.handed) (rooms : KeepsAllRoom s s') where
  brings_same : (a k c : ℕ) → BringsTheSame net (stored_in s) (stored_in s') a k (k + c)
  brings_same a k c = subst (λ x. BringsTheSame net (stored_in s) x a k (k + c)) (sym stored) (record { taken = λ q used. refl; brought = λ p used. refl })

  pub keeps_roomier : KeepsBut net caps s' ps b
  keeps_roomier =
      let there : state_of s.handed.items ps ≡ state_of s'.handed.items ps = ap (λ (h : Vec Intake Global). state_of h.items ps) (sym handed) in
      record {
        sound = subst (Sound net caps) there keeps.sound;
        gain = subst (λ (st : State). AreWithinGain net st.handed) there keeps.gain;
        stored = subst (Holds net caps (state_of s'.handed.items ps)) (sym stored) (subst (λ st. Holds net caps st (stored_in s)) there keeps.stored);
        room = λ a in' ne some. room_stays net can s s' a (progress_at ps a).firings (progress_at ps a).claimed (brings_same a (progress_at ps a).firings (progress_at ps a).claimed) (keeps.room a in' ne some) rooms;
      }

-- after a call that claims for block b alone, if at all, and hands nothing to any
module _ (net : Network) (caps : Capacities) (can : CanRun net) (s : Stores) (ps : List Progress) (b : ℕ) (keeps : KeepsBut net caps s ps b)
    (call : Call) (others : (a : ℕ) → a ≢ b → is_claim_of a call ≡ false) where
  pub keeps_called : (s' : Stores) (ps' : List Progress) → (next net caps (state_of s.handed.items ps) call).1 ≡ state_of s'.handed.items ps' → s'.handed ≡ s.handed →
      Holds net caps (next net caps (state_of s.handed.items ps) call).1 (stored_in s') → KeepsAllRoom s s' → KeepsBut net caps s' ps' b
  keeps_called s' ps' there handed holds rooms =
      let st = state_of s.handed.items ps in
      let at : (a : ℕ) → progress_at (next net caps st call).1.progress a ≡ progress_at ps' a = λ a. ap (λ (x : State). progress_at x.progress a) there in
      record {
        sound = subst (Sound net caps) there (calls_keep_sound net caps st can keeps.sound call);
        gain = subst (λ (x : State). AreWithinGain net x.handed) there (gain_stays net caps st call keeps.gain);
        stored = subst (λ x. Holds net caps x (stored_in s')) there holds;
        room = λ a in' ne some.
            let flying : 0 < (progress_at (next net caps st call).1.progress a).claimed = subst (λ (p : Progress). 0 < p.claimed) (sym (at a)) some in
            let was : 0 < (progress_at ps a).claimed = subst (λ (p : Progress). 0 < p.claimed) (flight_was net can caps st keeps.sound a call (others a ne) flying) flying in
            subst (λ (p : Progress). HasRoom net s' a p.firings p.claimed) (at a)
            (flight_room net can caps st keeps.sound a in' call (others a ne) flying s s' keeps.stored holds rooms (keeps.room a in' ne was));
      }

-- a claim of block b
module _ (net : Network) (caps : Capacities) (can : CanRun net) (s : Stores) (ps : List Progress) (keeps : Keeps net caps s ps) (b max : ℕ) (in' : b < length net.nodes) where
  abbrev st : State
  st = state_of s.handed.items ps

  next_is : next net caps (st) (Claim b max) ≡ claim_of net caps (st) b max
  next_is = cond-true (nat_lt b (length net.nodes)) _ _ (lt-ltb b (length net.nodes) in')

  claims_as : (d : claims.Decision) → decide (node_at net b) (counts_of net caps (st) b) max ≡ d → claim_of net caps (st) b max ≡ claimed_by net (st) b d
  unfolding claim_of
  claims_as d e = ap (claimed_by net (st) b) e

  stays_as : (d : claims.Decision) → decide (node_at net b) (counts_of net caps (st) b) max ≡ d → (claimed_by net (st) b d).1 ≡ st → Holds net caps (next net caps (st) (Claim b max)).1 (stored_in s)
  stays_as d e same = subst (λ x. Holds net caps x (stored_in s)) (sym (ap (λ (r : Reply × State). r.1) (next_is ∙ claims_as d e) ∙ same)) keeps.stored

  -- unless the block ends, what is stored stays
  stored_unless : (d : claims.Decision) → decide (node_at net b) (counts_of net caps (st) b) max ≡ d → (d ≡ Ends → ⊥) → Holds net caps (next net caps (st) (Claim b max)).1 (stored_in s)
  stored_unless IsDone e ne = stays_as IsDone e refl
  stored_unless IsBusy e ne = stays_as IsBusy e refl
  stored_unless Ends e ne = absurd (ne refl)
  stored_unless (Fires count) e ne =
      claiming_holds net caps (st) (stored_in s) can keeps.sound keeps.stored b max (job_of net (st) b count) (ap (λ (r : Reply × State). r.0) (next_is ∙ claims_as (Fires count) e))
  stored_unless (LacksItems p) e ne = stays_as (LacksItems p) e refl
  stored_unless (LacksRoom p) e ne = stays_as (LacksRoom p) e refl

  others : (a : ℕ) → a ≢ b → is_claim_of a (Claim b max) ≡ false
  others a ne = ne_eqb b a (λ e. ne (sym e))

  abbrev Then : Stores → List Progress → Type 0
  Then s' ps' = (claim_of net caps (st) b max).1 ≡ state_of s'.handed.items ps' → KeepsBut net caps s' ps' b

  pub keeps_claimed : (ps' : List Progress) → (answer_of (progress_at ps b).firings (decide (node_at net b) (counts_of net caps (st) b) max) ≡ decision.Ended → ⊥) → Then s ps'
  keeps_claimed ps' ne there =
      keeps_called net caps can s ps b (but_from net caps s ps b keeps) (Claim b max) others s ps' (ap (λ (r : Reply × State). r.1) next_is ∙ there) refl
      (stored_unless (decide (node_at net b) (counts_of net caps (st) b) max) refl (λ e. ne (ap (answer_of (progress_at ps b).firings) e))) (all_room s)

  -- only where the block ends is that the answer
  ended_is : (first : ℕ) (d : claims.Decision) → answer_of first d ≡ decision.Ended → d ≡ Ends
  ended_is first IsDone e = absurd (cc)
  ended_is first IsBusy e = absurd (cc)
  ended_is first Ends e = refl
  ended_is first (Fires count) e = absurd (cc)
  ended_is first (LacksItems p) e = absurd (cc)
  ended_is first (LacksRoom p) e = absurd (cc)

  module _ (ended : answer_of (progress_at ps b).firings (decide (node_at net b) (counts_of net caps (st) b) max) ≡ decision.Ended) where
    ends : decide (node_at net b) (counts_of net caps (st) b) max ≡ Ends
    ends = ended_is (progress_at ps b).firings (decide (node_at net b) (counts_of net caps (st) b) max) ended

    pub may_release : CanRelease net (stored_in s) b
    may_release =
        let why : Reason (node_at net b) (counts_of net caps (st) b) max Ends = subst (Reason (node_at net b) (counts_of net caps (st) b) max) ends (decide-reason (node_at net b) (counts_of net caps (st) b) max) in
        can_release net can caps (st) keeps.sound (stored_in s) keeps.stored b in' why.0.live

    pub keeps_ended : (s' : Stores) (ps' : List Progress) → s'.handed ≡ s.handed → stored_in s' ≡ with_released net (stored_in s) b → KeepsAllRoom s s' → Then s' ps'
    keeps_ended s' ps' handed stored rooms there =
        keeps_called net caps can s ps b (but_from net caps s ps b keeps) (Claim b max) others s' ps' (ap (λ (r : Reply × State). r.1) next_is ∙ there) handed
        (subst (Holds net caps (next net caps (st) (Claim b max)).1) (sym stored) (ending_holds net caps (st) (stored_in s) can keeps.sound keeps.stored b max in' ends)) rooms

    pub all_ended : (s' : Stores) (ps' : List Progress) → (claim_of net caps (st) b max).1 ≡ state_of s'.handed.items ps' → KeepsBut net caps s' ps' b → Keeps net caps s' ps'
    all_ended s' ps' there but =
        let why : Reason (node_at net b) (counts_of net caps (st) b) max Ends = subst (Reason (node_at net b) (counts_of net caps (st) b) max) ends (decide-reason (node_at net b) (counts_of net caps (st) b) max) in
        let own : Progress = record (progress_at ps b) { done = true } in
        let at : progress_at ps' b ≡ own =
        ap (λ (x : State). progress_at x.progress b) (sym there ∙ ap (λ (r : Reply × State). r.1) (claims_as Ends ends)) ∙ get_or-set_same ps b own no_progress (rw keeps.sound.progress_count in') in
        let idle = ap (λ (p : Progress). p.claimed) at ∙ why.0.idle in
        keeps_from net caps s' ps' b but (λ some. absurd (omega (arith, idle, some)))

  -- where nothing is claimed and nothing ends, all is as it was
  same_as : (d : claims.Decision) (k : ℕ) → is_claimed (answer_of k d) ≡ false → (answer_of k d ≡ decision.Ended → ⊥) → (claimed_by net (st) b d).1 ≡ st
  same_as IsDone k plain ne = refl
  same_as IsBusy k plain ne = refl
  same_as Ends k plain ne = absurd (ne refl)
  same_as (Fires count) k plain ne = absurd (cc)
  same_as (LacksItems p) k plain ne = refl
  same_as (LacksRoom p) k plain ne = refl

  pub keeps_plain : (ps' : List Progress) → (claim_of net caps (st) b max).1 ≡ state_of s.handed.items ps' →
      is_claimed (answer_of (progress_at ps b).firings (decide (node_at net b) (counts_of net caps (st) b) max)) ≡ false →
      (answer_of (progress_at ps b).firings (decide (node_at net b) (counts_of net caps (st) b) max) ≡ decision.Ended → ⊥) → Keeps net caps s ps'
  keeps_plain ps' there plain ne =
      let d = decide (node_at net b) (counts_of net caps (st) b) max in
      let same : (claim_of net caps (st) b max).1 ≡ st = ap (λ (r : Reply × State). r.1) (claims_as d refl) ∙ same_as d (progress_at ps b).firings plain ne in
      subst (Keeps net caps s) (ap (λ (x : State). x.progress) (sym same ∙ there)) keeps
