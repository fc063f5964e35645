-- A claim in flight keeps its room, whatever is called.
use Rattle.std.proofs.Common.{◌≡◌, ◌≢◌, ℕ, ◌+◌, ◌<◌, Bool, true, false, not, length, refl, arith, ap, sym, ◌∙◌, subst, inl, inr, get_or-set_same, get_or-set_other}
use Rattle.std.specs.Prelude.{◌==◌, nat_lt}
use Rattle.std.proofs.lemmas.Bool.{cases_eq, eq-eqb}
use Rattle.stream_model.specs.Network.{Network, Progress, State, no_progress, node_at, progress_at, role_at, is_keeper}
use Rattle.stream_model.specs.Claims.{Decision, IsDone, IsBusy, Ends, Fires, LacksItems, LacksRoom, decide}
use Rattle.stream_model.specs.Machine.{Capacities, Call, Feed, Close, Set, Claim, Commit, Abandon, Read, Job, Reply, with_progress, counts_of, claimed_by, claim_of, is_in_flight, commit_of, abandon_of, read_of, next}
use Rattle.stream_laws.specs.CanRun.{CanRun}
use Rattle.machine_laws.specs.Sound.{fired, Sound}
use Rattle.machine_laws.proofs.Choices.{if_both}
use Rattle.machine_laws.proofs.Sounds as sounds
use Rattle.machine_laws.proofs.Staying.{feeds, closes, sets_at}
use Rattle.plant_laws.specs.Holds.{Holds}
use Rattle.plant_laws.specs.Flights.{BringsTheSame}
use Rattle.plant_laws.proofs.Flying.{flights_keep_tags}
use Rattle.plant_storage.specs.declared.stores.Stores.{Stores}
use Rattle.plant_storage.specs.Stores.{stored_in}
use Rattle.plant_storage.specs.Lending.{HasRoom, KeepsRoom, KeepsAllRoom}
use Rattle.plant_storage.proofs.Rooms.{room_stays, room_stays-other}

-- the call claims firings of block b
abbrev pub is_claim_of : ℕ → Call → Bool
is_claim_of b (Claim c max) = c == b
is_claim_of b _ = false

module _ (net : Network) (can : CanRun net) (caps : Capacities) (st : State) (sound : Sound net caps st) (b : ℕ) where
  -- what is in flight was so before
  abbrev WasIn : State → Type 0
  WasIn after = 0 < (progress_at after.progress b).claimed → progress_at after.progress b ≡ progress_at st.progress b

  abbrev Was : Reply × State → Type 0
  Was r = WasIn r.1

  moved : (c : ℕ) (s : Progress) → (c ≡ b → (c < length net.nodes) × (s.claimed ≡ 0)) → WasIn (with_progress st c s)
  moved c s at some =
      elim (cases_eq b c) [
        | inl e ↦ absurd (
            let own = at (sym e) in
            let here : progress_at (with_progress st c s).progress b ≡ s = ap (progress_at (with_progress st c s).progress) e ∙ get_or-set_same st.progress c s no_progress (rw sound.progress_count own.0) in
            let count = ap (λ (p : Progress). p.claimed) here in
            let none = own.1 in
            omega arith)
        | inr ne ↦ get_or-set_other st.progress c b s no_progress ne
      ]

  claim_at : (c : ℕ) → c ≢ b → (d : Decision) → Was (claimed_by net st c d)
  claim_at c ne IsDone = λ _. refl
  claim_at c ne IsBusy = λ _. refl
  claim_at c ne (LacksItems p) = λ _. refl
  claim_at c ne (LacksRoom p) = λ _. refl
  claim_at c ne Ends = moved c (record (progress_at st.progress c) { done = true }) (λ e. absurd (ne e))
  claim_at c ne (Fires count) = moved c (record (progress_at st.progress c) { claimed = count }) (λ e. absurd (ne e))

  claims : (c max : ℕ) → c ≢ b → Was (claim_of net caps st c max)
  unfolding claim_of
  claims c max ne = claim_at c ne (decide (node_at net c) (counts_of net caps st c) max)

  commits : (own : Bool) (job : Job) → Was (commit_of net st own job)
  unfolding commit_of
  commits own job =
      let s = progress_at st.progress job.block in
      if_both (is_in_flight net st own job) _ _ Was
      (λ e. moved job.block (record s { firings = s.firings + s.claimed; claimed = 0 }) (λ _. ((sounds.in_flight net can caps st sound own job e).member, refl)))
      (λ _ _. refl)

  abandons : (own : Bool) (job : Job) → Was (abandon_of net st own job)
  unfolding abandon_of
  abandons own job =
      let s = progress_at st.progress job.block in
      if_both (is_in_flight net st own job) _ _ Was
      (λ e. moved job.block (record s { claimed = 0 }) (λ _. ((sounds.in_flight net can caps st sound own job e).member, refl)))
      (λ _ _. refl)

  reads : (c from max : ℕ) → Was (read_of net st c from max)
  unfolding read_of
  reads c from max =
      if_both (not (nat_lt c (length net.nodes))) _ _ Was (λ _ _. refl)
      (λ _. if_both (not (is_keeper (role_at net c))) _ _ Was (λ _ _. refl)
      (λ _. if_both (nat_lt (progress_at st.progress c).firings from) _ _ Was (λ _ _. refl) (λ _ _. refl)))

  -- only a claim of the block itself starts a flight
  pub flight_was : (call : Call) → is_claim_of b call ≡ false → 0 < (progress_at (next net caps st call).1.progress b).claimed → progress_at (next net caps st call).1.progress b ≡ progress_at st.progress b
  flight_was (Feed c t xs ms) other some = (feeds net caps st sound c t xs ms b).1
  flight_was (Close c) other some = (closes net caps st sound c b).1
  flight_was (Set c at v) other some = (sets_at net caps st sound c at v b).1
  flight_was (Claim c max) other some =
      if_both (nat_lt c (length net.nodes)) _ _ Was (λ _. claims c max (λ e. let is = eq-eqb c b e in absurd (cc))) (λ _ _. refl) some
  flight_was (Commit own job) other some = commits own job some
  flight_was (Abandon own job) other some = abandons own job some
  flight_was (Read c from max) other some = reads c from max some

  module _ (in' : b < length net.nodes) (call : Call) (other : is_claim_of b call ≡ false) (some : 0 < (progress_at (next net caps st call).1.progress b).claimed)
      (old new : Stores) (holds : Holds net caps st (stored_in old)) (holds' : Holds net caps (next net caps st call).1 (stored_in new)) where
    abbrev later : State
    later = (next net caps st call).1

    abbrev count : ℕ
    count = (progress_at st.progress b).claimed

    firings : fired later b ≡ fired st b
    firings = ap (λ (p : Progress). p.firings) (flight_was call other some)

    claimed : (progress_at later.progress b).claimed ≡ (count)
    claimed = ap (λ (p : Progress). p.claimed) (flight_was call other some)

    brings : BringsTheSame net (stored_in old) (stored_in new) b (fired st b) (fired st b + (count))
    brings = flights_keep_tags net caps st (stored_in old) can sound holds call (stored_in new) b in' (let same = claimed in omega arith) firings claimed holds'

    as_later : HasRoom net new b (fired st b) (count) → HasRoom net new b (fired later b) (progress_at later.progress b).claimed
    as_later room = subst (λ (p : Progress). HasRoom net new b p.firings p.claimed) (sym (flight_was call other some)) room

    -- a flight that had room has it after any other call that leaves no place less room
    pub flight_room : KeepsAllRoom old new → HasRoom net old b (fired st b) (count) → HasRoom net new b (fired later b) (progress_at later.progress b).claimed
    flight_room keeps has = as_later (room_stays net can old new b (fired st b) (count) brings has keeps)

    -- or only those of another block
    pub flight_room-other : (a : ℕ) → (b ≡ a → ⊥) → KeepsRoom net a old new → HasRoom net old b (fired st b) (count) → HasRoom net new b (fired later b) (progress_at later.progress b).claimed
    flight_room-other a ne keeps has = as_later (room_stays-other net can old new b (fired st b) (count) brings has a ne keeps)
