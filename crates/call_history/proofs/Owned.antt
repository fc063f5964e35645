-- A claim that was made is the one in flight, and its commit is taken.
use Rattle.std.proofs.Common.{◌≡◌, ℕ, ◌<◌, Bool, true, length, refl, sym, ap, ◌∙◌, arith, inl, inr}
use Rattle.std.specs.Prelude.{nat_lt, ◌&&◌}
use Rattle.std.specs.Cmp.{IsEquivalence}
use Rattle.std.proofs.lemmas.Bool.{and_from, lt-ltb}
use Rattle.std.proofs.lemmas.List.{get_or-set_same}
use Rattle.std.proofs.lemmas.Option.{slice_get_cases}
use Rattle.stream_model.specs.Network.{Network, State, Progress, progress_at, no_progress}
use Rattle.stream_model.specs.Machine as machine
use Rattle.stream_model.specs.Machine.{Capacities, Job, Reply, commit_of, is_in_flight, job_of, jobs_agree, next, with_progress}
use Rattle.machine_laws.specs.Stays.{in_flight}
use Rattle.machine_laws.proofs.Agreeing.{jobs_agree-same}
use Rattle.machine_laws.proofs.Claiming.{claims}
use Rattle.flowgraph.specs.Flowgraph.{Flowgraph}
use Rattle.plant.specs.Own.{is_own}

-- a claim that was made is the one in flight
pub claimed_flies : (net : Network) (st : State) (b count : ℕ) → b < length st.progress →
    in_flight net (with_progress st b (record (progress_at st.progress b) { claimed = count })) b ≡ job_of net st b count
unfolding job_of
claimed_flies net st b count in' = let s = get_or-set_same st.progress b (record (progress_at st.progress b) { claimed = count }) no_progress in' in rw s refl

-- the claim in flight is taken back
pub in_flight_is : (net : Network) (st : State) (b : ℕ) → b < length net.nodes → 0 < (progress_at st.progress b).claimed → is_in_flight net st true (in_flight net st b) ≡ true
unfolding job_of
in_flight_is net st b in' some =
    let count = (progress_at st.progress b).claimed in
    and_from (nat_lt b (length net.nodes) && nat_lt 0 count) (jobs_agree (in_flight net st b) (job_of net st b count))
    (and_from (nat_lt b (length net.nodes)) (nat_lt 0 count) (lt-ltb b (length net.nodes) in') (lt-ltb 0 count some)) (jobs_agree-same (in_flight net st b) (in_flight net st b) refl)

-- a graph has the blocks that it has
pub own_is : {B : Type 0} (eq : B → B → Bool) → IsEquivalence eq → (g : Flowgraph B) (b : ℕ) → b < length g.blocks → is_own eq g g b ≡ true
own_is eq laws g b in' =
    elim (slice_get_cases g.blocks b).1 [
      | inl found ↦ (let e = found.2 in rw e (laws.refl found.0.block))
      | inr past ↦ absurd (let low = past.0 in omega (arith, in', low))
    ]

-- the commit of the claim in flight is answered with its firings
pub commits : (net : Network) (st : State) (b : ℕ) → b < length net.nodes → 0 < (progress_at st.progress b).claimed → (commit_of net st true (in_flight net st b)).0 ≡ machine.Did (progress_at st.progress (in_flight net st b).block).claimed
unfolding commit_of
commits net st b in' some = let yes = in_flight_is net st b in' some in rw yes refl

-- so the commit of a claim just made is not refused
pub comes_back : (net : Network) (caps : Capacities) (st : State) (b most : ℕ) (job : Job) (own : Bool) → length st.progress ≡ length net.nodes →
    (next net caps st (machine.Claim b most)).0 ≡ machine.Claimed job → own ≡ true → (commit_of net (next net caps st (machine.Claim b most)).1 own job).0 ≡ machine.Refused machine.foreign → ⊥
comes_back net caps st b most job own many claimed its refused =
    let does = claims net caps st b most job claimed in
    let s : Progress = record (progress_at st.progress b) { claimed = does.count } in
    let mid : State = with_progress st b s in
    let low : b < length st.progress = (let i = does.inside in omega (arith, many, i)) in
    let count : (progress_at mid.progress b).claimed ≡ does.count = ap (λ (p : Progress). p.claimed) (get_or-set_same st.progress b s no_progress low) in
    let flies : in_flight net mid b ≡ job = claimed_flies net st b does.count low ∙ sym does.job_is in
    let did = commits net mid b does.inside (let k = does.some in omega (arith, count, k)) in
    let same : commit_of net (next net caps st (machine.Claim b most)).1 own job ≡ commit_of net mid true (in_flight net mid b) =
    ap (λ s. commit_of net s own job) does.state ∙ ap (λ o. commit_of net mid o job) its ∙ ap (λ j. commit_of net mid true j) (sym flies) in
    let is = sym refused ∙ ap (λ (r : Reply × State). r.0) same ∙ did in
    cc
