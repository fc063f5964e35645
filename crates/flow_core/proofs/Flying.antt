-- Claims in flight stay in flight, until they are given back.
use Rattle.std.proofs.Common.{◌≡◌, ℕ, ◌<◌, Bool, true, false, length, refl, sym, ap, ◌∙◌, subst, arith, inl, inr, eqb-true}
use Rattle.std.specs.Prelude.{◌==◌}
use Rattle.stream_model.specs.Network.{Network, State, progress_at}
use Rattle.stream_model.specs.Machine as machine
use Rattle.stream_model.specs.Machine.{Capacities, Call, Job, Reply, job_of, next, step_of, commit_claimed, commit_of}
use Rattle.stream_laws.specs.CanRun.{CanRun}
use Rattle.machine_laws.specs.Sound.{Sound}
use Rattle.machine_laws.specs.Stays.{in_flight, gives_back}
use Rattle.machine_laws.proofs.Following.{what_is_shown_stays}
use Rattle.machine_laws.proofs.Sounds.{calls_keep_sound}
use Rattle.machine_laws.proofs.Claiming.{claims}

-- a claim of block b that was in flight is so still
abbrev pub Leaves : Network → State → State → ℕ → Type 0
Leaves net st after b = 0 < (progress_at st.progress b).claimed → (0 < (progress_at after.progress b).claimed) × (in_flight net after b ≡ in_flight net st b)

pub leaves_same : (net : Network) (st : State) (b : ℕ) → Leaves net st st b
leaves_same net st b some = (some, refl)

count_of : (net : Network) (st : State) (b n : ℕ) → (job_of net st b n).count ≡ n
unfolding job_of
count_of net st b n = refl

pub block_of : (net : Network) (st : State) (b n : ℕ) → (job_of net st b n).block ≡ b
unfolding job_of
block_of net st b n = refl

pub not_eqb : (m n : ℕ) → (m ≡ n → ⊥) → (m == n) ≡ false
not_eqb m n h = at (m == n) refl
  where
    at : (t : Bool) → (m == n) ≡ t → (m == n) ≡ false
    at false e = e
    at true e = absurd (h (eqb-true m n e))

module _ (net : Network) (caps : Capacities) (can : CanRun net) where
  -- any call but one that gives it back leaves a claim as it is
  pub call_leaves_in : (st : State) → Sound net caps st → (call : Call) (b : ℕ) → b < length net.nodes → gives_back b call ≡ false → Leaves net st (next net caps st call).1 b
  call_leaves_in st sound call b in' not_back some =
      let after = (next net caps st call).1 in
      let same : in_flight net after b ≡ in_flight net st b =
      elim ((what_is_shown_stays net caps st can sound call b in').flight some) [
        | inl s ↦ s
        | inr g ↦ absurd (let no : true ≡ false = sym g ∙ not_back in cc)
      ] in
      let count : (progress_at after.progress b).claimed ≡ (progress_at st.progress b).claimed =
      sym (count_of net after b (progress_at after.progress b).claimed) ∙ ap (λ (j : Job). j.count) same ∙ count_of net st b (progress_at st.progress b).claimed in
      (omega (arith, count, some), same)

module _ (net : Network) (caps : Capacities) (st : State) (can : CanRun net) (sound : Sound net caps st) where
  pub call_leaves : (call : Call) (b : ℕ) → b < length net.nodes → gives_back b call ≡ false → Leaves net st (next net caps st call).1 b
  call_leaves = call_leaves_in net caps can st sound

  -- and so does a step
  module _ (b max c : ℕ) (in' : c < length net.nodes) (some : 0 < (progress_at st.progress c).claimed) where
    abbrev claimed : State
    claimed = (next net caps st (machine.Claim b max)).1

    abbrev StillFlies : State → Type 0
    StillFlies after = (0 < (progress_at after.progress c).claimed) × (in_flight net after c ≡ in_flight net st c)

    first : StillFlies claimed
    first = call_leaves (machine.Claim b max) c in' refl some

    -- the block that claimed is another
    other : (job : Job) → (next net caps st (machine.Claim b max)).0 ≡ machine.Claimed job → (job.block == c) ≡ false
    other job e =
        let does = claims net caps st b max job e in
        let is : job.block ≡ b = ap (λ (j : Job). j.block) does.job_is ∙ block_of net st b does.count in
        not_eqb (job.block) c (λ same. let none : (progress_at st.progress c).claimed ≡ 0 = subst (λ k. (progress_at st.progress k).claimed ≡ 0) (sym is ∙ same) does.idle in absurd (omega (arith, none, some)))

    after_claim : (job : Job) → (next net caps st (machine.Claim b max)).0 ≡ machine.Claimed job → StillFlies (commit_of net claimed true job).1
    after_claim job e =
        let f = first in
        let g = call_leaves_in net caps can claimed (calls_keep_sound net caps st can sound (machine.Claim b max)) (machine.Commit true job) c in' (other job e) f.0 in
        (g.0, g.1 ∙ f.1)

    by_reply : (r : Reply) → (next net caps st (machine.Claim b max)).0 ≡ r → StillFlies (commit_claimed net (r, claimed)).1
    by_reply (machine.Claimed job) e = after_claim job e
    by_reply (machine.Fed n) e = first
    by_reply (machine.Closed n) e = first
    by_reply (machine.Taken n) e = first
    by_reply machine.Done e = first
    by_reply machine.Busy e = first
    by_reply (machine.WaitingItems p) e = first
    by_reply (machine.WaitingRoom p) e = first
    by_reply (machine.Did n) e = first
    by_reply machine.Abandoned e = first
    by_reply (machine.Piece from held xs ts done) e = first
    by_reply (machine.Refused code) e = first
    by_reply (machine.Late floor) e = first

  pub step_leaves : (b max c : ℕ) → c < length net.nodes → Leaves net st (step_of net caps st b max).1 c
  step_leaves b max c in' some = by_reply b max c in' some (next net caps st (machine.Claim b max)).0 refl
