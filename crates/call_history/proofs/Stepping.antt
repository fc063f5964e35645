-- A step of which calls are recorded is a claim, and the commit of what that handed out.
use Rattle.std.proofs.Common.{◌≡◌, ℕ, ◌<◌, [], ◌∷◌, ◌++◌, Bool, true, length, sym, ap, subst, ◌∙◌, append_assoc}
use Rattle.std.specs.Prelude.{Some}
use Rattle.std.specs.Cmp.{IsEquivalence}
use Rattle.std.proofs.lemmas.List.{length-map}
use Rattle.stream_model.specs.Meaning.{Meaning}
use Rattle.stream_model.specs.Network.{Network, State}
use Rattle.stream_model.specs.Machine as machine
use Rattle.stream_model.specs.Machine.{Job, Reply, commit_claimed, commit_of, job_of}
use Rattle.flowgraph.specs.Fault.{id}
use Rattle.flowgraph.specs.Flowgraph.{Flowgraph, net_of, node_of}
use Rattle.machine_laws.proofs.Claiming.{claims}
use Rattle.plant.specs.Own.{is_own}
use Rattle.call_history.specs.declared.entry.CallerId.TheVariants as caller
use Rattle.call_history.specs.History.{Asks, Brings, Says, Noted}
use Rattle.call_history.specs.Recorded.{RecordedState, IsClaimNoted, IsStepNoted, moved_on, note_of, now_in}
use Rattle.call_history.proofs.Owned.{comes_back, own_is}
use Rattle.call_history.proofs.Weighing.{handed_step, taken_own}

-- what is recorded of a commit
abbrev committed : (block count : ℕ) → Noted
committed b n = record { caller = caller.Worker (id b); asked = Brings b; said = Says (machine.Did n) }

module _ {B : Type 0} (meaning : B → Meaning) (b most : ℕ) (old : RecordedState B) where
  abbrev net : Network
  net = net_of meaning old.plant.graph

  abbrev now : Reply × State
  now = now_in meaning old (Asks (machine.Claim b most))

  -- a claim that hands out these firings
  abbrev Claims : RecordedState B → Reply → Type 0
  Claims mid reply = IsClaimNoted meaning (caller.Worker (id b)) (Asks (machine.Claim b most)) old mid (Some reply)

  -- they are the block's
  own_block : (mid : RecordedState B) (job : Job) → Claims mid (machine.Claimed job) → job.block ≡ b
  unfolding job_of
  own_block mid job claimed = ap (λ (j : Job). j.block) (claims net old.plant.capacities old.plant.state b most job (sym claimed.0)).job_is

  -- such a claim and the commit of its firings are the whole step
  whole : (mid new : RecordedState B) (job : Job) (own : Bool) (n : ℕ) → Claims mid (machine.Claimed job) → (commit_of (net_of meaning mid.plant.graph) mid.plant.state own job).0 ≡ machine.Did n →
      new ≡ moved_on mid (commit_of (net_of meaning mid.plant.graph) mid.plant.state own job).1 (committed b n ∷ []) → IsStepNoted meaning b most old new (Some (machine.Did n))
  whole mid new job own n claimed did left =
      let claim = note_of (caller.Worker (id b)) (Asks (machine.Claim b most)) in
      let taken = subst (λ (m : RecordedState B). ((commit_of (net_of meaning m.plant.graph) m.plant.state own job).0 ≡ machine.Did n)
      × (new ≡ moved_on m (commit_of (net_of meaning m.plant.graph) m.plant.state own job).1 (committed b n ∷ []))) claimed.1 (did, left) in
      let step : commit_claimed net now ≡ commit_of net now.1 own job = handed_step net now job (sym claimed.0) ∙ taken_own net now.1 own job n taken.0 in
      let list : (old.history ++ claim (machine.Claimed job) ∷ []) ++ committed b n ∷ [] ≡ old.history ++ claim now.0 ∷ committed b n ∷ [] =
      append_assoc old.history (claim (machine.Claimed job) ∷ []) (committed b n ∷ []) ∙ ap (λ r. old.history ++ claim r ∷ committed b n ∷ []) claimed.0 in
      subst (λ (x : Reply × State). (machine.Did n ≡ x.0) × (new ≡ moved_on old x.1 (claim now.0 ∷ committed b n ∷ []))) (sym step)
      (sym taken.0, taken.1 ∙ ap (λ h. record { plant = record old.plant { state = (commit_of net now.1 own job).1 }; opening = old.opening; history = h }) list)

  pub whole_step : (mid new : RecordedState B) (reply : Reply) (job : Job) (own : Bool) (n : ℕ) → Claims mid reply → reply ≡ machine.Claimed job →
      (commit_of (net_of meaning mid.plant.graph) mid.plant.state own job).0 ≡ machine.Did n →
      new ≡ moved_on mid (commit_of (net_of meaning mid.plant.graph) mid.plant.state own job).1 (committed job.block n ∷ []) → IsStepNoted meaning b most old new (Some (machine.Did n))
  whole_step mid new reply job own n claimed is did left =
      let claims = subst (Claims mid) is claimed in
      whole mid new job own n claims did (subst (λ k. new ≡ moved_on mid (commit_of (net_of meaning mid.plant.graph) mid.plant.state own job).1 (committed k n ∷ [])) (own_block mid job claims) left)

  -- the work of a claim of this graph is the graph's own
  its_own : (eq : B → B → Bool) → IsEquivalence eq → (graph : Flowgraph B) → graph ≡ old.plant.graph → b < length net.nodes → (mid : RecordedState B) (job : Job) → Claims mid (machine.Claimed job) →
      is_own eq old.plant.graph graph job.block ≡ true
  its_own eq laws graph same in' mid job claimed =
      ap (λ g. is_own eq old.plant.graph g job.block) same ∙ ap (λ k. is_own eq old.plant.graph old.plant.graph k) (own_block mid job claimed)
      ∙ own_is eq laws old.plant.graph b (subst (λ n. b < n) (length-map old.plant.graph.blocks (node_of meaning)) in')

  -- so its commit is not refused
  pub not_refused : (eq : B → B → Bool) → IsEquivalence eq → length old.plant.state.progress ≡ length net.nodes → (graph : Flowgraph B) → graph ≡ old.plant.graph →
      (mid : RecordedState B) (reply : Reply) (job : Job) → Claims mid reply → reply ≡ machine.Claimed job →
      (commit_of (net_of meaning mid.plant.graph) mid.plant.state (is_own eq mid.plant.graph graph job.block) job).0 ≡ machine.Refused machine.foreign → ⊥
  not_refused eq laws many graph same mid reply job claimed is refused =
      let handed = subst (Claims mid) is claimed in
      let inside = (claims net old.plant.capacities old.plant.state b most job (sym handed.0)).inside in
      comes_back net old.plant.capacities old.plant.state b most job (is_own eq old.plant.graph graph job.block) many (sym handed.0) (its_own eq laws graph same inside mid job handed)
      (subst (λ (m : RecordedState B). (commit_of (net_of meaning m.plant.graph) m.plant.state (is_own eq m.plant.graph graph job.block) job).0 ≡ machine.Refused machine.foreign) handed.1 refused)
