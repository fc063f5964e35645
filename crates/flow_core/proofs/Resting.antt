-- Steps of all blocks, as what a script answers.
use Rattle.std.proofs.Common.{◌≡◌, ℕ, ◌<◌, Bool, true, List, length, refl, sym, subst, arith, inl, inr, eqb-true}
use Rattle.std.specs.Prelude.{◌⊎◌, Option, ◌==◌}
use Rattle.std.proofs.lemmas.List.Sums.{AllPass-from_list_all}
use Rattle.stream_model.specs.Meaning.{Meaning}
use Rattle.stream_model.specs.Network.{Progress, State, progress_at, no_progress}
use Rattle.stream_model.specs.Machine.{is_idle}
use Rattle.machine_laws.specs.Sound.{Sound}
use Rattle.flowgraph.specs.Flowgraph.{net_of}
use Rattle.claimed_work.specs.Jobs.{JobState}
use Rattle.plant.specs.Plant.{PlantState}
use Rattle.plant.specs.Settling.{StepsLead, HasSettled, HoldsSettled}
use Rattle.plant.specs.declared.answers.Settled.{Settled}
use Rattle.flow_core.specs.Session.{KeepsJobs, Rests, Settles, Stepped, graph_of, in_state, no_memory, reply_line, settled_line, standing_of, turn}
use Rattle.flow_core.proofs.Flying.{Leaves}
use Rattle.flow_core.proofs.Claiming.{keeps_on}

none_claimed : (st : State) → is_idle st ≡ true → (b : ℕ) → b < length st.progress → (progress_at st.progress b).claimed ≡ 0
none_claimed st idle b inside = eqb-true _ 0 (AllPass-from_list_all (λ (s : Progress). s.claimed == 0) st.progress idle b no_progress inside)

module _ {B : Type 0} (meaning : B → Meaning) (p q : PlantState B) (same : q ≡ in_state p q.state) where
  -- where nothing is claimed no job is kept
  pub idle_keeps : (jobs : List (Option (JobState B))) → Sound (net_of meaning p.graph) p.capacities p.state → is_idle p.state ≡ true →
      KeepsJobs (net_of meaning p.graph) p.graph p.state jobs → KeepsJobs (net_of meaning q.graph) q.graph q.state jobs
  idle_keeps jobs sound idle keeps =
      subst (λ (x : PlantState B). KeepsJobs (net_of meaning x.graph) x.graph q.state jobs) (sym same)
      (keeps_on (net_of meaning p.graph) p.graph p.state q.state jobs keeps leaves)
    where
      leaves : (b : ℕ) → b < length (net_of meaning p.graph).nodes → Leaves (net_of meaning p.graph) p.state q.state b
      leaves b inside some =
          let none = none_claimed p.state idle b (let n = sound.progress_count in omega (arith, n, inside)) in
          absurd (omega (arith, none, some))

  module _ (kept : List Bool) (line : List ℕ) (steps : StepsLead (net_of meaning p.graph) p.capacities turn p.state q.state) (idle : is_idle q.state ≡ true) where
    rests : (how : Settled) → HasSettled (net_of meaning q.graph) q.capacities q.state how → HoldsSettled (net_of meaning q.graph) q.state how → line ≡ settled_line how →
        Rests (graph_of meaning p) q.state line
    rests how settled whole told =
        record {
          how = how;
          settled = subst (λ (x : PlantState B). HasSettled (net_of meaning x.graph) x.capacities q.state how) same settled;
          whole = subst (λ (x : PlantState B). HoldsSettled (net_of meaning x.graph) q.state how) same whole;
          told = told;
        }

    stepped : Rests (graph_of meaning p) q.state line ⊎ (line ≡ reply_line no_memory) → Stepped (graph_of meaning p) (standing_of p kept) (standing_of q kept) line
    stepped r = record { kept = refl; steps = steps; idle = idle; rests = r }

    pub settles : is_idle p.state ≡ true → (how : Settled) → HasSettled (net_of meaning q.graph) q.capacities q.state how → HoldsSettled (net_of meaning q.graph) q.state how →
        line ≡ settled_line how → Settles (is_idle p.state) (graph_of meaning p) (standing_of p kept) (standing_of q kept) line
    settles was how settled whole told =
        subst (λ (t : Bool). Settles t (graph_of meaning p) (standing_of p kept) (standing_of q kept) line) (sym was) (stepped (inl (rests how settled whole told)))

    pub runs_out : is_idle p.state ≡ true → line ≡ reply_line no_memory → Settles (is_idle p.state) (graph_of meaning p) (standing_of p kept) (standing_of q kept) line
    runs_out was told = subst (λ (t : Bool). Settles t (graph_of meaning p) (standing_of p kept) (standing_of q kept) line) (sym was) (stepped (inr told))
