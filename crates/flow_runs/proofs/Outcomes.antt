-- What an action does that runs in threads, from what it tells and whether that was written.
use Rattle.std.proofs.Common.{inl, inr, ◌≡◌, ℕ, List, refl, ap, sym, ◌∙◌, subst, Bool, true}
use Rattle.std.specs.Prelude.{Option, Result, Ok, Err, IsOk, IfOk, IfErr}
use Rattle.graph_model.specs.Rates.{balance_of, capacities_of}
use Rattle.machine_laws.specs.Sound.{Sound}
use Rattle.flowgraph.specs.Flowgraph.{net_of}
use Rattle.kinds.specs.declared.kind.Kind.{Kind}
use Rattle.kinds.specs.Kind.{meaning_of}
use Rattle.plant.specs.Plant.{PlantState}
use Rattle.plant.specs.Settling.{HasSettled}
use Rattle.plant.specs.declared.answers.Settled.TheVariants.{Done, Quiet}
use Rattle.graph_file.specs.Refusals.{Refusal}
use Rattle.graph_file.specs.Blocks.{drafted}
use Rattle.file_plants.specs.Opening.{Opened, opened_of}
use Rattle.flowgraph.specs.Agreeing.{graphs_agree}
use Rattle.threads.specs.Outcomes.{HasReturned, handed_of}
use Rattle.call_history.specs.History.{Noted, IsRunOf}
use Rattle.call_history.specs.Reached.{HasReached, opening_of}
use Rattle.threads.specs.Live.{LiveRunEndsIn}
use Rattle.threads.specs.declared.outcome.Outcome.{Outcome}
use Rattle.threads.specs.declared.outcome.Outcome.TheVariants as outcome
use Rattle.plant.specs.Handed.{OpeningState}
use Rattle.closing.specs.Closing.{with_all_closed}
use Rattle.flow_runs.proofs.Agreeing.{same_names}
use Rattle.byte_io.specs.Ends.{AppendsBeginning}
use Rattle.flow_core.specs.Reports.{run_text}
use Rattle.flow_runs.specs.Threads.{HasCome}
use Rattle.flow_core.specs.Serve as alone
use Rattle.flow_core.specs.Serve.{IsAtRest, IsEnd, plant_in, stalled_in}
use Rattle.flow_core.proofs.Outcomes.{no_reads, refused_not, refused_writes}
use Rattle.flow_runs.specs.Serve.{AnswersLines, Becomes, Fails, RunsNot, StopsLines, StopsLive, IsLiveTo, IsRunTo, reads_failed_by, reads_in, writes_failed_by, writes_in}
use Rattle.flow_core.specs.declared.fault.Fault.{Fault}
use Rattle.flow_core.specs.declared.fault.Fault.TheVariants.{File, Script}
use Rattle.flow_core.specs.declared.script.ScriptFault.TheVariants.{Write, Memory}
use Rattle.flow_runs.specs.declared.fault.ServeFault.{ServeFault}
use Rattle.flow_runs.specs.declared.fault.ServeFault.TheVariants.{Command, Run}

module _ {A : Type 0} (IsDone : List ℕ → ℕ → Type 0) (r : Result A Refusal) where
  -- a run in threads came to no end, or nothing was reported
  pub failed_not : (out : Option (List ℕ)) (fault : ServeFault) → Fails r fault → RunsNot IsDone r out out fault
  failed_not out (Run fault) h = (h, refl)
  failed_not out (Command fault) h = refused_not IsDone r out fault h

  pub failed_writes : (fault : ServeFault) → Fails r fault → writes_failed_by fault ≡ 0
  failed_writes (Run fault) h = refl
  failed_writes (Command fault) h = refused_writes IsDone r fault h

  -- and nothing was read
  pub no_reads_of_run : {X : Type 0} (out out' : Option (List ℕ)) (result : Result X ServeFault) → IfErr result (RunsNot IsDone r out out') → reads_in result ≡ 0
  no_reads_of_run out out' (Ok s) h = refl
  no_reads_of_run out out' (Err (Run fault)) h = refl
  no_reads_of_run {X} out out' (Err (Command fault)) h = no_reads IsDone r {X = X} out out' (Err fault) h

-- what is so of a result is so of one that it becomes
module _ {A B : Type 0} (Is : A → B → Type 0) where
  pub becomes_ok : (r : Result A Fault) (s : Result B ServeFault) (P : A → Type 0) (Q : B → Type 0) → Becomes Is r s → IfOk r P → ((a : A) (b : B) → Is a b → P a → Q b) → IfOk s Q
  becomes_ok (Ok a) (Ok b) P Q is h k = k a b is h
  becomes_ok (Ok a) (Err e) P Q is h k = tt
  becomes_ok (Err e) (Ok b) P Q is h k = absurd is
  becomes_ok (Err e) (Err f) P Q is h k = tt

  pub becomes_err : (r : Result A Fault) (s : Result B ServeFault) (P : Fault → Type 0) (Q : ServeFault → Type 0) → Becomes Is r s → IfErr r P → ((e : Fault) → P e → Q (Command e)) → IfErr s Q
  becomes_err (Ok a) (Ok b) P Q is h k = tt
  becomes_err (Ok a) (Err e) P Q is h k = absurd is
  becomes_err (Err e) (Ok b) P Q is h k = tt
  becomes_err (Err e) (Err f) P Q is h k = subst Q (sym is) (k e h)

  pub becomes_reads : (r : Result A Fault) (s : Result B ServeFault) → Becomes Is r s → alone.reads_in r ≡ reads_in s
  becomes_reads (Ok a) (Ok b) is = refl
  becomes_reads (Ok a) (Err e) is = absurd is
  becomes_reads (Err e) (Ok b) is = absurd is
  becomes_reads (Err e) (Err f) is = ap (λ (x : ServeFault). reads_failed_by x) (sym is)

  pub becomes_writes : (r : Result A Fault) (s : Result B ServeFault) → Becomes Is r s → alone.writes_in r ≡ writes_in s
  becomes_writes (Ok a) (Ok b) is = refl
  becomes_writes (Ok a) (Err e) is = absurd is
  becomes_writes (Err e) (Ok b) is = absurd is
  becomes_writes (Err e) (Err f) is = ap (λ (x : ServeFault). writes_failed_by x) (sym is)

-- a plant with the same names and network, and with buffers as large as its rates ask, is the one that was opened, elsewhere
module _ (p r : PlantState Kind) (eq : Kind → Kind → Bool) (agree : graphs_agree eq r.graph p.graph ≡ true) (net : net_of meaning_of r.graph ≡ net_of meaning_of p.graph)
    (fits : r.capacities ≡ capacities_of (net_of meaning_of r.graph) (balance_of (net_of meaning_of r.graph))) where
  same_graph : drafted r.graph ≡ drafted p.graph
  same_graph = let names = same_names eq r.graph p.graph agree in λ i. record { names = names i; net = net i }

  same_capacities : p.capacities ≡ capacities_of (net_of meaning_of p.graph) (balance_of (net_of meaning_of p.graph)) → r.capacities ≡ p.capacities
  same_capacities fit = fits ∙ ap (λ n. capacities_of n (balance_of n)) net ∙ sym fit

  same_plant : p.capacities ≡ capacities_of (net_of meaning_of p.graph) (balance_of (net_of meaning_of p.graph)) → opened_of r ≡ record (opened_of p) { state = r.state }
  same_plant fit =
      let capacities = same_capacities fit in
      let graph = same_graph in
      λ i. record { draft = graph i; capacities = capacities i; state = r.state }

module _ (file text : List ℕ) (status : ℕ) (p r : PlantState Kind) (stalled : Option Opened) (eq : Kind → Kind → Bool) where
  pub ran_in_threads : HasReturned meaning_of eq (handed_of (with_all_closed meaning_of p)) r → plant_in file ≡ Ok (opened_of p) →
      p.capacities ≡ capacities_of (net_of meaning_of p.graph) (balance_of (net_of meaning_of p.graph)) → Sound (net_of meaning_of r.graph) r.capacities r.state →
      IsEnd (opened_of r) stalled text status → IsRunTo file stalled text status
  ran_in_threads back opens fit sound is =
      let same = same_plant p r eq back.graph back.net back.capacities fit in (
        record {
          plant = opened_of p;
          opens = opens;
          last = r.state;
          handed = back.handed;
          sound = subst (λ (x : Opened). Sound x.draft.net x.capacities x.state) same sound;
          rests = subst (λ (x : Opened). IsAtRest x.draft.net x.capacities x.state) same is.rests;
          told = is.told ∙ ap (λ (x : Opened). run_text x.draft r.state) same;
          well = is.well;
        },
        is.left ∙ ap (λ (x : Opened). stalled_in x r.state) same,
      )

  -- lines were answered meanwhile
  pub ran_live : (log : List Noted) (input out : Option (List ℕ)) → HasCome meaning_of eq (opening_of p) log r → AnswersLines p.graph log input out → plant_in file ≡ Ok (opened_of p) →
      p.capacities ≡ capacities_of (net_of meaning_of p.graph) (balance_of (net_of meaning_of p.graph)) → IsEnd (opened_of r) stalled text status → IsLiveTo file input out stalled text status
  ran_live log input out come lines opens fit is =
      let back = come.reached in
      let same = same_plant p r eq back.graph back.net back.capacities fit in (
        record {
          plant = p;
          opens = opens;
          log = log;
          lines = lines;
          history = come.history;
          logs = come.logs;
          own = back.own;
          last = r.state;
          run = subst (λ (x : Opened). IsRunOf x.draft.net x.capacities p.state come.history r.state) same back.run;
          rests = subst (λ (x : Opened). IsAtRest x.draft.net x.capacities x.state) same is.rests;
          told = is.told ∙ ap (λ (x : Opened). run_text x.draft r.state) same;
          well = is.well;
        },
        is.left ∙ ap (λ (x : Opened). stalled_in x r.state) same,
      )

-- how a live run ended that came to rest
module _ (eq : Kind → Kind → Bool) (o : OpeningState Kind) (history : List Noted) {P : Type 0} (out : Outcome Kind P) (p : PlantState Kind) where
  pub ended_done : out ≡ outcome.Done p → LiveRunEndsIn meaning_of eq o history out → HasReached meaning_of eq o history p × HasSettled (net_of meaning_of p.graph) p.capacities p.state Done
  ended_done e h = let k = subst (LiveRunEndsIn meaning_of eq o history) e h in (k.0, k.1.done)

  pub ended_stalled : out ≡ outcome.Stalled p → LiveRunEndsIn meaning_of eq o history out → HasReached meaning_of eq o history p × HasSettled (net_of meaning_of p.graph) p.capacities p.state Quiet
  ended_stalled e h = let k = subst (LiveRunEndsIn meaning_of eq o history) e h in (k.0, (k.1.undone, k.1.quiet))

-- a live run of a file that is good stopped by its lines, or came to no end
module _ (file : List ℕ) (i i' o o' : Option (List ℕ)) (p : PlantState Kind) (opens : plant_in file ≡ Ok (opened_of p)) where
  pub live_stopped : (fault : ServeFault) → StopsLines p.graph i o fault → StopsLive file i i' o o' fault
  live_stopped (Command (File fault)) h = absurd h
  live_stopped (Command (Script fault)) h = (p, opens, inl h)
  live_stopped (Run fault) h = subst IsOk (sym opens) refl

  -- no memory was there to report it
  pub live_untold : (log : List Noted) → AnswersLines p.graph log i o → StopsLive file i i' o o' (Command (Script Memory))
  live_untold log h = (p, opens, inr (log, h))

  -- its report was written in part
  pub live_cut : (between : Option (List ℕ)) (stalled : Option Opened) (text : List ℕ) (status : ℕ) → IsLiveTo file i o stalled text status → AppendsBeginning between o' text →
      StopsLive file i i' o o' (Command (Script Write))
  live_cut between stalled text status h cut = (p, opens, inr (between, stalled, text, status, h, cut))
