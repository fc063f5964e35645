-- What a command does, from what it tells and whether that was written.
use Rattle.std.proofs.Common.{◌≡◌, ℕ, ◌+◌, List, refl, ap, sym, ◌∙◌, subst, arith, Bool, true, false}
use Rattle.std.specs.Option.{option_map}
use Rattle.std.specs.Prelude.{Option, Some, None, Result, Ok, Err, IfOk, IfErr, if◌then◌else◌}
use Rattle.std.specs.Io.KnownBytes.{Appends}
use Rattle.stream_model.specs.Network.{Network, State}
use Rattle.stream_model.specs.Machine.{Capacities, is_all_done, IsWhole}
use Rattle.flowgraph.specs.Flowgraph.{net_of}
use Rattle.kinds.specs.declared.kind.Kind.{Kind}
use Rattle.kinds.specs.Kind.{meaning_of}
use Rattle.plant.specs.Plant.{PlantState}
use Rattle.plant.specs.Settling.{HasSettled, HoldsSettled, StepsLead}
use Rattle.plant.specs.declared.answers.Settled.{Settled}
use Rattle.plant.specs.declared.answers.Settled.TheVariants.{Done, Quiet}
use Rattle.graph_file.specs.Refusals.{Refusal}
use Rattle.graph_file.specs.Blocks.{drafted}
use Rattle.file_plants.specs.Opening.{Opened, opened_of}
use Rattle.closing.specs.Closing.{with_all_closed}
use Rattle.byte_io.specs.Ends.{AppendsBeginning}
use Rattle.flow_core.specs.Session.{in_state, turn}
use Rattle.flow_core.specs.RawEnds.{StepsToRest}
use Rattle.flow_core.specs.Reports.{run_text}
use Rattle.flow_core.specs.Serve.{Refuses, Writes, WritesNot, IsAtRest, IsEnd, IsRunAloneTo, plant_in, stalled_in, reads_in, writes_failed}
use Rattle.flow_core.specs.declared.fault.Fault.{Fault}
use Rattle.flow_core.specs.declared.fault.Fault.TheVariants.{File, Script}
use Rattle.flow_core.specs.declared.script.ScriptFault.TheVariants.{BadLine, Read, Write, Memory}

-- what holds of a result by what held of it before
pub if_ok : {A E : Type 0} (r : Result A E) (P Q : A → Type 0) → IfOk r P → ((x : A) → P x → Q x) → IfOk r Q
if_ok (Ok x) P Q h k = k x h
if_ok (Err e) P Q h k = tt

pub if_err : {A E : Type 0} (r : Result A E) (P Q : E → Type 0) → IfErr r P → ((e : E) → P e → Q e) → IfErr r Q
if_err (Ok x) P Q h k = tt
if_err (Err e) P Q h k = k e h

pub same_count : (a b : ℕ) → a ≡ b + 0 → a ≡ b
same_count a b e = omega (arith, e)

pub no_more : (a n : ℕ) → n ≡ 0 → a ≡ a + n
no_more a n e = omega (arith, e)

module _ {A : Type 0} (IsDone : List ℕ → ℕ → Type 0) (r : Result A Refusal) where
  -- what was reported was written
  pub wrote : (out out' : Option (List ℕ)) (text : List ℕ) (status : ℕ) (result : Result ℕ Fault) → IsDone text status →
      IfOk result (λ s. (s ≡ status) × Appends out out' text) → IfOk result (Writes IsDone out out')
  wrote out out' text status (Ok s) h k = (text, subst (IsDone text) (sym k.0) h, k.1)
  wrote out out' text status (Err e) h k = tt

  -- or not
  pub wrote_not : {X : Type 0} (out out' : Option (List ℕ)) (text : List ℕ) (status : ℕ) (result : Result X Fault) → IsDone text status →
      IfErr result (λ fault. (fault ≡ Script Write) × AppendsBeginning out out' text) → IfErr result (WritesNot IsDone r out out')
  wrote_not out out' text status (Ok s) h k = tt
  wrote_not out out' text status (Err e) h k = subst (WritesNot IsDone r out out') (sym k.0) (text, status, h, k.1)

  -- nothing was reported
  pub refused_not : (out : Option (List ℕ)) (fault : Fault) → Refuses r fault → WritesNot IsDone r out out fault
  refused_not out (File fault) h = (h, refl)
  refused_not out (Script (BadLine n)) h = h
  refused_not out (Script Read) h = h
  refused_not out (Script Write) h = absurd h
  refused_not out (Script Memory) h = (h, refl)

  pub refused_writes : (fault : Fault) → Refuses r fault → writes_failed fault ≡ 0
  refused_writes (File fault) h = refl
  refused_writes (Script (BadLine n)) h = refl
  refused_writes (Script Read) h = refl
  refused_writes (Script Write) h = absurd h
  refused_writes (Script Memory) h = refl

  -- and nothing was read
  pub no_reads : {X : Type 0} (out out' : Option (List ℕ)) (result : Result X Fault) → IfErr result (WritesNot IsDone r out out') → reads_in result ≡ 0
  no_reads out out' (Ok s) h = refl
  no_reads out out' (Err (File fault)) h = refl
  no_reads out out' (Err (Script (BadLine n))) h = refl
  no_reads out out' (Err (Script Read)) h = absurd h
  no_reads out out' (Err (Script Write)) h = refl
  no_reads out out' (Err (Script Memory)) h = refl

-- what a run told was written, and its plant is given on
pub wrote_run : (IsDone : Option Opened → List ℕ → ℕ → Type 0) (out out' : Option (List ℕ)) (text : List ℕ) (status s : ℕ) (stalled t : Option (PlantState Kind)) →
    IsDone (option_map opened_of stalled) text status → s ≡ status → t ≡ stalled → Appends out out' text → Writes (IsDone (option_map opened_of t)) out out' s
wrote_run IsDone out out' text status s stalled t h e f wrote =
    (text, subst (λ (x : Option (PlantState Kind)). IsDone (option_map opened_of x) text s) (sym f) (subst (λ (n : ℕ). IsDone (option_map opened_of stalled) text n) (sym e) h), wrote)

-- a network that settled is at rest
pub at_rest : (net : Network) (caps : Capacities) (st : State) (settled : Settled) → HasSettled net caps st settled → (is_all_done st ≡ true → IsWhole net st) → IsAtRest net caps st
at_rest net caps st Done h whole = record { whole = whole; quiet = λ e. absurd (let both : true ≡ false = sym h ∙ e in cc) }
at_rest net caps st Quiet h whole = record { whole = whole; quiet = λ _. h.1 }

settled_rest : (net : Network) (caps : Capacities) (st : State) (settled : Settled) → HasSettled net caps st settled → HoldsSettled net st settled → IsAtRest net caps st
settled_rest net caps st Done h whole = record { whole = λ _. whole; quiet = λ e. absurd (let both : true ≡ false = sym h ∙ e in cc) }
settled_rest net caps st Quiet h whole = record { whole = λ e. absurd (let both : true ≡ false = sym e ∙ h.0 in cc); quiet = λ _. h.1 }

-- what is told of a plant that settled
pub ended : (p : PlantState Kind) (text : List ℕ) (settled : Settled) (done : Bool) (status : ℕ) (stalled : Option Opened) → HasSettled (net_of meaning_of p.graph) p.capacities p.state settled →
    done ≡ is_all_done p.state → (done ≡ true → IsWhole (net_of meaning_of p.graph) p.state) → text ≡ run_text (drafted p.graph) p.state → status ≡ (if done then 0 else 3) →
    stalled ≡ (if done then None else Some (opened_of p)) → IsEnd (opened_of p) stalled text status
ended p text settled done status stalled rests all whole tells well left = record {
  rests = at_rest (net_of meaning_of p.graph) p.capacities p.state settled rests (λ e. whole (all ∙ e));
  told = tells;
  well = well ∙ ap (λ (b : Bool). if b then 0 else 3) all;
  left = left ∙ ap (λ (b : Bool). if b then None else Some (opened_of p)) all;
}

-- a plant that settled behind its closing is at rest
pub steps_to_rest : (p q r : PlantState Kind) (settled : Settled) → q ≡ with_all_closed meaning_of p → r ≡ in_state q r.state →
    StepsLead (net_of meaning_of q.graph) q.capacities turn q.state r.state → HasSettled (net_of meaning_of r.graph) r.capacities r.state settled →
    HoldsSettled (net_of meaning_of r.graph) r.state settled → StepsToRest (opened_of p) (opened_of r)
steps_to_rest p q r settled closes same steps rests whole =
    let of : r ≡ in_state p r.state = same ∙ ap (λ (x : PlantState Kind). in_state x r.state) closes in
    record {
      same = ap opened_of of;
      steps = subst (λ (x : PlantState Kind). StepsLead (net_of meaning_of x.graph) x.capacities turn x.state r.state) closes steps;
      rests = settled_rest (net_of meaning_of r.graph) r.capacities r.state settled rests whole;
    }

-- the plant of a file came to rest block by block, and what is told of it then
pub ran : (file text : List ℕ) (status : ℕ) (p r : Opened) (stalled : Option Opened) → plant_in file ≡ Ok p → StepsToRest p r → IsEnd r stalled text status → IsRunAloneTo file stalled text status
ran file text status p r stalled opens to is = (
  record {
    plant = p;
    opens = opens;
    last = r.state;
    steps = to.steps;
    rests = subst (λ (x : Opened). IsAtRest x.draft.net x.capacities r.state) to.same is.rests;
    told = is.told ∙ ap (λ (x : Opened). run_text x.draft r.state) to.same;
    well = is.well;
  },
  is.left ∙ ap (λ (x : Opened). stalled_in x r.state) to.same,
)
