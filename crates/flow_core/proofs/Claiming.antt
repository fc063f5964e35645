-- Kept jobs, as calls leave them.
use Rattle.std.proofs.Common.{◌≡◌, ◌≢◌, ℕ, ◌<◌, Bool, true, false, List, length, set, Option, Some, None, refl, sym, ap, ◌∙◌, subst, arith, inl, inr, length-set, get_or, eqb-true}
use Rattle.std.specs.Prelude.{◌==◌, ◌&&◌, nat_lt, replicate}
use Rattle.std.specs.Cmp.{IsEquivalence}
use Rattle.std.specs.Prelude.{nat_eq}
use Rattle.std.proofs.lemmas.Bool.{and_from, lt-ltb}
use Rattle.std.proofs.lemmas.Cmp.{nat_eq_equiv}
use Rattle.std.proofs.lemmas.List.{get_or-set_same, get_or-set_other, map-set, set-get_or, get_or_default, length-map}
use Rattle.std.proofs.Math.ListN.{get_or-map}
use Rattle.std.proofs.lemmas.Option.{slice_get_cases}
use Rattle.std.proofs.lemmas.Simd.{splat_is_map}
use Rattle.numbers.proofs.Mapped.{map_replicate}
use Rattle.stream_model.specs.Meaning.{Meaning}
use Rattle.stream_model.specs.Network.{Network, State, Progress, progress_at, no_progress}
use Rattle.stream_model.specs.Machine as machine
use Rattle.stream_model.specs.Machine.{Capacities, Call, Job, Reply, with_progress, next, abandon_of, commit_of, is_in_flight, job_of, jobs_agree}
use Rattle.stream_laws.specs.CanRun.{CanRun}
use Rattle.machine_laws.specs.Sound.{Sound}
use Rattle.machine_laws.specs.Stays.{in_flight, gives_back}
use Rattle.machine_laws.proofs.Agreeing.{jobs_agree-same}
use Rattle.flowgraph.specs.Flowgraph.{Flowgraph, net_of, node_of}
use Rattle.claimed_work.specs.Jobs.{JobState}
use Rattle.plant.specs.Own.{is_own}
use Rattle.plant.specs.Answers.{takes_memory}
use Rattle.script_text.specs.Replies.{line_text, claimed_text}
use Rattle.plant.specs.Plant.{PlantState}
use Rattle.flow_core.specs.Session.{SessionState, KeepsJobs, IsFlying, Gives, is_there, kept_in, kept_by, told, give_back, reply_line, none_kept}
use Rattle.machine_laws.proofs.Claiming.{claims}
use Rattle.flow_core.proofs.Flying.{Leaves, block_of, call_leaves}

not_same : (b c : ℕ) → (b == c) ≡ false → c ≡ b → ⊥
not_same b c e same = let yes : nat_eq b b ≡ false = ap (λ k. nat_eq b k) (sym same) ∙ e in let no = nat_eq_equiv.refl b in absurd (let contrary : true ≡ false = sym no ∙ yes in cc)

module _ {B : Type 0} (net : Network) (graph : Flowgraph B) (st after : State) (jobs : List (Option (JobState B))) (keeps : KeepsJobs net graph st jobs) where
  flies_on : (b : ℕ) → Leaves net st after b → (job : JobState B) → IsFlying net graph st b job → IsFlying net graph after b job
  flies_on b leaves job f = let l = leaves f.some in record { graph_is = f.graph_is; some = l.0; flight = f.flight ∙ sym l.1 }

  -- a call that leaves all claims
  pub keeps_on : ((b : ℕ) → b < length net.nodes → Leaves net st after b) → KeepsJobs net graph after jobs
  keeps_on leaves = record { places = keeps.places; flying = λ b in' job at. flies_on b (leaves b in') job (keeps.flying b in' job at) }

  -- one that leaves all but that of block b, whose job is now another or none
  pub keeps_set : (b : ℕ) (x : Option (JobState B)) → b < length jobs → ((c : ℕ) → c < length net.nodes → (b == c) ≡ false → Leaves net st after c) →
      ((job : JobState B) → x ≡ Some job → IsFlying net graph after b job) → KeepsJobs net graph after (set jobs b x)
  keeps_set b x in' leaves own = record { places = length-set jobs b x ∙ keeps.places; flying = λ c in'' job at. by_test c in'' job at (b == c) refl }
    where
      by_test : (c : ℕ) → c < length net.nodes → (job : JobState B) → get_or (set jobs b x) c None ≡ Some job → (t : Bool) → (b == c) ≡ t → IsFlying net graph after c job
      by_test c in'' job at true e =
          let same : b ≡ c = eqb-true b c e in
          subst (λ k. IsFlying net graph after k job) same (own job (sym (get_or-set_same jobs b x None in') ∙ ap (λ k. get_or (set jobs b x) k None) same ∙ at))
      by_test c in'' job at false e =
          flies_on c (leaves c in'' e) job (keeps.flying c in'' job
          (sym (get_or-set_other jobs b c x None (λ same. not_same b c e same)) ∙ at))

pub kept_set : {J : Type 0} (jobs : List (Option J)) (b : ℕ) (x : Option J) → kept_in (set jobs b x) ≡ set (kept_in jobs) b (is_there x)
kept_set jobs b x = map-set is_there jobs b x

pub kept_at : {J : Type 0} (jobs : List (Option J)) (b : ℕ) (x : Option J) → get_or jobs b None ≡ x → get_or (kept_in jobs) b false ≡ is_there x
kept_at jobs b x e = get_or-map is_there jobs b None ∙ ap is_there e

-- at first none is kept
pub none_at_first : {B J : Type 0} (p : PlantState B) (jobs : List (Option J)) (n : ℕ) → jobs ≡ replicate n None → n ≡ length p.graph.blocks →
    ◌≡◌ {A = SessionState B} (record { plant = p; kept = kept_in jobs }) (record { plant = p; kept = none_kept p })
none_at_first {B} {J} p jobs n e count =
    ap (λ (kept : List Bool). (let s : SessionState B = record { plant = p; kept = kept } in s))
    (ap (λ (js : List (Option J)). kept_in js) e ∙ map_replicate is_there n None ∙ splat_is_map p.graph.blocks n false (sym count))

-- what is found there by another default
one_at : {J : Type 0} (jobs : List (Option J)) (b : ℕ) (d x : Option J) → b < length jobs → x ≡ get_or jobs b d → get_or jobs b None ≡ x
one_at jobs b d x in' e = get_or_default jobs b None d in' ∙ sym e

-- a call that gives a claim back: one in flight is not refused
pub record GivesBack (net : Network) (caps : Capacities) (st : State) (call : Bool → Job → Call) : Type 0 where
  pub block : (own : Bool) (job : Job) (b : ℕ) → gives_back b (call own job) ≡ (job.block == b)
  pub taken : (job : Job) → is_in_flight net st true job ≡ true → (next net caps st (call true job)).0 ≢ machine.Refused machine.foreign

commits : (net : Network) (st : State) (job : Job) → is_in_flight net st true job ≡ true → (commit_of net st true job).0 ≡ machine.Did (progress_at st.progress job.block).claimed
unfolding commit_of
commits net st job flies = rw flies refl

abandons : (net : Network) (st : State) (job : Job) → is_in_flight net st true job ≡ true → (abandon_of net st true job).0 ≡ machine.Abandoned
unfolding abandon_of
abandons net st job flies = rw flies refl

pub commit_gives_back : (net : Network) (caps : Capacities) (st : State) → GivesBack net caps st machine.Commit
commit_gives_back net caps st = record { block = λ own job b. refl; taken = λ job flies e. let is = sym (commits net st job flies) ∙ e in cc }

pub abandon_gives_back : (net : Network) (caps : Capacities) (st : State) → GivesBack net caps st machine.Abandon
abandon_gives_back net caps st = record { block = λ own job b. refl; taken = λ job flies e. let is = sym (abandons net st job flies) ∙ e in cc }

-- what is answered where no job is kept
none_back : {J : Type 0} (jobs : List (Option J)) (st : State) (b : ℕ) (now : Reply × State) (line : List ℕ) → get_or jobs b None ≡ None → line ≡ reply_line (machine.Refused machine.foreign) →
    Gives (give_back (record { state = st; kept = kept_in jobs }) b now) (record { state = st; kept = kept_in jobs }) (record { state = st; kept = kept_in (set jobs b None) }) line
none_back jobs st b now line none l =
    let no = kept_at jobs b None none in
    let same : set jobs b None ≡ jobs = ap (λ x. set jobs b x) (sym none) ∙ set-get_or jobs b None in
    rw no (inl (l, ap (λ js. record { state = st; kept = kept_in js }) same))

-- and where one is, and it comes back
one_back : {J : Type 0} (jobs : List (Option J)) (job : J) (st after : State) (b : ℕ) (now : Reply × State) (reply : Reply) (line : List ℕ) → get_or jobs b None ≡ Some job →
    now.0 ≡ reply → after ≡ now.1 → line ≡ reply_line reply →
    Gives (give_back (record { state = st; kept = kept_in jobs }) b now) (record { state = st; kept = kept_in jobs }) (record { state = after; kept = kept_in (set jobs b None) }) line
one_back jobs job st after b now reply line one is to l =
    let yes = kept_at jobs b (Some job) one in
    let kept = kept_set jobs b None in
    rw yes (inl (l ∙ ap reply_line (sym is), ap (λ s. record { state = s; kept = kept_in (set jobs b None) }) to ∙ ap (λ ks. record { state = now.1; kept = ks }) kept))

-- the reply to a claim that is kept
pub claimed_gives : {J : Type 0} (jobs : List (Option J)) (job : J) (st after : State) (b : ℕ) (now : Reply × State) (claimed : Job) (first count : ℕ) (line : List ℕ) → first ≡ claimed.first → count ≡ claimed.count →
    machine.Claimed claimed ≡ now.0 → after ≡ now.1 → line ≡ line_text (claimed_text first count) →
    Gives (told (takes_memory now.0) (kept_by b (kept_in jobs) now.0) now) (record { state = st; kept = kept_in jobs }) (record { state = after; kept = kept_in (set jobs b (Some job)) }) line
claimed_gives jobs job st after b now claimed first count line f n is to l =
    inl (
      l ∙ ap (λ k. line_text (claimed_text k count)) f ∙ ap (λ k. line_text (claimed_text claimed.first k)) n ∙ ap reply_line is,
      ap (λ s. record { state = s; kept = kept_in (set jobs b (Some job)) }) to ∙ ap (λ ks. record { state = now.1; kept = ks }) (kept_set jobs b (Some job) ∙ ap (λ r. kept_by b (kept_in jobs) r) is),
    )

module _ {B : Type 0} (net : Network) (caps : Capacities) (st : State) (can : CanRun net) (sound : Sound net caps st) (graph : Flowgraph B) (jobs : List (Option (JobState B))) (keeps : KeepsJobs net graph st jobs)
    (b : ℕ) (in' : b < length jobs) where
  inside : b < length net.nodes
  inside = subst (λ n. b < n) keeps.places in'

  none_keeps : get_or jobs b None ≡ None → KeepsJobs net graph st (set jobs b None)
  none_keeps none = subst (KeepsJobs net graph st) (sym (ap (λ x. set jobs b x) (sym none) ∙ set-get_or jobs b None)) keeps

  module _ (job : JobState B) (one : get_or jobs b None ≡ Some job) where
    flies : IsFlying net graph st b job
    flies = keeps.flying b inside job one

    given_block : job.job.block ≡ b
    given_block = ap (λ (j : Job). j.block) flies.flight ∙ block_of net st b (progress_at st.progress b).claimed

    own_block : (eq : B → B → Bool) → IsEquivalence eq → b < length graph.blocks → is_own eq graph job.graph job.job.block ≡ true
    own_block eq laws low =
        rw (flies.graph_is, given_block)
        (elim (slice_get_cases graph.blocks b).1 [
          | inl found ↦ (let e = found.2 in rw e (laws.refl found.0.block))
          | inr past ↦ absurd (let edge = past.0 in omega (arith, low, edge))
        ])

    module _ (call : Bool → Job → Call) (back : GivesBack net caps st call) (own : Bool) where
      back_keeps : KeepsJobs net graph (next net caps st (call own job.job)).1 (set jobs b None)
      back_keeps =
          keeps_set net graph st (next net caps st (call own job.job)).1 jobs keeps b None in'
          (λ c in'' other. call_leaves net caps st can sound (call own job.job) c in'' (back.block own job.job c ∙ ap (λ k. k == c) given_block ∙ other)) (λ j no. absurd (cc))

      back_is : own ≡ true → next net caps st (call own job.job) ≡ next net caps st (call true (in_flight net st b))
      back_is same = ap (λ o. next net caps st (call o job.job)) same ∙ ap (λ j. next net caps st (call true j)) flies.flight

      back_comes : own ≡ true → (next net caps st (call own job.job)).0 ≡ machine.Refused machine.foreign → ⊥
      unfolding job_of
      back_comes same e =
          let count = (progress_at st.progress b).claimed in
          let there = and_from (nat_lt b (length net.nodes)) (nat_lt 0 count) (lt-ltb b (length net.nodes) inside) (lt-ltb 0 count flies.some) in
          let flying = and_from (nat_lt b (length net.nodes) && nat_lt 0 count) (jobs_agree (in_flight net st b) (job_of net st b count)) there (jobs_agree-same (in_flight net st b) (in_flight net st b) refl) in
          back.taken (in_flight net st b) flying (ap (λ r. r.0) (sym (back_is same)) ∙ e)

  -- a claim that claims nothing leaves all claims
  pub claim_keeps : (max : ℕ) (after : State) → after ≡ (next net caps st (machine.Claim b max)).1 → KeepsJobs net graph after jobs
  claim_keeps max after e =
      subst (λ s. KeepsJobs net graph s jobs) (sym e) (keeps_on net graph st (next net caps st (machine.Claim b max)).1 jobs keeps (λ c in''. call_leaves net caps st can sound (machine.Claim b max) c in'' refl))

  -- and one that claims is kept
  pub claimed_keeps : (max : ℕ) (after : State) (job : JobState B) → job.graph ≡ graph → machine.Claimed job.job ≡ (next net caps st (machine.Claim b max)).0 → after ≡ (next net caps st (machine.Claim b max)).1 →
      KeepsJobs net graph after (set jobs b (Some job))
  unfolding job_of
  claimed_keeps max after job own is e =
      let does = claims net caps st b max job.job (sym is) in
      let to : after ≡ with_progress st b (record (progress_at st.progress b) { claimed = does.count }) = e ∙ does.state in
      let low : b < length st.progress = (let n = sound.progress_count in let i = inside in omega (arith, n, i)) in
      let now : progress_at after.progress b ≡ record (progress_at st.progress b) { claimed = does.count } =
      ap (λ (s : State). progress_at s.progress b) to ∙ get_or-set_same st.progress b (record (progress_at st.progress b) { claimed = does.count }) no_progress low in
      let flies : in_flight net (with_progress st b (record (progress_at st.progress b) { claimed = does.count })) b ≡ job_of net st b does.count =
      (let s = get_or-set_same st.progress b (record (progress_at st.progress b) { claimed = does.count }) no_progress low in rw s refl) in
      let count : (progress_at after.progress b).claimed ≡ does.count = ap (λ (p : Progress). p.claimed) now in
      keeps_set net graph st after jobs keeps b (Some job) in'
      (λ c in'' other. subst (λ s. Leaves net st s c) (sym e) (call_leaves net caps st can sound (machine.Claim b max) c in'' refl))
      (λ j same. subst (IsFlying net graph after b) (let eq : Some job ≡ Some j = same in cc)
      (record { graph_is = own; some = (let k = does.some in omega (arith, count, k)); flight = does.job_is ∙ sym (ap (λ s. in_flight net s b) to ∙ flies) }))

-- What a command leaves that gives the claim of a block's kept job back.
module _ {B : Type 0} (meaning : B → Meaning) (plant : PlantState B) (runs : CanRun (net_of meaning plant.graph)) (sound : Sound (net_of meaning plant.graph) plant.capacities plant.state)
    (jobs : List (Option (JobState B))) (keeps : KeepsJobs (net_of meaning plant.graph) plant.graph plant.state jobs) (b : ℕ) (in' : b < length jobs) (default : Option (JobState B)) where
  abbrev net : Network
  net = net_of meaning plant.graph

  -- where none is kept
  module _ (none : None ≡ get_or jobs b default) where
    pub none_stays : KeepsJobs net plant.graph plant.state (set jobs b None)
    none_stays = none_keeps net plant.capacities plant.state runs sound plant.graph jobs keeps b in' (one_at jobs b default None in' none)

    pub none_answered : (now : Reply × State) (line : List ℕ) → line ≡ reply_line (machine.Refused machine.foreign) →
        Gives (give_back (record { state = plant.state; kept = kept_in jobs }) b now) (record { state = plant.state; kept = kept_in jobs }) (record { state = plant.state; kept = kept_in (set jobs b None) }) line
    none_answered now line e = none_back jobs plant.state b now line (one_at jobs b default None in' none) e

  module _ (job : JobState B) (some : Some job ≡ get_or jobs b default) (call : Bool → Job → Call) (back : GivesBack net plant.capacities plant.state call) (eq : B → B → Bool) (laws : IsEquivalence eq) where
    abbrev own : Bool
    own = is_own eq plant.graph job.graph job.job.block

    abbrev now : Reply × State
    now = next net plant.capacities plant.state (call own job.job)

    one : get_or jobs b None ≡ Some job
    one = one_at jobs b default (Some job) in' some

    is_its_own : own ≡ true
    is_its_own =
        own_block net plant.capacities plant.state runs sound plant.graph jobs keeps b in' job one eq laws
        (subst (λ (n : ℕ). b < n) (keeps.places ∙ length-map plant.graph.blocks (node_of meaning)) in')

    pub given_keeps : KeepsJobs net plant.graph now.1 (set jobs b None)
    given_keeps = back_keeps net plant.capacities plant.state runs sound plant.graph jobs keeps b in' job one call back own

    pub given_comes : now.0 ≡ machine.Refused machine.foreign → ⊥
    given_comes = back_comes net plant.capacities plant.state runs sound plant.graph jobs keeps b in' job one call back own is_its_own

    pub given_answered : (reply : Reply) (line : List ℕ) → now.0 ≡ reply → line ≡ reply_line reply →
        Gives (give_back (record { state = plant.state; kept = kept_in jobs }) b (next net plant.capacities plant.state (call true (in_flight net plant.state b))))
        (record { state = plant.state; kept = kept_in jobs }) (record { state = now.1; kept = kept_in (set jobs b None) }) line
    given_answered reply line is e =
        let same = back_is net plant.capacities plant.state runs sound plant.graph jobs keeps b in' job one call back own is_its_own in
        one_back jobs job plant.state now.1 b (next net plant.capacities plant.state (call true (in_flight net plant.state b))) reply line one (sym (ap (λ r. r.0) same) ∙ is) (ap (λ r. r.1) same) e
