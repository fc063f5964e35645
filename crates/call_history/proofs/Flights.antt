-- How many claims are in flight, call by call.
use Rattle.std.proofs.Common.{◌≡◌, ℕ, ◌+◌, ◌<◌, Bool, true, false, List, [], ◌∷◌, length, refl, sym, ap, arith, cond, ltb-true, eqb-true, ℤ}
use Rattle.std.specs.Prelude.{nat_lt, ◌==◌, ◌&&◌, sum_by, not, Option, Some, None}
use Rattle.std.specs.List.{list_all}
use Rattle.std.proofs.lemmas.Bool.{and_parts}
use Rattle.std.proofs.lemmas.List.Sums.{sum_by-set, sum_by-cons}
use Rattle.stream_model.specs.declared.vocabulary.ItemType.{ItemType}
use Rattle.stream_model.specs.declared.vocabulary.Wanted.{Wanted}
use Rattle.stream_model.specs.Numbers.{types_agree}
use Rattle.stream_model.specs.Settings.{Value}
use Rattle.stream_model.specs.Tags.{Mark}
use Rattle.stream_model.specs.Network.{Network, State, Progress, no_progress, node_at, handed_at, progress_at, role_at, is_source, is_keeper}
use Rattle.stream_model.specs.Claims.{Decision, IsDone, IsBusy, Ends, Fires, LacksItems, LacksRoom, decide}
use Rattle.stream_model.specs.Machine as machine
use Rattle.stream_model.specs.Machine.{Capacities, Job, Reply, job_of, counts_of, claim_of, claimed_by, with_progress, ended, next, commit_of, is_in_flight, jobs_agree, feed_of, close_of, set_of, read_of, set_wanted, place_setting, marks_fit, is_wanted, floor_of}
use Rattle.machine_laws.specs.Stays.{in_flight}
use Rattle.machine_laws.proofs.Choices.{if_both}
use Rattle.machine_laws.proofs.Agreeing.{jobs_same}
use Rattle.call_history.specs.Recorded.{flights_in}
use Rattle.machine_laws.proofs.Claiming.{claims}

abbrev flies : Progress → ℕ
flies s = cond (s.claimed == 0) 0 1

-- the progress of one block is written over
written : (st : State) (b : ℕ) (s : Progress) → b < length st.progress → flights_in (with_progress st b s) + flies (progress_at st.progress b) ≡ flights_in st + flies s
written st b s in' = sum_by-set flies st.progress b s no_progress in'

flying : (s : Progress) → 0 < s.claimed → flies s ≡ 1
flying s some = ap (λ t. cond {A = ℕ} t 0 1) (at (s.claimed == 0) refl)
  where
    at : (t : Bool) → (s.claimed == 0) ≡ t → (s.claimed == 0) ≡ false
    at false e = e
    at true e = absurd (let none = eqb-true s.claimed 0 e in omega (arith, none, some))

grounded : (s : Progress) → s.claimed ≡ 0 → flies s ≡ 0
grounded s none = ap (λ (n : ℕ). cond {A = ℕ} (n == 0) 0 1) none

-- a claim's reply that hands firings out
abbrev pub hands_out : Reply → Bool
hands_out (machine.Claimed job) = true
hands_out _ = false

pub not_handed : (r : Reply) → machine.Done ≡ r → hands_out r ≡ false
not_handed r e = ap hands_out (sym e)

-- nothing is claimed
pub none_flies : (ps : List Progress) → list_all (λ s. s.claimed == 0) ps ≡ true → 0 ≡ sum_by flies ps
none_flies [] e = refl
none_flies (s ∷ ps) e =
    let parts = and_parts (s.claimed == 0) (list_all (λ s. s.claimed == 0) ps) e in
    omega (arith, grounded s (eqb-true s.claimed 0 parts.0), none_flies ps parts.1, sum_by-cons flies s ps)

module _ (net : Network) (caps : Capacities) (st : State) (many : length st.progress ≡ length net.nodes) where
  -- a claim that hands firings out is one more
  pub one_more : (b max : ℕ) (job : Job) → (next net caps st (machine.Claim b max)).0 ≡ machine.Claimed job →
      flights_in (next net caps st (machine.Claim b max)).1 ≡ flights_in st + 1
  one_more b max job e =
      let does = claims net caps st b max job e in
      let s : Progress = record (progress_at st.progress b) { claimed = does.count } in
      let more = written st b s (rw many does.inside) in
      let now = ap flights_in does.state in
      omega (arith, more, flying s does.some, grounded (progress_at st.progress b) does.idle, now)

  -- and any other leaves as many
  ended_same : (b : ℕ) → b < length net.nodes → flights_in (ended st b) ≡ flights_in st
  ended_same b in' =
      let s = progress_at st.progress b in
      let e = written st b (record s { done = true }) (rw many in') in
      omega (arith, e)

  other_by : (b : ℕ) → b < length net.nodes → (d : Decision) → hands_out (claimed_by net st b d).0 ≡ false → flights_in (claimed_by net st b d).1 ≡ flights_in st
  other_by b in' IsDone rest = refl
  other_by b in' IsBusy rest = refl
  other_by b in' Ends rest = ended_same b in'
  other_by b in' (Fires count) rest = absurd (cc)
  other_by b in' (LacksItems p) rest = refl
  other_by b in' (LacksRoom p) rest = refl

  other_inside : (b max : ℕ) → b < length net.nodes → hands_out (claim_of net caps st b max).0 ≡ false → flights_in (claim_of net caps st b max).1 ≡ flights_in st
  unfolding claim_of
  other_inside b max in' = other_by b in' (decide (node_at net b) (counts_of net caps st b) max)

  pub none_more : (b max : ℕ) → hands_out (next net caps st (machine.Claim b max)).0 ≡ false → flights_in (next net caps st (machine.Claim b max)).1 ≡ flights_in st
  none_more b max = at (nat_lt b (length net.nodes)) refl
    where
      at : (t : Bool) → nat_lt b (length net.nodes) ≡ t → hands_out (cond t (claim_of net caps st b max) (machine.Refused machine.no_such_block, st)).0 ≡ false →
          flights_in (cond t (claim_of net caps st b max) (machine.Refused machine.no_such_block, st)).1 ≡ flights_in st
      at true e rest = other_inside b max (ltb-true b (length net.nodes) e) rest
      at false e rest = refl

  -- work that is taken back was that of a claim in flight, which is then one less
  pub record TakenBack (own : Bool) (job : Job) : Type 0 where
    pub same : commit_of net st true (in_flight net st job.block) ≡ commit_of net st own job
    pub less : flights_in (commit_of net st own job).1 + 1 ≡ flights_in st

  module _ (own : Bool) (job : Job) (is : is_in_flight net st own job ≡ true) where
    abbrev s : Progress
    s = progress_at st.progress job.block

    parts : (own && nat_lt job.block (length net.nodes) && nat_lt 0 s.claimed ≡ true) × (jobs_agree job (job_of net st job.block s.claimed) ≡ true)
    parts = and_parts (own && nat_lt job.block (length net.nodes) && nat_lt 0 s.claimed) (jobs_agree job (job_of net st job.block s.claimed)) is

    some : (own && nat_lt job.block (length net.nodes) ≡ true) × (nat_lt 0 s.claimed ≡ true)
    some = and_parts (own && nat_lt job.block (length net.nodes)) (nat_lt 0 s.claimed) parts.0

    its : (own ≡ true) × (nat_lt job.block (length net.nodes) ≡ true)
    its = and_parts own (nat_lt job.block (length net.nodes)) some.0

    same_job : in_flight net st job.block ≡ job
    same_job = sym (jobs_same job (job_of net st job.block s.claimed) parts.1)

    less_by : flights_in (with_progress st job.block (record s { firings = s.firings + s.claimed; claimed = 0 })) + 1 ≡ flights_in st
    less_by =
        let done : Progress = record s { firings = s.firings + s.claimed; claimed = 0 } in
        let e = written st job.block done (rw many (ltb-true job.block (length net.nodes) its.1)) in
        omega (arith, e, flying s (ltb-true 0 s.claimed some.1))

    taken_by_test : TakenBack own job
    unfolding commit_of
    taken_by_test = record {
      same = (λ k. commit_of net st (sym its.0 k) (same_job k));
      less = rw is less_by;
    }

  pub taken_back : (own : Bool) (job : Job) (count : ℕ) → (commit_of net st own job).0 ≡ machine.Did count → TakenBack own job
  unfolding commit_of
  taken_back own job count = at (is_in_flight net st own job) refl
    where
      at : (t : Bool) → is_in_flight net st own job ≡ t →
          (cond {A = Reply × State} t (machine.Did (progress_at st.progress job.block).claimed, with_progress st job.block (record (progress_at st.progress job.block) { firings = (progress_at st.progress job.block).firings + (progress_at st.progress job.block).claimed; claimed = 0 })) (machine.Refused machine.foreign, st)).0 ≡ machine.Did count →
          TakenBack own job
      at true e is = taken_by_test own job e
      at false e is = absurd (let no : machine.Refused machine.foreign ≡ machine.Did count = is in cc)

-- what is handed to a block, and a look, leave all claims
module _ (net : Network) (st : State) where
  abbrev Stays : Reply × State → Type 0
  Stays x = x.1.progress ≡ st.progress

  feed_stays : (b : ℕ) (t : ItemType) (xs : List ℤ) (ms : List Mark) → Stays (feed_of net st b t xs ms)
  unfolding feed_of
  feed_stays b t xs ms =
      let s = handed_at st.handed b in
      if_both (not (nat_lt b (length net.nodes))) _ _ Stays (λ _. refl)
      (λ _. if_both (not (is_source (role_at net b))) _ _ Stays (λ _. refl)
      (λ _. if_both (not (types_agree t (node_at net b).meaning.outputs.item)) _ _ Stays (λ _. refl)
      (λ _. if_both s.closed _ _ Stays (λ _. refl)
      (λ _. if_both (not (marks_fit s.tape xs ms)) _ _ Stays (λ _. refl)
      (λ _. if_both (nat_lt s.longest (length s.tape + length xs)) _ _ Stays (λ _. refl) (λ _. refl))))))

  close_stays : (b : ℕ) → Stays (close_of net st b)
  unfolding close_of
  close_stays b =
      if_both (not (nat_lt b (length net.nodes))) _ _ Stays (λ _. refl)
      (λ _. if_both (not (is_source (role_at net b))) _ _ Stays (λ _. refl)
      (λ _. if_both (handed_at st.handed b).closed _ _ Stays (λ _. refl) (λ _. refl)))

  abbrev Rests : Reply × State → Type 0
  Rests x = x.1 ≡ st

  pub read_rests : (b from max : ℕ) → Rests (read_of net st b from max)
  unfolding read_of
  read_rests b from max =
      if_both (not (nat_lt b (length net.nodes))) _ _ Rests (λ _. refl)
      (λ _. if_both (not (is_keeper (role_at net b))) _ _ Rests (λ _. refl)
      (λ _. if_both (nat_lt (progress_at st.progress b).firings from) _ _ Rests (λ _. refl) (λ _. refl)))

  placed_stays : (floor b at : ℕ) (v : Value) → Stays (place_setting floor st b at v)
  placed_stays floor b at v = if_both (nat_lt at floor) _ _ Stays (λ _. refl) (λ _. refl)

  wanted_stays : (b : ℕ) (at : Option ℕ) (v : Value) (w : Option Wanted) → Stays (set_wanted net st b at v w)
  wanted_stays b at v None = refl
  wanted_stays b None v (Some w) = if_both (not (is_wanted w v)) _ _ Stays (λ _. refl) (λ _. placed_stays (floor_of net st b) b (floor_of net st b) v)
  wanted_stays b (Some a) v (Some w) = if_both (not (is_wanted w v)) _ _ Stays (λ _. refl) (λ _. placed_stays (floor_of net st b) b a v)

  set_stays : (b : ℕ) (at : Option ℕ) (v : Value) → Stays (set_of net st b at v)
  unfolding set_of
  set_stays b at v = if_both (not (nat_lt b (length net.nodes))) _ _ Stays (λ _. refl) (λ _. wanted_stays b at v (node_at net b).meaning.setting)

  pub fed_same : (b : ℕ) (t : ItemType) (xs : List ℤ) (ms : List Mark) → flights_in (feed_of net st b t xs ms).1 ≡ flights_in st
  fed_same b t xs ms = ap (sum_by flies) (feed_stays b t xs ms)

  pub closed_same : (b : ℕ) → flights_in (close_of net st b).1 ≡ flights_in st
  closed_same b = ap (sum_by flies) (close_stays b)

  pub read_same : (b from max : ℕ) → flights_in (read_of net st b from max).1 ≡ flights_in st
  read_same b from max = ap flights_in (read_rests b from max)

  pub set_same : (b : ℕ) (at : Option ℕ) (v : Value) → flights_in (set_of net st b at v).1 ≡ flights_in st
  set_same b at v = ap (sum_by flies) (set_stays b at v)
