-- Every call keeps a state sound.
use Rattle.std.proofs.Common.{◌≡◌, ℕ, ◌<◌, Bool, true, not, length, ltb-true}
use Rattle.std.specs.Prelude.{nat_lt, ◌&&◌}
use Rattle.std.proofs.lemmas.Bool.{and_parts}
use Rattle.stream_model.specs.Network.{Network, State, progress_at, role_at, is_keeper}
use Rattle.stream_model.specs.Machine.{Capacities, Call, Feed, Close, Set, Claim, Commit, Abandon, Read, Job, Reply, is_in_flight, commit_of, abandon_of, read_of, jobs_agree, job_of, next}
use Rattle.stream_laws.specs.CanRun.{CanRun}
use Rattle.machine_laws.specs.Sound.{Sound, CallsKeepSound}
use Rattle.machine_laws.proofs.Choices.{if_both}
use Rattle.machine_laws.proofs.Handing.{feed-keeps, close-keeps, set-keeps}
use Rattle.machine_laws.proofs.Moving.{claim-keeps, committed, abandoned}

-- a job in flight is that of a block of the network with something claimed
pub record InFlight (net : Network) (st : State) (b : ℕ) : Type 0 where
  pub member : b < length net.nodes
  pub some : 0 < (progress_at st.progress b).claimed

module _ (net : Network) (can : CanRun net) (caps : Capacities) (st : State) (sound : Sound net caps st) where
  abbrev Stays : Reply × State → Type 0
  Stays r = Sound net caps r.1

  pub in_flight : (own : Bool) (job : Job) → is_in_flight net st own job ≡ true → InFlight net st job.block
  in_flight own job e =
      let s = progress_at st.progress job.block in
      let agree = and_parts (own && nat_lt job.block (length net.nodes) && nat_lt 0 s.claimed) (jobs_agree job (job_of net st job.block s.claimed)) e in
      let some = and_parts (own && nat_lt job.block (length net.nodes)) (nat_lt 0 s.claimed) agree.0 in
      let member = and_parts own (nat_lt job.block (length net.nodes)) some.0 in
      record { member = ltb-true job.block (length net.nodes) member.1; some = ltb-true 0 s.claimed some.1 }

  commit-keeps : (own : Bool) (job : Job) → Sound net caps (commit_of net st own job).1
  unfolding commit_of
  commit-keeps own job =
      if_both (is_in_flight net st own job) _ _ Stays
      (λ e. let flight = in_flight own job e in committed net can caps st sound job.block flight.member flight.some) (λ _. sound)

  abandon-keeps : (own : Bool) (job : Job) → Sound net caps (abandon_of net st own job).1
  unfolding abandon_of
  abandon-keeps own job =
      if_both (is_in_flight net st own job) _ _ Stays
      (λ e. let flight = in_flight own job e in abandoned net can caps st sound job.block flight.member flight.some) (λ _. sound)

  read-keeps : (b from max : ℕ) → Sound net caps (read_of net st b from max).1
  unfolding read_of
  read-keeps b from max =
      if_both (not (nat_lt b (length net.nodes))) _ _ Stays (λ _. sound)
      (λ _. if_both (not (is_keeper (role_at net b))) _ _ Stays (λ _. sound) (λ _. if_both (nat_lt (progress_at st.progress b).firings from) _ _ Stays (λ _. sound) (λ _. sound)))

  keeps : (call : Call) → Sound net caps (next net caps st call).1
  keeps (Feed b t xs ms) = feed-keeps net caps st sound b t xs ms
  keeps (Close b) = close-keeps net caps st sound b
  keeps (Set b at v) = set-keeps net caps st sound b at v
  keeps (Claim b max) = if_both (nat_lt b (length net.nodes)) _ _ Stays (λ e. claim-keeps net can caps st sound b (ltb-true b (length net.nodes) e) max) (λ _. sound)
  keeps (Commit own job) = commit-keeps own job
  keeps (Abandon own job) = abandon-keeps own job
  keeps (Read b from max) = read-keeps b from max

pub calls_keep_sound : CallsKeepSound
calls_keep_sound net caps st can sound call = keeps net can caps st sound call
